-- What is owed of a push from house c to house d, stated on the two houses: what holds at each state on the way, and at each way to end.
use Rattle.std.proofs.Common.{◌≡◌, ℕ, zero, suc, ◌+◌, ◌*◌, ◌<◌, ◌≤◌, Bool, true, false, ◌≢◌, ◌⊎◌, List, [], ◌∷◌, length, drop, sym, refl, ap, ◌∙◌, subst, ap₂, inl, inr, ⊎_elim, arith, length-drop}
use Rattle.model.specs.House.{House, Plain, Out, house_at, way_at, pushed, can_know, not_taken, weight}
use Rattle.model.specs.Device.{Device, stopped}
use Rattle.model.specs.Run.{Engine, Event, heard, lost, send, Step, World, a_letter}
use Rattle.model.specs.Promise.{PushMay, needs, KnownTaken}
use Rattle.model.proofs.Pushing.{knowing, after_more}
use Rattle.house.proofs.Course.{Course}
use Rattle.house.proofs.Fronts.{world, step_to}
use Rattle.house.proofs.Works.{Works, works_weaker, course_weaker, Goes}
use Rattle.house.proofs.Replies.{ReplyCourse}
use Rattle.house.proofs.Talk.{Talk, alone, calls, calls_nobody, works_talk}
use Rattle.house.proofs.Pushing.{pushed_none, needs_more, can_know_more, can_know_none}

pub none_left : (n : ℕ) (os : List Out) → os ≡ [] → length (drop n os) ≡ 0
none_left n os h = let z : length os ≡ 0 = ap length h in omega (arith, length-drop n os)

-- What the house that is written to does with a letter: it works on it for fewer than 2^24 acts, replies, and is at rest again; whenever it stops on the way, what
-- counts there is the house of before or that of after.
pub record Hears (e : Engine) (Up : House → World → Type 0) (Down : House → Device → Type 0) (h h' : House) (v : World) (l : List ℕ) : Type 0 where
  pub reply : List ℕ
  pub after : World
  pub acts : ℕ
  pub few : acts < 16777216
  pub course : ReplyCourse e (λ x. (cs : List ℕ) → Down h (stopped x cs) ⊎ Down h' (stopped x cs)) reply after acts v (heard l)
  pub at_rest : Up h' after

module _ (Up : ℕ → ℕ → House → World → Type 0) (Down : ℕ → ℕ → House → Device → Type 0) (pages b c d : ℕ) (s : Plain) where
  -- the pusher's house once it knows of so many more letters that they have come, and the other's once so many more have come
  abbrev pub here_knows : ℕ → House
  here_knows know = knowing (house_at s c) d know

  abbrev pub there_came : ℕ → House
  there_came more = after_more s c d more

  -- a stop of the pusher, when so many letters have come to the other: nothing was shown, and what is left is a house that knows of some of them
  abbrev pub PusherSafe : ℕ → Device → List (List ℕ) → Type 0
  PusherSafe more x rs = (rs ≡ []) × ((cs : List ℕ) → (know : ℕ) × (can_know s c d more know ≡ true) × Down b c (here_knows know) (stopped x cs))

  -- on the way: the other is at rest, so many letters have come to it
  abbrev pub PushSafe : Device → World → List (List ℕ) → Type 0
  PushSafe x v rs = (more : ℕ) × Up b d (there_came more) v × PusherSafe more x rs

  -- there is no room for the next letter
  abbrev pub NoRoom : ℕ → Type 0
  NoRoom more = (more < length (not_taken s c d)) × (weight (there_came more) < weight (there_came (suc more))) × (128 * pages < weight (there_came (suc more)))

  -- the push ends by itself: all came and is known, reply 0; or the next letter finds no room, reply 8
  pub record PushOver (w v : World) (ss : List (List ℕ)) (end : ℕ) : Type 0 where
    pub quiet : ss ≡ []
    pub more : ℕ
    pub know : ℕ
    pub here : Up b c (here_knows know) w
    pub there : Up b d (there_came more) v
    pub reply : ((end ≡ 0) × (more ≡ length (not_taken s c d)) × (know ≡ length (way_at (house_at s c).ways d).waiting)) ⊎ ((end ≡ 8) × (can_know s c d more know ≡ true) × NoRoom more)

  -- the line carried k letters and no more, reply 9: so many have come, which needs more letters of the line than that
  pub record PushLost (k : ℕ) (w v : World) (ss : List (List ℕ)) (end : ℕ) : Type 0 where
    pub quiet : ss ≡ []
    pub reply : end ≡ 9
    pub more : ℕ
    pub know : ℕ
    pub can : can_know s c d more know ≡ true
    pub short : k < needs s c d more
    pub here : Up b c (here_knows know) w
    pub there : Up b d (there_came more) v

  -- the same, and the other fell at the letter that was not carried: of it only the device is left
  pub record PushFell (k : ℕ) (w : World) (x : Device) (ss : List (List ℕ)) (end : ℕ) : Type 0 where
    pub quiet : ss ≡ []
    pub reply : end ≡ 9
    pub know : ℕ
    pub here : Up b c (here_knows know) w
    pub there : (cs : List ℕ) → (more : ℕ) × (can_know s c d more know ≡ true) × (k < needs s c d more) × Down b d (there_came more) (stopped x cs)

  -- a push to a house that has power, from the point where k letters were heard
  abbrev pub PushTalk : Engine → ℕ → World → World → Event → Type 0
  PushTalk e k w v ev = Talk e d PushSafe PushOver PushLost PushFell k w v ev []

  -- a push to a house without power: nothing changes; the reply is 9, or 0 if nothing waits
  abbrev pub DarkSafe : Device → World → List (List ℕ) → Type 0
  DarkSafe x v rs = (rs ≡ []) × ((cs : List ℕ) → Down b c (house_at s c) (stopped x cs))

  pub record DarkOver (w v : World) (ss : List (List ℕ)) (end : ℕ) : Type 0 where
    pub quiet : ss ≡ []
    pub here : Up b c (house_at s c) w
    pub reply : (end ≡ 9) ⊎ ((end ≡ 0) × ((way_at (house_at s c).ways d).waiting ≡ []))

  abbrev pub DarkTalk : Engine → ℕ → World → World → Event → Type 0
  DarkTalk e k w v ev = Talk e d DarkSafe DarkOver (λ j w₁ v₁ ss end. ⊥) (λ j w₁ x ss end. ⊥) k w v ev []

  -- The steps of a push, each with the talk from there on.

  -- the pusher works by itself
  pub push_works : (e : Engine) (k : ℕ) (v : World) (more n : ℕ) (w : World) (ev : Event) → Up b d (there_came more) v
      → Works e (λ x. PusherSafe more x []) (λ w₁ ev₁. PushTalk e k w₁ v ev₁) n w ev → PushTalk e k w v ev
  push_works e k v more n w ev up c₁ =
      works_talk e d PushSafe PushOver PushLost PushFell k v []
      (works_weaker e (λ x. PusherSafe more x []) (λ x. PushSafe x v []) (λ w₁ ev₁. PushTalk e k w₁ v ev₁) (λ w₁ ev₁. PushTalk e k w₁ v ev₁) (λ x p. (more, up, p)) (λ w₁ ev₁ t. t) c₁ n (omega arith))

  -- a letter: `more` letters have come, of which `know` can be known. Without a line the pusher comes to rest knowing of them, with reply 9, and the letters heard so
  -- far are fewer than the line needs; the other hears the letter, by which one more may come; and the talk goes on with the reply
  pub push_calls : (e : Engine) → ((h : House) (v : World) → Up b d h v → v.up ≡ true) → (k : ℕ) (u : Bool) (x : Device) (m m₁ : List ℕ) (v : World) (ev : Event) (l : List ℕ) (more more' know : ℕ)
      → e.step m ev ≡ step_to m₁ (send d l) → a_letter l ≡ true → PusherSafe more x [] → Up b d (there_came more) v
      → can_know s c d more know ≡ true → k < needs s c d more → Goes e (PusherSafe more) (λ w. Up b c (here_knows know) w) [] 9 (world u x m₁) lost []
      → more ≤ more' → more' ≤ length (not_taken s c d) → (H : Hears e (Up b d) (Down b d) (there_came more) (there_came more') v l)
      → PushTalk e (suc k) (world u x m₁) H.after (heard H.reply)
      → PushTalk e k (world u x m) v ev
  push_calls e powered k u x m m₁ v ev l more more' know q ok safe up can short g le all H rest =
      calls l H.reply g.0 H.after [] 9 H.acts (more, up, safe) (ap (λ (z : Step). z.act) q) ok (powered (there_came more) v up)
      (subst (λ z. Course e (λ y rs. PushSafe y v rs) g.0 [] 9 (world u x z) lost []) (sym (ap (λ (z : Step). z.memory) q))
      (course_weaker e (PusherSafe more) (λ y rs. PushSafe y v rs) g.0 [] 9 (λ y rs p. (more, up, p)) g.1))
      (record { quiet = refl; reply = refl; more = more; know = know; can = can; short = short; here = g.2; there = up })
      (works_weaker e _ _ _ _ falls (λ u₁ ev₁ z. record { safe = falls u₁.device z.safe; to = z.to; sends = z.sends; short = z.short; after = z.after }) H.course H.acts (omega arith)) H.few
      (subst (λ z. PushTalk e (suc k) (world u x z) H.after (heard H.reply)) (sym (ap (λ (z : Step). z.memory) q)) rest)
    where
      falls : (y : Device) → ((cs : List ℕ) → Down b d (there_came more) (stopped y cs) ⊎ Down b d (there_came more') (stopped y cs)) → PushFell k g.0 y [] 9
      falls y h = record {
        quiet = refl;
        reply = refl;
        know = know;
        here = g.2;
        there = λ cs. ⊎_elim (λ z. (more, can, short, z))
            (λ z. (more', can_know_more s c d more more' know le all can, let n = needs_more s c d more more' le in omega arith, z)) (h cs);
      }

  -- the end, by the pusher alone: all has come, or there is no room for the next
  pub push_ends : (e : Engine) (k : ℕ) (w v : World) (ev : Event) (more know end : ℕ) → Up b d (there_came more) v
      → ((end ≡ 0) × (more ≡ length (not_taken s c d)) × (know ≡ length (way_at (house_at s c).ways d).waiting)) ⊎ ((end ≡ 8) × (can_know s c d more know ≡ true) × NoRoom more)
      → Goes e (PusherSafe more) (λ w₁. Up b c (here_knows know) w₁) [] end w ev [] → PushTalk e k w v ev
  push_ends e k w v ev more know end up how g =
      alone g.0 [] end (course_weaker e (PusherSafe more) (λ y rs. PushSafe y v rs) g.0 [] end (λ y rs p. (more, up, p)) g.1)
      (record { quiet = refl; more = more; know = know; here = g.2; there = up; reply = how })

  -- the steps of a push to a house without power
  pub dark_works : (e : Engine) (k : ℕ) (v : World) (n : ℕ) (w : World) (ev : Event) → Works e (λ x. DarkSafe x v []) (λ w₁ ev₁. DarkTalk e k w₁ v ev₁) n w ev → DarkTalk e k w v ev
  dark_works e k v n w ev c₁ = works_talk e d DarkSafe DarkOver (λ j w₁ v₁ ss end. ⊥) (λ j w₁ x ss end. ⊥) k v [] c₁

  pub dark_calls : (e : Engine) (k : ℕ) (u : Bool) (x : Device) (m m₁ : List ℕ) (v : World) (ev : Event) (l : List ℕ) → e.step m ev ≡ step_to m₁ (send d l) → v.up ≡ false → DarkSafe x v []
      → Goes e (λ y rs. DarkSafe y v rs) (λ w. Up b c (house_at s c) w) [] 9 (world u x m₁) lost [] → DarkTalk e k (world u x m) v ev
  dark_calls e k u x m m₁ v ev l q dark safe g =
      calls_nobody d l g.0 [] 9 safe (ap (λ (z : Step). z.act) q) dark
      (subst (λ z. Course e (λ y rs. DarkSafe y v rs) g.0 [] 9 (world u x z) lost []) (sym (ap (λ (z : Step). z.memory) q)) g.1)
      (record { quiet = refl; here = g.2; reply = inl refl })

  pub dark_ends : (e : Engine) (k : ℕ) (w v : World) (ev : Event) → (way_at (house_at s c).ways d).waiting ≡ [] → Goes e (λ y rs. DarkSafe y v rs) (λ w₁. Up b c (house_at s c) w₁) [] 0 w ev [] → DarkTalk e k w v ev
  dark_ends e k w v ev none g = alone g.0 [] 0 g.1 (record { quiet = refl; here = g.2; reply = inr (refl, none) })

  -- A push letter by letter: State says where both houses are when `more` letters have come and k were heard on the line. From the last state to the end; and from each
  -- state over the next letter to the state after it, or to an end.
  module _ (e : Engine) (State : ℕ → ℕ → World → World → Event → Type 0)
      (at_end : (k : ℕ) (w v : World) (ev : Event) → State (length (not_taken s c d)) k w v ev → PushTalk e k w v ev)
      (one_letter : (more k : ℕ) (w v : World) (ev : Event) (o : Out) (rest : List Out) → drop more (not_taken s c d) ≡ o ∷ rest → State more k w v ev
      → ((k₁ : ℕ) (w₁ v₁ : World) (ev₁ : Event) → State (suc more) k₁ w₁ v₁ ev₁ → PushTalk e k₁ w₁ v₁ ev₁) → PushTalk e k w v ev) where
    pub letter_by_letter : (n more : ℕ) → n + more ≡ length (not_taken s c d) → (k : ℕ) (w v : World) (ev : Event) → State more k w v ev → PushTalk e k w v ev
    letter_by_letter zero more h k w v ev x = at_end k w v ev (subst (λ i. State i k w v ev) (omega arith) x)
    letter_by_letter (suc n) more h k w v ev x = by (letter_by_letter n (suc more) (omega arith)) (drop more (not_taken s c d)) refl
      where
        by : ((k₁ : ℕ) (w₁ v₁ : World) (ev₁ : Event) → State (suc more) k₁ w₁ v₁ ev₁ → PushTalk e k₁ w₁ v₁ ev₁) → (os : List Out) → drop more (not_taken s c d) ≡ os → PushTalk e k w v ev
        by go [] q = let l : length (drop more (not_taken s c d)) ≡ 0 = ap length q in absurd (omega (arith, length-drop more (not_taken s c d)))
        by go (o ∷ os) q = one_letter more k w v ev o os q x go

  -- From the ways to end to what may be said of a push.

  -- it ended, and the other is at rest
  pub record PushedUp (ls : ℕ) (up : Bool) (w v : World) (ss : List (List ℕ)) (end : ℕ) : Type 0 where
    pub more : ℕ
    pub know : ℕ
    pub may : PushMay pages s c d ls up ss end (pushed s c d more know)
    pub here : Up b c (here_knows know) w
    pub there : Up b d (there_came more) v

  pub over_may : (ls : ℕ) (up : Bool) (w v : World) (ss : List (List ℕ)) (end : ℕ) → PushOver w v ss end → PushedUp ls up w v ss end
  unfolding PushMay
  over_may ls up w v ss end o = record {
    more = o.more;
    know = o.know;
    here = o.here;
    there = o.there;
    may = (
      o.quiet,
      ⊎_elim (λ q. inl (q.0, ap₂ (λ i j. pushed s c d i j) q.1 q.2))
          (λ q. inr (o.more, o.know, q.1, refl, inr (q.0, q.2.0, q.2.1, q.2.2))) o.reply,
    );
  }

  pub lost_may : (ls : ℕ) (up : Bool) (w v : World) (ss : List (List ℕ)) (end : ℕ) → PushLost ls w v ss end → PushedUp ls up w v ss end
  unfolding PushMay
  lost_may ls up w v ss end o = record {
    more = o.more;
    know = o.know;
    here = o.here;
    there = o.there;
    may = (o.quiet, inr (o.more, o.know, o.can, refl, inl (o.reply, inr o.short)));
  }

  -- it ended, and the other has no power
  pub record PushedDown (ls : ℕ) (up : Bool) (w : World) (x : Device) (ss : List (List ℕ)) (end : ℕ) : Type 0 where
    pub more : ℕ
    pub know : ℕ
    pub may : PushMay pages s c d ls up ss end (pushed s c d more know)
    pub here : Up b c (here_knows know) w
    pub there : Down b d (there_came more) x

  pub fell_may : (ls : ℕ) (up : Bool) (w : World) (x : Device) (ss : List (List ℕ)) (end : ℕ) (cs : List ℕ) → PushFell ls w x ss end → PushedDown ls up w (stopped x cs) ss end
  unfolding PushMay
  fell_may ls up w x ss end cs o = let t = o.there cs in record {
    more = t.0;
    know = o.know;
    here = o.here;
    there = t.3;
    may = (o.quiet, inr (t.0, o.know, t.1, refl, inl (o.reply, inr t.2)));
  }

  pub dark_may : c ≢ d → KnownTaken s c d → (ls : ℕ) (w v : World) (ss : List (List ℕ)) (end : ℕ) → DarkOver w v ss end → PushMay pages s c d ls false ss end s
  unfolding PushMay
  dark_may ne kt ls w v ss end o = (
    o.quiet,
    ⊎_elim
        (λ q. inr (0, 0, can_know_none s c d 0 kt (omega arith), sym (pushed_none s c d ne), inl (q, inl refl)))
        (λ q. inl (q.0, sym (ap₂ (λ i j. pushed s c d i j) (none_left _ (way_at (house_at s c).ways d).waiting q.1) (ap length q.1) ∙ pushed_none s c d ne))) o.reply,
  )
