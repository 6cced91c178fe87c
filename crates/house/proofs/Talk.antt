-- A command that talks with another house by radio, in two-house form: the acts of the one who speaks, and at each letter that it sends both ways on: the line
-- is gone, or the other works on the letter and its reply is heard. Such a talk is one tree, whatever the line carries; each run of it is a way down the tree.
use Rattle.std.proofs.Common.{◌≡◌, ℕ, zero, suc, ◌+◌, ◌<◌, Bool, true, false, ◌&&◌, eqb, ◌⊎◌, List, [], ◌∷◌, ◌++◌, sym, refl, ap, ◌∙◌, subst, inl, inr, arith, eq-eqb}
use mathlib.Core.Bool.{false≢true}
use Rattle.model.specs.Mail.{pick}
use Rattle.model.specs.Device.{Device, Page, read_page, flushed}
use Rattle.model.specs.Run.{Engine, Event, page, next, heard, lost, read, write, flush, shows, send, World, Ran, ran, in_memory, on_device, queued, writable, replies, a_letter, heard_by, sent, runs, one_act, running}
use Rattle.house.proofs.Course.{Course, acts, whole_run, cut_run, safe_at}
use Rattle.house.proofs.Works.{Works, leads, works_read, works_write, works_flush}
use Rattle.house.proofs.Replies.{ReplyCourse, replied, whole_reply, safe_reply}

-- What may be asked of a talk: at each state on the way, of the speaker's device, the other's world and what was shown (Safe); where it ends by itself (Over); where
-- it ends because the line carried so many letters and no more, with the other as it was (Lost), or fallen somewhere in its work on the letter that was not
-- carried, of which only its device is left (Fell). The number after these is how many letters were heard so far.
pub data Talk (e : Engine) (d : ℕ) (Safe : Device → World → List (List ℕ) → Type 0) (Over : World → World → List (List ℕ) → ℕ → Type 0)
    (Lost : ℕ → World → World → List (List ℕ) → ℕ → Type 0) (Fell : ℕ → World → Device → List (List ℕ) → ℕ → Type 0) : ℕ → World → World → Event → List (List ℕ) → Type 0 where
  -- from here on it sends nothing
  alone : {k : ℕ} {w v : World} {ev : Event} {ss : List (List ℕ)} (w' : World) (ss' : List (List ℕ)) (end : ℕ)
      → Course e (λ x rs. Safe x v rs) w' ss' end w ev ss → Over w' v ss' end → Talk e d Safe Over Lost Fell k w v ev ss
  talk_read : {k : ℕ} {w v : World} {ev : Event} {ss : List (List ℕ)} (p : ℕ) → Safe w.device v ss → (e.step w.memory ev).act ≡ read p
      → Talk e d Safe Over Lost Fell k (in_memory w (e.step w.memory ev).memory) v (page (read_page w.device p)) ss → Talk e d Safe Over Lost Fell k w v ev ss
  talk_write : {k : ℕ} {w v : World} {ev : Event} {ss : List (List ℕ)} (p : ℕ) (bs : Page) → Safe w.device v ss → (e.step w.memory ev).act ≡ write p bs → writable w.device p bs ≡ true
      → Talk e d Safe Over Lost Fell k (on_device w (e.step w.memory ev).memory (queued w.device p bs)) v next ss → Talk e d Safe Over Lost Fell k w v ev ss
  talk_flush : {k : ℕ} {w v : World} {ev : Event} {ss : List (List ℕ)} → Safe w.device v ss → (e.step w.memory ev).act ≡ flush
      → Talk e d Safe Over Lost Fell k (on_device w (e.step w.memory ev).memory (flushed w.device)) v next ss → Talk e d Safe Over Lost Fell k w v ev ss
  talk_show : {k : ℕ} {w v : World} {ev : Event} {ss : List (List ℕ)} (s : List ℕ) → Safe w.device v ss → (e.step w.memory ev).act ≡ shows s
      → Talk e d Safe Over Lost Fell k (in_memory w (e.step w.memory ev).memory) v next (ss ++ s ∷ []) → Talk e d Safe Over Lost Fell k w v ev ss
  -- a letter to the other, which has power: how the speaker goes on without a line; how the other works on the letter; how the speaker goes on with the reply
  calls : {k : ℕ} {w v : World} {ev : Event} {ss : List (List ℕ)} (l r : List ℕ) (w' v' : World) (ss' : List (List ℕ)) (end n : ℕ)
      → Safe w.device v ss → (e.step w.memory ev).act ≡ send d l → a_letter l ≡ true → v.up ≡ true
      → Course e (λ x rs. Safe x v rs) w' ss' end (in_memory w (e.step w.memory ev).memory) lost ss → Lost k w' v ss' end
      → ReplyCourse e (λ x. Fell k w' x ss' end) r v' n v (heard l) → n < 16777216
      → Talk e d Safe Over Lost Fell (suc k) (in_memory w (e.step w.memory ev).memory) v' (heard r) ss → Talk e d Safe Over Lost Fell k w v ev ss
  -- a letter to a house that has no power
  calls_nobody : {k : ℕ} {w v : World} {ev : Event} {ss : List (List ℕ)} (a : ℕ) (l : List ℕ) (w' : World) (ss' : List (List ℕ)) (end : ℕ)
      → Safe w.device v ss → (e.step w.memory ev).act ≡ send a l → v.up ≡ false
      → Course e (λ x rs. Safe x v rs) w' ss' end (in_memory w (e.step w.memory ev).memory) lost ss → Over w' v ss' end → Talk e d Safe Over Lost Fell k w v ev ss

-- One act that sends, in each case of the line and of the other's power.
abbrev fallen : World → World
fallen v = record { device = v.device; memory = v.memory; up = false }

pick_yes : {A : Type 0} (b : Bool) (x y : A) → b ≡ true → pick b x y ≡ x
pick_yes b x y h = rw h

pick_no : {A : Type 0} (b : Bool) (x y : A) → b ≡ false → pick b x y ≡ y
pick_no b x y h = rw h

all_three : (a b c : Bool) → a ≡ true → b ≡ true → c ≡ true → a && (b && c) ≡ true
all_three a b c p q r = rw (p, q, r)

not_first : (a b : Bool) → a ≡ false → a && b ≡ false
not_first a b p = rw p

-- what the line carries is worked on to the end, whether or not the other falls later
works_whole : (e : Engine) (v : World) (l : List ℕ) (t ls : ℕ) → heard_by t (suc ls) e v (heard l) ≡ replies 16777216 e v (heard l)
unfolding heard_by
works_whole e v l zero ls = refl
works_whole e v l (suc t) ls = refl

module _ (e : Engine) (d n t : ℕ) (w v : World) (ev : Event) (ss : List (List ℕ)) (l : List ℕ) where
  abbrev on : World
  on = in_memory w (e.step w.memory ev).memory

  pub sends_nobody : (a ls : ℕ) → (e.step w.memory ev).act ≡ send a l → v.up ≡ false → runs (suc n) e t d ls w v ev ss ≡ runs n e t d ls on v lost ss
  unfolding runs one_act
  sends_nobody a ls h u = rw h (pick_no _ _ _ (not_first v.up (eqb a d && a_letter l) u))

  module _ (h : (e.step w.memory ev).act ≡ send d l) (ok : a_letter l ≡ true) (u : v.up ≡ true) where
    reaches : v.up && (eqb d d && a_letter l) ≡ true
    reaches = all_three v.up (eqb d d) (a_letter l) u (eq-eqb d d refl) ok

    pub sends_lost : runs (suc n) e 0 d 0 w v ev ss ≡ runs n e 0 d 0 on v lost ss
    unfolding runs one_act sent heard_by
    sends_lost = rw h (pick_yes _ _ _ reaches)

    pub sends_falls : runs (suc n) e (suc t) d 0 w v ev ss ≡ runs n e (suc t) d 0 on (fallen (replies (suc t) e v (heard l)).world) lost ss
    unfolding runs one_act sent heard_by
    sends_falls = rw h (pick_yes _ _ _ reaches)

    pub sends_heard : (ls : ℕ) (v' : World) (r : List ℕ) → replies 16777216 e v (heard l) ≡ replied v' r → runs (suc n) e t d (suc ls) w v ev ss ≡ runs n e t d ls on v' (heard r) ss
    unfolding runs one_act sent
    sends_heard ls v' r q = rw h (pick_yes _ _ _ reaches ∙ rw (works_whole e v l t ls, q))

module _ (e : Engine) (d : ℕ) (Safe : Device → World → List (List ℕ) → Type 0) (Over : World → World → List (List ℕ) → ℕ → Type 0)
    (Lost : ℕ → World → World → List (List ℕ) → ℕ → Type 0) (Fell : ℕ → World → Device → List (List ℕ) → ℕ → Type 0) where
  abbrev Talks : ℕ → World → World → Event → List (List ℕ) → Type 0
  Talks k w v ev ss = Talk e d Safe Over Lost Fell k w v ev ss

  -- work by itself in the middle of a talk
  module _ (k : ℕ) (v : World) (ss : List (List ℕ)) where
    pub works_talk : {n : ℕ} {w : World} {ev : Event} → Works e (λ x. Safe x v ss) (λ w₁ ev₁. Talks k w₁ v ev₁ ss) n w ev → Talks k w v ev ss
    works_talk (leads t) = t
    works_talk (works_read p l s a c) = talk_read p s a (works_talk c)
    works_talk (works_write p bs l s a ok c) = talk_write p bs s a ok (works_talk c)
    works_talk (works_flush l s a c) = talk_flush s a (works_talk c)

  -- a talk in rounds, each of which leaves less to do: from a state to its talk, given the talks from all states with less to do
  module _ (State : ℕ → ℕ → World → World → Event → List (List ℕ) → Type 0)
      (round : (n k : ℕ) (w v : World) (ev : Event) (ss : List (List ℕ)) → State n k w v ev ss
      → ((n₁ k₁ : ℕ) (w₁ v₁ : World) (ev₁ : Event) (ss₁ : List (List ℕ)) → n₁ < n → State n₁ k₁ w₁ v₁ ev₁ ss₁ → Talks k₁ w₁ v₁ ev₁ ss₁) → Talks k w v ev ss) where
    pub talk_in_rounds : (most n : ℕ) → n < most → (k : ℕ) (w v : World) (ev : Event) (ss : List (List ℕ)) → State n k w v ev ss → Talks k w v ev ss
    talk_in_rounds zero n h k w v ev ss x = absurd (omega arith)
    talk_in_rounds (suc most) n h k w v ev ss x = round n k w v ev ss x (λ n₁ k₁ w₁ v₁ ev₁ ss₁ l y. talk_in_rounds most n₁ (omega arith) k₁ w₁ v₁ ev₁ ss₁ y)

  pub safe_talk : {k : ℕ} {w v : World} {ev : Event} {ss : List (List ℕ)} → Talks k w v ev ss → Safe w.device v ss
  safe_talk {v} (alone w' ss' end c o) = safe_at e _ w' ss' end 0 0 0 v c
  safe_talk (talk_read p s a c) = s
  safe_talk (talk_write p bs s a ok c) = s
  safe_talk (talk_flush s a c) = s
  safe_talk (talk_show r s a c) = s
  safe_talk (calls l r w' v' ss' end n s a ok u c o b lt t) = s
  safe_talk (calls_nobody x l w' ss' end s a u c o) = s

  -- the line carried so many letters and no more: the other is as it was, or, if it falls, has no power and a device somewhere in its work
  abbrev pub Broken : ℕ → ℕ → Ran → Type 0
  Broken zero k r = Lost k r.here r.there r.showed r.end
  Broken (suc t) k r = Fell k r.here r.there.device r.showed r.end

  abbrev pub Ended : ℕ → ℕ → Ran → Type 0
  Ended t k r = Over r.here r.there r.showed r.end ⊎ Broken t k r

  over_as : (t m : ℕ) (q : Ran) (w' v : World) (ss' : List (List ℕ)) (end : ℕ) → q ≡ ran w' v ss' end → Over w' v ss' end → Ended t m q
  over_as t m q w' v ss' end h o = rw h (inl o)

  lost_as : (m : ℕ) (q : Ran) (w' v : World) (ss' : List (List ℕ)) (end : ℕ) → q ≡ ran w' v ss' end → Lost m w' v ss' end → Ended 0 m q
  lost_as m q w' v ss' end h o = rw h (inr o)

  fell_as₁ : (t m : ℕ) (q : Ran) (w' v : World) (ss' : List (List ℕ)) (end : ℕ) → q ≡ ran w' v ss' end → Fell m w' v.device ss' end → Ended (suc t) m q
  fell_as₁ t m q w' v ss' end h o = rw h (inr o)

  ended_as : (t m : ℕ) (q q₁ : Ran) → q ≡ q₁ → Ended t m q₁ → Ended t m q
  ended_as t m q q₁ h x = rw h x

  fell_at : (t m k : ℕ) (w' : World) (ss' : List (List ℕ)) (end : ℕ) (v : World) (l : List ℕ) → Fell k w' (replies (suc t) e v (heard l)).world.device ss' end → k ≡ m
      → Fell m w' (fallen (replies (suc t) e v (heard l)).world).device ss' end
  fell_at t m k w' ss' end v l x h = subst (λ i. Fell i w' (replies (suc t) e v (heard l)).world.device ss' end) h x

  -- with a line that carries so many letters, the talk ends so
  pub whole_talk : {k : ℕ} {w v : World} {ev : Event} {ss : List (List ℕ)} → Talks k w v ev ss → (t ls m : ℕ) → k + ls ≡ m → (n : ℕ) × Ended t m (runs n e t d ls w v ev ss)
  unfolding runs one_act
  whole_talk {v} (alone w' ss' end c o) t ls m h = (acts c, over_as t m _ w' v ss' end (whole_run e _ w' ss' end t d ls v c) o)
  whole_talk (talk_read p s a c) t ls m h = let g = whole_talk c t ls m h in (suc g.0, rw a g.1)
  whole_talk (talk_write p bs s a ok c) t ls m h = let g = whole_talk c t ls m h in (suc g.0, rw (a, ok) g.1)
  whole_talk (talk_flush s a c) t ls m h = let g = whole_talk c t ls m h in (suc g.0, rw a g.1)
  whole_talk (talk_show r s a c) t ls m h = let g = whole_talk c t ls m h in (suc g.0, rw a g.1)
  whole_talk {k} {w} {v} {ev} {ss} (calls l r w' v' ss' end n s a ok u c o b lt g) zero zero m h =
      (suc (acts c), lost_as m _ w' v ss' end (sends_lost e d (acts c) 0 w v ev ss l a ok u ∙ whole_run e _ w' ss' end 0 d 0 v c) (subst (λ i. Lost i w' v ss' end) (omega arith) o))
  whole_talk {k} {w} {v} {ev} {ss} (calls l r w' v' ss' end n s a ok u c o b lt g) (suc t) zero m h = (
    suc (acts c),
    fell_as₁ t m _ w' (fallen (replies (suc t) e v (heard l)).world) ss' end
        (sends_falls e d (acts c) t w v ev ss l a ok u ∙ whole_run e _ w' ss' end (suc t) d 0 (fallen (replies (suc t) e v (heard l)).world) c)
        (fell_at t m k w' ss' end v l (safe_reply e _ r v' b (suc t)) (omega arith)),
  )
  whole_talk {w} {v} {ev} {ss} (calls l r w' v' ss' end n s a ok u c o b lt g) t (suc ls) m h =
      let q = whole_talk g t ls m (omega arith) in
      (suc q.0, ended_as t m _ _ (sends_heard e d q.0 t w v ev ss l a ok u ls v' r (whole_reply e _ r v' b 16777216 lt)) q.1)
  whole_talk {w} {v} {ev} {ss} (calls_nobody x l w' ss' end s a u c o) t ls m h =
      (suc (acts c), over_as t m _ w' v ss' end (sends_nobody e d (acts c) t w v ev ss l x ls a u ∙ whole_run e _ w' ss' end t d ls v c) o)

  -- cut off after any number of acts: it has ended so, or goes on and what is left is safe
  abbrev pub CutTalk : ℕ → Ran → Type 0
  CutTalk m r = Ended 0 m r ⊎ ((r.end ≡ running) × Safe r.here.device r.there r.showed)

  cut_as : (m : ℕ) (q q₁ : Ran) → q ≡ q₁ → CutTalk m q₁ → CutTalk m q
  cut_as m q q₁ h x = rw h x

  abbrev CutAlone : World → List (List ℕ) → ℕ → World → Ran → Type 0
  CutAlone w' ss' end v r = (r ≡ ran w' v ss' end) ⊎ ((r.end ≡ running) × (Safe r.here.device v r.showed) × (r.there ≡ v))

  there_still : (w' : World) (ss' : List (List ℕ)) (end : ℕ) (v : World) (q : Ran) → CutAlone w' ss' end v q → q.there ≡ v
  there_still w' ss' end v q (inl h) = ap (λ (z : Ran). z.there) h
  there_still w' ss' end v q (inr h) = h.2

  cut_over : (m : ℕ) (q : Ran) (w' v : World) (ss' : List (List ℕ)) (end : ℕ) → Over w' v ss' end → CutAlone w' ss' end v q → CutTalk m q
  cut_over m q w' v ss' end o (inl h) = inl (over_as 0 m q w' v ss' end h o)
  cut_over m q w' v ss' end o (inr h) = inr (h.0, rw h.2 h.1)

  cut_lost : (m : ℕ) (q : Ran) (w' v : World) (ss' : List (List ℕ)) (end : ℕ) → Lost m w' v ss' end → CutAlone w' ss' end v q → CutTalk m q
  cut_lost m q w' v ss' end o (inl h) = inl (lost_as m q w' v ss' end h o)
  cut_lost m q w' v ss' end o (inr h) = inr (h.0, rw h.2 h.1)

  pub cut_talk : {k : ℕ} {w v : World} {ev : Event} {ss : List (List ℕ)} → Talks k w v ev ss → (n ls m : ℕ) → k + ls ≡ m → CutTalk m (runs n e 0 d ls w v ev ss)
  unfolding runs one_act
  cut_talk {v} (alone w' ss' end c o) n ls m h = cut_over m _ w' v ss' end o (cut_run e _ w' ss' end 0 d ls v n c)
  cut_talk (talk_read p s a c) zero ls m h = inr (refl, s)
  cut_talk (talk_read p s a c) (suc n) ls m h = rw a (cut_talk c n ls m h)
  cut_talk (talk_write p bs s a ok c) zero ls m h = inr (refl, s)
  cut_talk (talk_write p bs s a ok c) (suc n) ls m h = rw (a, ok) (cut_talk c n ls m h)
  cut_talk (talk_flush s a c) zero ls m h = inr (refl, s)
  cut_talk (talk_flush s a c) (suc n) ls m h = rw a (cut_talk c n ls m h)
  cut_talk (talk_show r s a c) zero ls m h = inr (refl, s)
  cut_talk (talk_show r s a c) (suc n) ls m h = rw a (cut_talk c n ls m h)
  cut_talk (calls l r w' v' ss' end i s a ok u c o b lt g) zero ls m h = inr (refl, s)
  cut_talk {k} {w} {v} {ev} {ss} (calls l r w' v' ss' end i s a ok u c o b lt g) (suc n) zero m h =
      cut_as m _ _ (sends_lost e d n 0 w v ev ss l a ok u) (cut_lost m _ w' v ss' end (subst (λ j. Lost j w' v ss' end) (omega arith) o) (cut_run e _ w' ss' end 0 d 0 v n c))
  cut_talk {w} {v} {ev} {ss} (calls l r w' v' ss' end i s a ok u c o b lt g) (suc n) (suc ls) m h =
      cut_as m _ _ (sends_heard e d n 0 w v ev ss l a ok u ls v' r (whole_reply e _ r v' b 16777216 lt)) (cut_talk g n ls m (omega arith))
  cut_talk (calls_nobody x l w' ss' end s a u c o) zero ls m h = inr (refl, s)
  cut_talk {w} {v} {ev} {ss} (calls_nobody x l w' ss' end s a u c o) (suc n) ls m h =
      cut_as m _ _ (sends_nobody e d n 0 w v ev ss l x ls a u) (cut_over m _ w' v ss' end o (cut_run e _ w' ss' end 0 d ls v n c))

  -- a house without power hears nothing and stays as it is
  pub nobody_there : {k : ℕ} {w v : World} {ev : Event} {ss : List (List ℕ)} → Talks k w v ev ss → v.up ≡ false → (n t ls : ℕ) → (runs n e t d ls w v ev ss).there ≡ v
  unfolding runs one_act
  nobody_there {v} (alone w' ss' end c o) dark n t ls = there_still w' ss' end v _ (cut_run e _ w' ss' end t d ls v n c)
  nobody_there (talk_read p s a c) dark zero t ls = refl
  nobody_there (talk_read p s a c) dark (suc n) t ls = rw a (nobody_there c dark n t ls)
  nobody_there (talk_write p bs s a ok c) dark zero t ls = refl
  nobody_there (talk_write p bs s a ok c) dark (suc n) t ls = rw (a, ok) (nobody_there c dark n t ls)
  nobody_there (talk_flush s a c) dark zero t ls = refl
  nobody_there (talk_flush s a c) dark (suc n) t ls = rw a (nobody_there c dark n t ls)
  nobody_there (talk_show r s a c) dark zero t ls = refl
  nobody_there (talk_show r s a c) dark (suc n) t ls = rw a (nobody_there c dark n t ls)
  nobody_there (calls l r w' v' ss' end i s a ok u c o b lt g) dark n t ls = absurd (false≢true (sym dark ∙ u))
  nobody_there (calls_nobody x l w' ss' end s a u c o) dark zero t ls = refl
  nobody_there {w} {v} {ev} {ss} (calls_nobody x l w' ss' end s a u c o) dark (suc n) t ls =
      ap (λ (q : Ran). q.there) (sends_nobody e d n t w v ev ss l x ls a u) ∙ there_still w' ss' end v _ (cut_run e _ w' ss' end t d ls v n c)
