-- From the first houses on: what is known to have been taken was, and boxes stay good, whatever is said and however pushes break off.
use Rattle.std.proofs.Common.{◌≡◌, ℕ, zero, suc, ◌+◌, ◌-◌, ◌<◌, true, ◌≢◌, ◌⊎◌, List, ◌∷◌, length, get_or, take, replicate, refl, ap, ◌∙◌, inl, inr, arith, length-append, length-drop}
use lib.ListN.{length-replicate, get_or-replicate}
use Rattle.std.proofs.lemmas.Bool.{cases_eq}
use Rattle.model.specs.Mail.{same}
use Rattle.model.specs.House.{Command, House, Plain, Way, turn, house_at, set_house, way_at, pushed, not_taken}
use Rattle.model.specs.Run.{so_many}
use Rattle.model.specs.Promise.{first_house, KnownTaken, good_house, good_box, rising, below}
use Rattle.model.specs.Always.{Becomes, turned, came, Reached, begun, became, Ready, Sound, AlwaysSound, PushesInParts}
use Rattle.model.proofs.Places.{differ, house_at_is, way_at_is, at_set_house, length_set_house, way_at_other, length_set_way, no_way, no_house}
use Rattle.model.proofs.Delivery.{come_length_taken, come_taken_other}
use Rattle.model.proofs.Numbers.{good_turn, good_come}
use Rattle.model.proofs.Ready.{ready_turn, ready_come}
use Rattle.model.proofs.Ways.{Longer, Grown, longer_same, grown_same, come_grown, turn_apart}
use Rattle.model.proofs.Pushing.{knowing, after_more, Knowable, can_know_true, pushed_here, pushed_there, pushed_elsewhere, length_pushed, taken_after, not_taken_after, rest_alike, way_knowing}

-- The first houses.
pub so_many_is : {A : Type 0} (n : ℕ) (x : A) → so_many n x ≡ replicate n x
unfolding so_many
so_many_is zero x = refl
so_many_is (suc n) x = ap (λ r. x ∷ r) (so_many_is n x)

first_at : (n c : ℕ) → c < n → house_at (so_many n (first_house n)) c ≡ first_house n
first_at n c h = house_at_is _ c ∙ rw (so_many_is n (first_house n)) (get_or-replicate n c (first_house n) no_house h)

first_way : (n d : ℕ) → d < n → way_at (so_many n no_way) d ≡ no_way
first_way n d h = way_at_is _ d ∙ rw so_many_is (get_or-replicate n d no_way no_way h)

first_taken : (n c : ℕ) → c < n → get_or (so_many {A = ℕ} n 0) c 0 ≡ 0
first_taken n c h = rw so_many_is (get_or-replicate {A = ℕ} n c 0 0 h)

first_good : (n : ℕ) → good_house (first_house n) ≡ true
unfolding good_house good_box rising below
first_good n = refl

first_ready : (n : ℕ) → Ready n (first_house n)
unfolding same
first_ready n = record { staffed = omega arith; at_home = refl; on_to_houses = refl }

begun_sound : (n : ℕ) → Sound n (so_many n (first_house n))
unfolding KnownTaken
begun_sound n = record {
  houses = rw (so_many_is n (first_house n)) (length-replicate n (first_house n));
  ways = λ c l. rw (first_at n c l, so_many_is n no_way) (length-replicate n no_way);
  taken = λ c l. rw (first_at n c l, so_many_is {A = ℕ} n 0) (length-replicate {A = ℕ} n 0);
  own = λ c l. rw (first_at n c l) (first_way n c l);
  known = λ c d l k. rw (first_at n c l, first_at n d k, first_way n d k, first_taken n c l) (omega arith);
  good = λ c l. rw (first_at n c l) (first_good n);
  ready = λ c l. rw (first_at n c l) (first_ready n);
}

-- A pair of houses is as before, but that more letters may wait.
pub record AsBefore (w v : Plain) (x y : ℕ) : Type 0 where
  pub way : Longer (way_at (house_at w x).ways y) (way_at (house_at v x).ways y)
  pub taken : get_or (house_at v y).taken x 0 ≡ get_or (house_at w y).taken x 0

known_before : (w v : Plain) (x y : ℕ) → AsBefore w v x y → KnownTaken w x y → KnownTaken v x y
unfolding KnownTaken
known_before w v x y b k =
    let len : length (way_at (house_at v x).ways y).waiting ≡ length (way_at (house_at w x).ways y).waiting + length b.way.more =
    ap length b.way.waiting ∙ length-append (way_at (house_at w x).ways y).waiting b.way.more in
    omega (arith, b.way.sent, b.taken, k.0, k.1)

-- What a step keeps: of each house, and of each two.
record Kept (n x : ℕ) (h g : House) : Type 0 where
  ways : length g.ways ≡ length h.ways
  taken : length g.taken ≡ length h.taken
  own : way_at g.ways x ≡ way_at h.ways x
  good : good_house h ≡ true → good_house g ≡ true
  ready : Ready n h → Ready n g

kept_same : (n x : ℕ) (h : House) → Kept n x h h
kept_same n x h = record { ways = refl; taken = refl; own = refl; good = λ g. g; ready = λ g. g }

record Step (n : ℕ) (w v : Plain) : Type 0 where
  houses : length v ≡ length w
  house : (x : ℕ) → Kept n x (house_at w x) (house_at v x)
  pairs : (x y : ℕ) → AsBefore w v x y ⊎ KnownTaken v x y

step_sound : (n : ℕ) (w v : Plain) → Step n w v → Sound n w → Sound n v
step_sound n w v t s = record {
  houses = t.houses ∙ s.houses;
  ways = λ x l. (t.house x).ways ∙ s.ways x l;
  taken = λ x l. (t.house x).taken ∙ s.taken x l;
  own = λ x l. (t.house x).own ∙ s.own x l;
  known = λ x y l k. pair x y l k (t.pairs x y);
  good = λ x l. (t.house x).good (s.good x l);
  ready = λ x l. (t.house x).ready (s.ready x l);
}
  where
    pair : (x y : ℕ) → x < n → y < n → AsBefore w v x y ⊎ KnownTaken v x y → KnownTaken v x y
    pair x y l k (inl b) = known_before w v x y b (s.known x y l k)
    pair x y l k (inr h) = h

-- A turn.
module _ (n : ℕ) (w : Plain) (c : ℕ) (a : Command) where
  abbrev new : House
  new = (turn n c (house_at w c) a).next

  at_turned : (P : ℕ → House → Type 0) → P c new → ((x : ℕ) → P x (house_at w x)) → (x : ℕ) → P x (house_at (set_house w c new) x)
  at_turned P p = at_set_house w c new P (λ k. p)

  turned_step : Step n w (set_house w c new)
  turned_step =
      let apart = turn_apart n c (house_at w c) a in
      record {
        houses = length_set_house w c new;
        house = at_turned (λ x h. Kept n x (house_at w x) h)
            (record { ways = apart.0.length_is; taken = ap length apart.1; own = apart.0.own; good = good_turn n c (house_at w c) a; ready = ready_turn n c (house_at w c) a })
            (λ x. kept_same n x (house_at w x));
        pairs = λ x y. inl (record {
          way = at_turned (λ z h. Longer (way_at (house_at w z).ways y) (way_at h.ways y)) (apart.0.each y) (λ z. longer_same (way_at (house_at w z).ways y)) x;
          taken = at_turned (λ z h. get_or h.taken x 0 ≡ get_or (house_at w z).taken x 0) (ap (λ (js : List ℕ). get_or js x 0) apart.1) (λ z. refl) y;
        });
      }

-- A push, or part of one.
good_knowing : (h : House) (d know : ℕ) → good_house h ≡ true → good_house (knowing h d know) ≡ true
unfolding good_house
good_knowing h d know g = g

module _ (n : ℕ) (w : Plain) (c d more know : ℕ) (ne : c ≢ d) (lc : c < length w) (ld : d < length w) where
  -- a house is the one pushed to, the one that pushed, or as before
  pub at_pushed : (P : ℕ → House → Type 0) → P d (after_more w c d more) → P c (knowing (house_at w c) d know) → ((x : ℕ) → P x (house_at w x)) →
      (x : ℕ) → P x (house_at (pushed w c d more know) x)
  at_pushed P p q r x = go (cases_eq x c) (cases_eq x d)
    where
      go : (x ≡ c) ⊎ (x ≡ c → ⊥) → (x ≡ d) ⊎ (x ≡ d → ⊥) → P x (house_at (pushed w c d more know) x)
      go (inl e) f = rw (e, pushed_here w c d more know ne lc) q
      go (inr nc) (inl e) = rw (e, pushed_there w c d more know ne ld) p
      go (inr nc) (inr nd) = rw (pushed_elsewhere w c d more know x ne nc nd) (r x)

  grown_there : Grown d (house_at w d).ways (after_more w c d more).ways
  grown_there = come_grown c d (take more (not_taken w c d)) (house_at w d).ways (house_at w d) (grown_same d (house_at w d).ways)

  other_pair : (x y : ℕ) → (x ≡ c → y ≡ d → ⊥) → AsBefore w (pushed w c d more know) x y
  other_pair x y other = record {
    way = at_pushed (λ z h. (z ≡ c → y ≡ d → ⊥) → Longer (way_at (house_at w z).ways y) (way_at h.ways y))
        (λ o. grown_there.each y)
        (λ o. let yd : y ≢ d = o refl in rw (way_at_other (house_at w c).ways d y _ yd) (longer_same (way_at (house_at w c).ways y)))
        (λ z o. longer_same (way_at (house_at w z).ways y)) x other;
    taken = at_pushed (λ z h. (x ≡ c → z ≡ d → ⊥) → get_or h.taken x 0 ≡ get_or (house_at w z).taken x 0)
        (λ o. come_taken_other c d (take more (not_taken w c d)) (house_at w d) x (λ e. o e refl))
        (λ o. refl)
        (λ z o. refl) y other;
  }

  this_pair : d < length (house_at w c).ways → c < length (house_at w d).taken → KnownTaken w c d → Knowable w c d more know → KnownTaken (pushed w c d more know) c d
  unfolding KnownTaken
  this_pair lw lt kt k =
      let way : Way = way_at (house_at w c).ways d in
      let had : ℕ = get_or (house_at w d).taken c 0 in
      rw (taken_after w c d more know ne ld lt k.comes, pushed_here w c d more know ne lc, way_knowing (house_at w c) d know lw)
      (k.known, omega (arith, k.comes, k.known, kt.0, kt.1, length-drop know way.waiting, length-drop (had - way.sent) way.waiting))

  pushed_step : d < length (house_at w c).ways → c < length (house_at w d).taken → KnownTaken w c d → Knowable w c d more know → Step n w (pushed w c d more know)
  pushed_step lw lt kt k = record {
    houses = length_pushed w c d more know ne;
    house = at_pushed (λ x h. Kept n x (house_at w x) h)
        (record {
          ways = grown_there.length_is;
          taken = come_length_taken c d (take more (not_taken w c d)) (house_at w d);
          own = grown_there.own;
          good = good_come c d (take more (not_taken w c d)) (house_at w d);
          ready = ready_come n c d (take more (not_taken w c d)) (house_at w d);
        })
        (record {
          ways = length_set_way (house_at w c).ways d _;
          taken = refl;
          own = way_at_other (house_at w c).ways d c _ ne;
          good = good_knowing (house_at w c) d know;
          ready = λ r. record { staffed = r.staffed; at_home = r.at_home; on_to_houses = r.on_to_houses };
        })
        (λ x. kept_same n x (house_at w x));
    pairs = λ x y. pair x y (cases_eq x c) (cases_eq y d);
  }
    where
      pair : (x y : ℕ) → (x ≡ c) ⊎ (x ≡ c → ⊥) → (y ≡ d) ⊎ (y ≡ d → ⊥) → AsBefore w (pushed w c d more know) x y ⊎ KnownTaken (pushed w c d more know) x y
      pair x y (inl p) (inl q) = inr (rw (p, q) (this_pair lw lt kt k))
      pair x y (inl p) (inr nq) = inl (other_pair x y (λ p₁ q. nq q))
      pair x y (inr np) q = inl (other_pair x y (λ p q₁. np p))

becomes_step : (n : ℕ) (w v : Plain) → Becomes n w v → Sound n w → Step n w v
becomes_step n w v (turned c a l) s = turned_step n w c a
becomes_step n w v (came c d more know lc ld ne can) s =
    pushed_step n w c d more know (differ c d ne) (rw s.houses lc) (rw s.houses ld) (rw (s.ways c lc) ld) (rw (s.taken d ld) lc) (s.known c d lc ld)
    (can_know_true w c d more know can)

pub sound_of : {n : ℕ} {w : Plain} → Reached n w → Sound n w
sound_of {n} begun = begun_sound n
sound_of {n} (became {w} {v} r b) = step_sound n w v (becomes_step n w v b (sound_of r)) (sound_of r)

pub always_sound : AlwaysSound
unfolding AlwaysSound
always_sound n w r = sound_of r

pub pushes_in_parts : PushesInParts
unfolding PushesInParts KnownTaken
pushes_in_parts n w c d more know r lc ld ne can =
    let s = sound_of r in
    let apart : c ≢ d = differ c d ne in
    let k = can_know_true w c d more know can in
    let hc : c < length w = rw s.houses lc in
    let hd : d < length w = rw s.houses ld in
    let lw : d < length (house_at w c).ways = rw (s.ways c lc) ld in
    let lt : c < length (house_at w d).taken = rw (s.taken d ld) lc in
    (not_taken_after w c d more know apart hc hd k lw lt (s.known c d lc ld).0, rest_alike w c d more know apart hc hd lw lt (s.known c d lc ld) k)
