-- No letter gets lost when it is delivered.
use Rattle.std.proofs.Common.{◌≡◌, ℕ, zero, suc, ◌<◌, true, false, ◌&&◌, eqb, ltb, ◌⊎◌, List, [], ◌∷◌, ◌++◌, length, get_or, sym, refl, ap, ◌∙◌, subst, inl, inr, true≢false, arith, ltb-true, lt-ltb}
use borrow.Author.Tests.{eqb-false}
use Rattle.std.proofs.lemmas.Bool.{and_parts, and_from, cases_Bool}
use Rattle.model.specs.Mail.{pick, every, any, same, none_of, Action, keep, file, away, on_to, mark, halt, Rule, Fate, Letter, fresh, fate, acted, all_acted, ruled, with_new, holds_for, in_box}
use Rattle.model.specs.House.{House, Person, Box, Way, person_at, set_person, with_boxes, has_box, box_of, set_box, put_letter, put_all, known_boxes, put_here, somebody, way_at, pass_on, deliver, target}
use Rattle.model.specs.Promise.{says_away, NotLost}
use Rattle.model.specs.Always.{within, Ready}
use Rattle.model.specs.Delivered.{InABox, OnItsWay, SaidAway, Delivered}
use Rattle.model.proofs.Places.{pick_both, pick_cases, every_append, every_mono, way_at_same, person_at_same, length_set_person, at_set_person}
use Rattle.model.proofs.Boxes.{box_of_name, has_box_set, box_of_set, has_box_put_all, known_boxes_there}
use Rattle.model.proofs.Fates.{none_with_new, not_lost}
use Rattle.model.proofs.Ready.{rules_within, has_in_at, rules_at, ready_put_here}
use Rattle.model.proofs.Later.{AllLater, all_later_same, all_later_put, house_later_same, put_here_later, deliver_later, boxes_at, here_has}

-- Rules that pass on to houses that are there name no others.
PeopleWithin : ℕ → Fate → Type 0
PeopleWithin n f = every (within n) f.people ≡ true

within_with_new : (n : ℕ) (p : List ℕ) (ps : List (List ℕ)) → within n p ≡ true → every (within n) ps ≡ true → every (within n) (with_new p ps) ≡ true
within_with_new n p ps h k =
    pick_both (λ qs. every (within n) qs ≡ true) (any (same p) ps) ps (ps ++ p ∷ []) k (every_append (within n) ps (p ∷ []) k (and_from (within n p) true h refl))

within_acted : (n : ℕ) (a : Action) (f : Fate) → within n (target a) ≡ true → PeopleWithin n f → PeopleWithin n (acted a f)
unfolding acted PeopleWithin
within_acted n keep f h k = k
within_acted n (file m) f h k = k
within_acted n away f h k = k
within_acted n (on_to d a) f h k = within_with_new n (d ∷ a ∷ []) f.people h k
within_acted n (mark m) f h k = k
within_acted n halt f h k = k

within_all_acted : (n : ℕ) (acts : List Action) (f : Fate) → every (λ t. within n (target t)) acts ≡ true → PeopleWithin n f → PeopleWithin n (all_acted acts f)
unfolding all_acted
within_all_acted n [] f h k = k
within_all_acted n (a ∷ acts) f h k =
    let hs = and_parts (within n (target a)) (every (λ (t : Action). within n (target t)) acts) h in
    within_all_acted n acts (pick f.goes_on (acted a f) f) hs.1 (pick_both (PeopleWithin n) f.goes_on (acted a f) f (within_acted n a f hs.0 k) k)

within_ruled : (n : ℕ) (rs : List Rule) (bs : List ℕ) (f : Fate) → rules_within n rs ≡ true → PeopleWithin n f → PeopleWithin n (ruled rs bs f)
unfolding ruled
within_ruled n [] bs f h k = k
within_ruled n (r ∷ rs) bs f h k =
    let hs = and_parts (every (λ (t : Action). within n (target t)) r.acts) (rules_within n rs) h in
    let test = f.goes_on && holds_for f.marks bs r.test in
    within_ruled n rs bs (pick test (all_acted r.acts f) f) hs.1 (pick_both (PeopleWithin n) test (all_acted r.acts f) f (within_all_acted n r.acts f hs.0 k) k)

within_fate : (n : ℕ) (rs : List Rule) (bs : List ℕ) → rules_within n rs ≡ true → every (within n) (fate rs bs).people ≡ true
unfolding fate acted PeopleWithin
within_fate n rs bs h =
    let k = within_ruled n rs bs fresh h refl in
    pick_both (PeopleWithin n) (ruled rs bs fresh).still (acted keep (ruled rs bs fresh)) (ruled rs bs fresh) k k

-- Letters that go into boxes: the last box has it last.
record Put (t : List ℕ) (bs cs : List Box) : Type 0 where
  box : List ℕ
  here : has_box cs box ≡ true
  number : (box_of bs box).next < (box_of cs box).next
  others : List Letter
  letter : Letter
  last : (box_of cs box).letters ≡ others ++ letter ∷ []
  bytes : letter.bytes ≡ t

put_one : (ms t : List ℕ) (n : List ℕ) (bs : List Box) → has_box bs n ≡ true → box_of (set_box bs (put_letter ms t (box_of bs n))) n ≡ put_letter ms t (box_of bs n)
put_one ms t n bs h =
    let name : (box_of bs n).name ≡ n = box_of_name bs n h in
    ap (box_of (set_box bs (put_letter ms t (box_of bs n)))) (sym name) ∙ box_of_set bs (put_letter ms t (box_of bs n)) (rw name h)

put_last : (ms t : List ℕ) (ns : List (List ℕ)) (n : List ℕ) (bs : List Box) → every (has_box bs) (n ∷ ns) ≡ true → Put t bs (put_all ms t (n ∷ ns) bs)
unfolding put_all
put_last ms t [] n bs h =
    let i = (and_parts (has_box bs n) true h).0 in
    record {
      box = n;
      here = has_box_set bs _ n ∙ i;
      number = rw (put_one ms t n bs i) (omega arith);
      others = (box_of bs n).letters;
      letter = record { number = (box_of bs n).next; marks = ms; bytes = t };
      last = ap (λ (b : Box). b.letters) (put_one ms t n bs i);
      bytes = refl;
    }
put_last ms t (m ∷ ns) n bs h =
    let hs = and_parts (has_box bs n) (every (has_box bs) (m ∷ ns)) h in
    let cs : List Box = set_box bs (put_letter ms t (box_of bs n)) in
    let later : AllLater bs cs = all_later_put ms t bs (n ∷ []) bs (and_from (has_box bs n) true hs.0 refl) (all_later_same bs) in
    let rest = put_last ms t ns m cs (every_mono (has_box bs) (has_box cs) (λ k e. later.names k ∙ e) (m ∷ ns) hs.1) in
    let there : has_box bs rest.box ≡ true = sym (has_box_put_all ms t (m ∷ ns) cs rest.box ∙ later.names rest.box) ∙ rest.here in
    record {
      box = rest.box;
      here = rest.here;
      number = omega (arith, rest.number, (later.boxes rest.box there).next);
      others = rest.others;
      letter = rest.letter;
      last = rest.last;
      bytes = rest.bytes;
    }

known_some : (bs : List Box) (ns so : List (List ℕ)) → none_of so ≡ false → none_of (known_boxes bs ns so) ≡ false
unfolding known_boxes
known_some bs [] so h = h
known_some bs (n ∷ ns) so h = known_some bs ns _ (none_with_new (pick (has_box bs n) n in_box) so)

known_first : (bs : List Box) (ns : List (List ℕ)) → none_of ns ≡ false → none_of (known_boxes bs ns []) ≡ false
unfolding known_boxes
known_first bs [] h = absurd (true≢false h)
known_first bs (n ∷ ns) h = known_some bs ns _ (none_with_new (pick (has_box bs n) n in_box) [])

put_some : (ms t : List ℕ) (ns : List (List ℕ)) (bs : List Box) → none_of ns ≡ false → every (has_box bs) ns ≡ true → Put t bs (put_all ms t ns bs)
put_some ms t [] bs e h = absurd (true≢false e)
put_some ms t (n ∷ ns) bs e h = put_last ms t ns n bs h

module _ (n c : ℕ) (t : List ℕ) (lc : c < n) where
  put_in : (h : House) (a : ℕ) (ms : List ℕ) (ns : List (List ℕ)) → Ready n h → a < length h.people → none_of ns ≡ false → InABox t h (put_here h a ms t ns)
  put_in h a ms ns r l some =
      let bs : List Box = boxes_at h a in
      let names : List (List ℕ) = known_boxes bs ns [] in
      let put = put_some ms t names bs (known_first bs ns some) (known_boxes_there bs ns [] (has_in_at n h a r l) refl) in
      let q : Person = with_boxes (person_at h.people a) (put_all ms t names bs) in
      let is : person_at (set_person h.people a q) a ≡ q = person_at_same h.people a q l in
      record {
        person = a;
        box = put.box;
        here = and_from _ _ (lt-ltb a _ (rw (length_set_person h.people a q) l)) (ap (λ (p : Person). has_box p.boxes put.box) is ∙ put.here);
        number = subst (λ (p : Person). (box_of bs put.box).next < (box_of p.boxes put.box).next) (sym is) put.number;
        others = put.others;
        letter = put.letter;
        last = ap (λ (p : Person). (box_of p.boxes put.box).letters) is ∙ put.last;
        bytes = put.bytes;
      }

  somebody_here : (h : House) (a : ℕ) → Ready n h → somebody h a < length h.people
  somebody_here h a r = pick_cases (λ b. b < length h.people) (ltb a (length h.people)) a 0 (ltb-true a (length h.people)) (λ e. r.staffed)

  abbrev Result : ℕ → House → House → Type 0
  Result m h g = InABox t h g ⊎ (OnItsWay n c m t h g ⊎ SaidAway h)

  -- what became of a letter after it was put into boxes first
  after_put : (m : ℕ) (h : House) (a : ℕ) (ms : List ℕ) (ns : List (List ℕ)) (b : ℕ) → Ready n h →
      Result m (put_here h a ms t ns) (deliver m c t (put_here h a ms t ns) b) → Result (suc m) h (deliver m c t (put_here h a ms t ns) b)
  after_put m h a ms ns b r (inl k) =
      let first = put_here_later n h r h a ms t ns (house_later_same h) in
      let all = deliver_later n h r m c t (put_here h a ms t ns) b first in
      let there : has_box (boxes_at h k.person) k.box ≡ true = sym ((all.boxes k.person).names k.box) ∙ here_has (deliver m c t (put_here h a ms t ns) b) k.person k.box k.here in
      inl (record {
        person = k.person;
        box = k.box;
        here = k.here;
        number = omega (arith, k.number, ((first.boxes k.person).boxes k.box there).next);
        others = k.others;
        letter = k.letter;
        last = k.last;
        bytes = k.bytes;
      })
  after_put m h a ms ns b r (inr (inl k)) =
      inr (inl (record { to = k.to; there = k.there; other = k.other; letter = k.letter; last = k.last; bytes = k.bytes; fewer = omega (arith, k.fewer) }))
  after_put m h a ms ns b r (inr (inr k)) =
      inr (inr (record {
        person = k.person;
        rule = subst (λ (rs : List Rule). any (λ r₁. any says_away r₁.acts) rs ≡ true)
            (at_set_person h.people a _ (λ x p. p.rules ≡ (person_at h.people x).rules) (λ l. refl) (λ x. refl) k.person) k.rule;
      }))

  -- who names nobody puts it into a box, or says "away"
  kept : (m : ℕ) (h : House) (a : ℕ) → Ready n h → a < length h.people → none_of (fate (person_at h.people a).rules t).people ≡ true →
      Result (suc m) h (put_here h a (fate (person_at h.people a).rules t).marks t (fate (person_at h.people a).rules t).boxes)
  unfolding NotLost
  kept m h a r l e = go (cases_Bool (none_of (fate (person_at h.people a).rules t).boxes))
    where
      go : (none_of (fate (person_at h.people a).rules t).boxes ≡ true) ⊎ (none_of (fate (person_at h.people a).rules t).boxes ≡ false) →
          Result (suc m) h (put_here h a (fate (person_at h.people a).rules t).marks t (fate (person_at h.people a).rules t).boxes)
      go (inl none) = inr (inr (record { person = a; rule = not_lost (person_at h.people a).rules t none e }))
      go (inr some) = inl (put_in h a _ _ r l some)

  to_house : (q : List ℕ) → within n q ≡ true → get_or q 0 0 < n
  to_house [] h = omega arith
  to_house (d ∷ q) h = ltb-true d n h

  passed_on : (m : ℕ) (h k : House) (ps : List (List ℕ)) → k.ways ≡ h.ways → length h.ways ≡ n → every (within n) ps ≡ true →
      (none_of ps ≡ true → Result (suc m) h k) → ((b : ℕ) → Result (suc m) h (deliver m c t k b)) → Result (suc m) h (pass_on (λ g b. deliver m c t g b) c m ps t k)
  unfolding pass_on
  passed_on m h k [] e lw w none again = none refl
  passed_on m h k (q ∷ qs) e lw w none again =
      let d = get_or q 0 0 in
      let ld : d < n = to_house q (and_parts (within n q) (every (within n) qs) w).0 in
      pick_cases (Result (suc m) h) (eqb d c) _ _ (λ s. again (get_or q 1 0))
      (λ s. inr (inl (record {
        to = d;
        there = ld;
        other = λ x. absurd (eqb-false d c s x);
        letter = record { person = get_or q 1 0; left = m; bytes = t };
        last = ap (λ (v : Way). v.waiting) (way_at_same k.ways d _ (rw (e, lw) ld)) ∙ ap (λ (vs : List Way). (way_at vs d).waiting ++ record { person = get_or q 1 0; left = m; bytes = t } ∷ []) e;
        bytes = refl;
        fewer = omega arith;
      })))

  delivered_here : (m : ℕ) (h : House) (a : ℕ) → length h.ways ≡ n → Ready n h → Result m h (deliver m c t h a)
  unfolding deliver
  delivered_here zero h a lw r = inl (put_in h (somebody h a) [] (in_box ∷ []) r (somebody_here h a r) refl)
  delivered_here (suc m) h a lw r =
      let p : ℕ = somebody h a in
      let rs : List Rule = (person_at h.people p).rules in
      let k : House = put_here h p (fate rs t).marks t (fate rs t).boxes in
      passed_on m h k (fate rs t).people refl lw (within_fate n rs t (rules_at n h p r (somebody_here h a r)))
      (kept m h p r (somebody_here h a r))
      (λ b. after_put m h p (fate rs t).marks (fate rs t).boxes b r (delivered_here m k b lw (ready_put_here n h p (fate rs t).marks t (fate rs t).boxes r)))

pub delivered : Delivered
unfolding Delivered
delivered n c m bs h a lc lw r = delivered_here n c bs lc m h a lw r
