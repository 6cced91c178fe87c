-- No letter gets lost by rules.
use Rattle.std.proofs.Common.{◌≡◌, ℕ, Bool, true, false, not, ◌&&◌, List, [], ◌∷◌, ◌++◌, sym, refl, ◌∙◌, true≢false}
use mathlib.Core.Bool.{false≢true}
use Rattle.model.specs.Mail.{pick, or, any, same, none_of, Action, keep, file, away, on_to, mark, halt, Rule, Fate, fresh, fate, acted, all_acted, ruled, with_new, holds_for, in_box}
use Rattle.model.specs.Promise.{NotLost, says_away}
use Rattle.model.proofs.Places.{or_false, pick_both}

pub none_with_new : (n : List ℕ) (ns : List (List ℕ)) → none_of (with_new n ns) ≡ false
none_with_new n [] = refl
none_with_new n (m ∷ ns) = pick_both (λ ms. none_of ms ≡ false) (any (same n) (m ∷ ns)) (m ∷ ns) ((m ∷ ns) ++ n ∷ []) refl refl

-- somewhere to be found: still to be kept, in a box, or on its way to somebody
abbrev found : Fate → Bool
found f = or f.still (or (not (none_of f.boxes)) (not (none_of f.people)))

found_boxes : (s : Bool) (ns ps : List (List ℕ)) → none_of ns ≡ false → or s (or (not (none_of ns)) (not (none_of ps))) ≡ true
found_boxes true ns ps h = refl
found_boxes false ns ps h = rw h

found_people : (s : Bool) (ns ps : List (List ℕ)) → none_of ps ≡ false → or s (or (not (none_of ns)) (not (none_of ps))) ≡ true
found_people true ns ps h = refl
found_people false [] ps h = rw h
found_people false (n ∷ ns) ps h = refl

found_acted : (a : Action) (f : Fate) → says_away a ≡ false → found f ≡ true → found (acted a f) ≡ true
unfolding acted says_away
found_acted keep f h k = found_boxes false (with_new in_box f.boxes) f.people (none_with_new in_box f.boxes)
found_acted (file n) f h k = found_boxes false (with_new n f.boxes) f.people (none_with_new n f.boxes)
found_acted away f h k = absurd (true≢false h)
found_acted (on_to d a) f h k = found_people false f.boxes (with_new (d ∷ a ∷ []) f.people) (none_with_new (d ∷ a ∷ []) f.people)
found_acted (mark m) f h k = k
found_acted halt f h k = k

found_all_acted : (acts : List Action) (f : Fate) → any says_away acts ≡ false → found f ≡ true → found (all_acted acts f) ≡ true
unfolding all_acted
found_all_acted [] f h k = k
found_all_acted (a ∷ acts) f h k =
    found_all_acted acts (pick f.goes_on (acted a f) f) (or_false (says_away a) (any says_away acts) h).1
    (pick_both (λ g. found g ≡ true) f.goes_on (acted a f) f (found_acted a f (or_false (says_away a) (any says_away acts) h).0 k) k)

found_ruled : (rs : List Rule) (bs : List ℕ) (f : Fate) → any (λ r. any says_away r.acts) rs ≡ false → found f ≡ true → found (ruled rs bs f) ≡ true
unfolding ruled
found_ruled [] bs f h k = k
found_ruled (r ∷ rs) bs f h k =
    let h₂ = or_false (any says_away r.acts) (any (λ (q : Rule). any says_away q.acts) rs) h in
    found_ruled rs bs (pick (f.goes_on && holds_for f.marks bs r.test) (all_acted r.acts f) f) h₂.1
    (pick_both (λ g. found g ≡ true) (f.goes_on && holds_for f.marks bs r.test) (all_acted r.acts f) f (found_all_acted r.acts f h₂.0 k) k)

-- what is not to be kept any more, and in no box and on no way, is not found
nowhere : (f : Fate) → found f ≡ true → none_of (pick f.still (acted keep f) f).boxes ≡ true → none_of (pick f.still (acted keep f) f).people ≡ true → ⊥
unfolding acted
nowhere f k = go f.still k
  where
    go : (s : Bool) → or s (or (not (none_of f.boxes)) (not (none_of f.people))) ≡ true →
        none_of (pick s (acted keep f) f).boxes ≡ true → none_of (pick s (acted keep f) f).people ≡ true → ⊥
    go true k₁ p q = false≢true (sym (none_with_new in_box f.boxes) ∙ p)
    go false k₁ p q = false≢true (rw (p, q) at k₁)

pub not_lost : NotLost
unfolding NotLost fate
not_lost rs bs p q = go (any (λ r. any says_away r.acts) rs) refl
  where
    go : (b : Bool) → any (λ (r : Rule). any says_away r.acts) rs ≡ b → b ≡ true
    go true e = refl
    go false e = absurd (nowhere (ruled rs bs fresh) (found_ruled rs bs fresh e refl) p q)
