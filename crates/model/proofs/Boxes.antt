-- Boxes by name: what is found under a name after a box was changed, added or dropped.
use Rattle.std.proofs.Common.{◌≡◌, ℕ, Bool, true, false, not, eqb, List, [], ◌∷◌, ◌++◌, refl, ap, ◌∙◌, ap₂, eq-eqb, eqb-true}
use mathlib.Core.Bool.{false≢true}
use Rattle.std.proofs.lemmas.Bool.{and_parts, and_from}
use Rattle.model.specs.Mail.{pick, or, every, any, those, same, in_box, with_new}
use Rattle.model.specs.House.{Box, has_box, box_of, set_box, put_letter, put_all, known_boxes}
use Rattle.model.proofs.Places.{pick_both, pick_cases, every_append}

pub same_true : (xs ys : List ℕ) → same xs ys ≡ true → xs ≡ ys
unfolding same
same_true [] [] h = refl
same_true [] (y ∷ ys) h = absurd (false≢true h)
same_true (x ∷ xs) [] h = absurd (false≢true h)
same_true (x ∷ xs) (y ∷ ys) h =
    let hs = and_parts (eqb x y) (same xs ys) h in
    ap₂ (λ (z : ℕ) (zs : List ℕ). z ∷ zs) (eqb-true x y hs.0) (same_true xs ys hs.1)

pub same_refl : (xs : List ℕ) → same xs xs ≡ true
unfolding same
same_refl [] = refl
same_refl (x ∷ xs) = and_from (eqb x x) (same xs xs) (eq-eqb x x refl) (same_refl xs)

same_other : (xs ys zs : List ℕ) → same xs ys ≡ true → same ys zs ≡ false → same xs zs ≡ false
same_other xs ys zs e n = rw (same_true xs ys e) n

pub box_of_name : (bs : List Box) (n : List ℕ) → has_box bs n ≡ true → (box_of bs n).name ≡ n
unfolding box_of
box_of_name [] n = λ h. absurd (false≢true h)
box_of_name (b ∷ bs) n = go (same b.name n) refl (box_of_name bs n)
  where
    go : (t : Bool) → same b.name n ≡ t → (has_box bs n ≡ true → (box_of bs n).name ≡ n) → or t (has_box bs n) ≡ true → (pick t b (box_of bs n)).name ≡ n
    go true e k h = same_true b.name n e
    go false e k h = k h

-- a changed box has its name still
pub has_box_set : (bs : List Box) (c : Box) (n : List ℕ) → has_box (set_box bs c) n ≡ has_box bs n
unfolding set_box
has_box_set [] c n = refl
has_box_set (b ∷ bs) c n =
    pick_cases (λ cs. has_box cs n ≡ has_box (b ∷ bs) n) (same b.name c.name) (c ∷ bs) (b ∷ set_box bs c)
    (λ e. rw (same_true b.name c.name e))
    (λ e. ap (or (same b.name n)) (has_box_set bs c n))

pub box_of_set : (bs : List Box) (c : Box) → has_box bs c.name ≡ true → box_of (set_box bs c) c.name ≡ c
unfolding set_box box_of
box_of_set [] c = λ h. absurd (false≢true h)
box_of_set (b ∷ bs) c = go (same b.name c.name) refl (box_of_set bs c)
  where
    go : (t : Bool) → same b.name c.name ≡ t → (has_box bs c.name ≡ true → box_of (set_box bs c) c.name ≡ c) →
        or t (has_box bs c.name) ≡ true → box_of (pick t (c ∷ bs) (b ∷ set_box bs c)) c.name ≡ c
    go true e k h = rw (same_refl c.name)
    go false e k h = rw e (k h)

pub box_of_set_other : (bs : List Box) (c : Box) (n : List ℕ) → same c.name n ≡ false → box_of (set_box bs c) n ≡ box_of bs n
unfolding set_box box_of
box_of_set_other [] c n h = refl
box_of_set_other (b ∷ bs) c n h =
    pick_cases (λ cs. box_of cs n ≡ box_of (b ∷ bs) n) (same b.name c.name) (c ∷ bs) (b ∷ set_box bs c)
    (λ e. rw (h, same_other b.name c.name n e h))
    (λ e. ap (pick (same b.name n) b) (box_of_set_other bs c n h))

pub has_box_append : (bs cs : List Box) (n : List ℕ) → has_box bs n ≡ true → has_box (bs ++ cs) n ≡ true
has_box_append [] cs n h = absurd (false≢true h)
has_box_append (b ∷ bs) cs n h = go (same b.name n) h (has_box_append bs cs n)
  where
    go : (t : Bool) → or t (has_box bs n) ≡ true → (has_box bs n ≡ true → has_box (bs ++ cs) n ≡ true) → or t (has_box (bs ++ cs) n) ≡ true
    go true h₁ k = refl
    go false h₁ k = k h₁

pub box_of_append : (bs cs : List Box) (n : List ℕ) → has_box bs n ≡ true → box_of (bs ++ cs) n ≡ box_of bs n
unfolding box_of
box_of_append [] cs n h = absurd (false≢true h)
box_of_append (b ∷ bs) cs n h = go (same b.name n) h (box_of_append bs cs n)
  where
    go : (t : Bool) → or t (has_box bs n) ≡ true → (has_box bs n ≡ true → box_of (bs ++ cs) n ≡ box_of bs n) → pick t b (box_of (bs ++ cs) n) ≡ pick t b (box_of bs n)
    go true h₁ k = refl
    go false h₁ k = k h₁

-- the boxes of all names but one
abbrev pub without_box : List ℕ → List Box → List Box
without_box nm bs = those (λ b. not (same b.name nm)) bs

pub has_box_without : (nm : List ℕ) (bs : List Box) (n : List ℕ) → same nm n ≡ false → has_box (without_box nm bs) n ≡ has_box bs n
has_box_without nm [] n h = refl
has_box_without nm (b ∷ bs) n h = go (same b.name nm) refl (has_box_without nm bs n h)
  where
    go : (t : Bool) → same b.name nm ≡ t → has_box (without_box nm bs) n ≡ has_box bs n →
        has_box (pick (not t) (b ∷ without_box nm bs) (without_box nm bs)) n ≡ or (same b.name n) (has_box bs n)
    go true e k = rw (same_other b.name nm n e h) k
    go false e k = ap (or (same b.name n)) k

pub box_of_without : (nm : List ℕ) (bs : List Box) (n : List ℕ) → same nm n ≡ false → box_of (without_box nm bs) n ≡ box_of bs n
unfolding box_of
box_of_without nm [] n h = refl
box_of_without nm (b ∷ bs) n h = go (same b.name nm) refl (box_of_without nm bs n h)
  where
    go : (t : Bool) → same b.name nm ≡ t → box_of (without_box nm bs) n ≡ box_of bs n →
        box_of (pick (not t) (b ∷ without_box nm bs) (without_box nm bs)) n ≡ pick (same b.name n) b (box_of bs n)
    go true e k = rw (same_other b.name nm n e h) k
    go false e k = ap (pick (same b.name n) b) k

pub has_box_dropped : (nm : List ℕ) (bs : List Box) → has_box (without_box nm bs) nm ≡ false
has_box_dropped nm [] = refl
has_box_dropped nm (b ∷ bs) = go (same b.name nm) refl (has_box_dropped nm bs)
  where
    go : (t : Bool) → same b.name nm ≡ t → has_box (without_box nm bs) nm ≡ false → has_box (pick (not t) (b ∷ without_box nm bs) (without_box nm bs)) nm ≡ false
    go true e k = k
    go false e k = rw e k

-- Letters go into boxes that are there.
pub has_box_put_all : (ms t : List ℕ) (ns : List (List ℕ)) (bs : List Box) (n : List ℕ) → has_box (put_all ms t ns bs) n ≡ has_box bs n
unfolding put_all
has_box_put_all ms t [] bs n = refl
has_box_put_all ms t (m ∷ ns) bs n = has_box_put_all ms t ns _ n ∙ has_box_set bs (put_letter ms t (box_of bs m)) n

pub known_boxes_there : (bs : List Box) (ns so : List (List ℕ)) → has_box bs in_box ≡ true → every (has_box bs) so ≡ true → every (has_box bs) (known_boxes bs ns so) ≡ true
unfolding known_boxes
known_boxes_there bs [] so i h = h
known_boxes_there bs (n ∷ ns) so i h =
    known_boxes_there bs ns (with_new (pick (has_box bs n) n in_box) so) i
    (pick_both (λ ms. every (has_box bs) ms ≡ true) (any (same (pick (has_box bs n) n in_box)) so) so _ h
    (every_append (has_box bs) so _ h
    (and_from _ true (pick_cases (λ m. has_box bs m ≡ true) (has_box bs n) n in_box (λ e. e) (λ e. i)) refl)))
