-- Laws of the places that a directory counts through: count_up, first, and each, those and any over them.
use Rattle.std.proofs.Common.{MatchOption, sym, ◌≡◌, ℕ, zero, suc, ◌+◌, ◌-◌, ◌<◌, ◌≤◌, Bool, true, false, ◌&&◌, List, [], ◌∷◌, ◌++◌, length, is_some, Some, None, Option, refl, ap, ◌∙◌, inl, inr, add-zero, add-one, arith, length-append}
use Rattle.std.proofs.lemmas.Bool.{cases_Bool, cases_eq}
use Rattle.std.specs.List.{filter, range_with_len}
use denote.Param.Members.{Mut}
use denote.Ref.{Bor}
use Rattle.std.specs.Bool.{⊤}
use Rattle.std.specs.Fn.{CalledAt}
use Rattle.std.specs.Iterator.{YieldsThen}
use Rattle.std.specs.List.{FoldsTo}
use Rattle.std.specs.declared.ops.Range.{Range}
use Rattle.std.proofs.iter.Yields.{nat_range_steps}
use Rattle.std.proofs.lemmas.Iterator.{first_from_Range}
use Rattle.model.specs.Mail.{pick, or, any, each, those}
use Rattle.mailboxes.specs.Directory.{count_up, first}

-- lists
pub length_each : {A B : Type 0} (f : A → B) (xs : List A) → length (each f xs) ≡ length xs
length_each f [] = refl
length_each f (x ∷ xs) = ap suc (length_each f xs)

pub each_append : {A B : Type 0} (f : A → B) (xs ys : List A) → each f (xs ++ ys) ≡ each f xs ++ each f ys
each_append f [] ys = refl
each_append f (x ∷ xs) ys = ap (λ l. f x ∷ l) (each_append f xs ys)

pub those_append : {A : Type 0} (p : A → Bool) (xs ys : List A) → those p (xs ++ ys) ≡ those p xs ++ those p ys
those_append p [] ys = refl
those_append p (x ∷ xs) ys =
    elim (cases_Bool (p x)) [ inl e ↦ rw e (ap (λ l. x ∷ l) (those_append p xs ys)) | inr e ↦ rw e (those_append p xs ys) ]

pub any_each : {A B : Type 0} (q : B → Bool) (f : A → B) (xs : List A) → any q (each f xs) ≡ any (λ x. q (f x)) xs
any_each q f [] = refl
any_each q f (x ∷ xs) = ap (or (q (f x))) (any_each q f xs)

pub any_those : {A : Type 0} (q p : A → Bool) (xs : List A) → any q (those p xs) ≡ any (λ x. p x && q x) xs
any_those q p [] = refl
any_those q p (x ∷ xs) =
    elim (cases_Bool (p x)) [ inl e ↦ rw e (ap (or (q x)) (any_those q p xs)) | inr e ↦ rw e (any_those q p xs) ]

-- counting up
pub length_count_up : (k from : ℕ) → length (count_up from k) ≡ k
unfolding count_up
length_count_up zero from = refl
length_count_up (suc k) from = ap suc (length_count_up k (suc from))

pub count_up_more : (k from : ℕ) → count_up from (suc k) ≡ count_up from k ++ (from + k) ∷ []
unfolding count_up
count_up_more zero from = rw (add-zero from)
count_up_more (suc k) from =
    let e : suc from + k ≡ from + suc k = omega arith in
    ap (λ l. from ∷ l) (count_up_more k (suc from) ∙ ap (λ n. count_up (suc from) k ++ n ∷ []) e)

pub count_up_push : (k : ℕ) → count_up 0 (suc k) ≡ count_up 0 k ++ k ∷ []
count_up_push k = let e : 0 + k ≡ k = omega arith in count_up_more k 0 ∙ ap (λ n. count_up 0 k ++ n ∷ []) e

-- what is alike at each place is alike of all of them
pub any_alike : (p q : ℕ → Bool) (k from : ℕ) → ((i : ℕ) → from ≤ i → i < from + k → p i ≡ q i) → any p (count_up from k) ≡ any q (count_up from k)
unfolding count_up
any_alike p q zero from h = refl
any_alike p q (suc k) from h =
    rw (h from (omega arith) (omega arith)) (ap (or (q from)) (any_alike p q k (suc from) (λ i a b. h i (omega arith) (omega arith))))

pub each_alike : {A : Type 0} (f g : ℕ → A) (k from : ℕ) → ((i : ℕ) → from ≤ i → i < from + k → f i ≡ g i) → each f (count_up from k) ≡ each g (count_up from k)
unfolding count_up
each_alike f g zero from h = refl
each_alike f g (suc k) from h =
    rw (h from (omega arith) (omega arith)) (ap (λ l. g from ∷ l) (each_alike f g k (suc from) (λ i a b. h i (omega arith) (omega arith))))

pub those_alike : (p q : ℕ → Bool) (k from : ℕ) → ((i : ℕ) → from ≤ i → i < from + k → p i ≡ q i) → those p (count_up from k) ≡ those q (count_up from k)
unfolding count_up
those_alike p q zero from h = refl
those_alike p q (suc k) from h =
    rw (h from (omega arith) (omega arith)) (ap (λ l. pick (q from) (from ∷ l) l) (those_alike p q k (suc from) (λ i a b. h i (omega arith) (omega arith))))

pub each_those_alike : {A : Type 0} (f g : ℕ → A) (p q : ℕ → Bool) (k from : ℕ) → ((i : ℕ) → from ≤ i → i < from + k → (f i ≡ g i) × (p i ≡ q i)) →
    each f (those p (count_up from k)) ≡ each g (those q (count_up from k))
unfolding count_up
each_those_alike f g p q zero from h = refl
each_those_alike f g p q (suc k) from h =
    let (e, t) = h from (omega arith) (omega arith) in
    let rest = each_those_alike f g p q k (suc from) (λ i a b. h i (omega arith) (omega arith)) in
    elim (cases_Bool (q from)) [ inl y ↦ rw (t, y, e) (ap (λ l. g from ∷ l) rest) | inr y ↦ rw (t, y) rest ]

-- the first place that passes
pub first_any : (p : ℕ → Bool) (k from : ℕ) → is_some (first p from k) ≡ any p (count_up from k)
unfolding count_up first
first_any p zero from = refl
first_any p (suc k) from = elim (cases_Bool (p from)) [ inl e ↦ rw e | inr e ↦ rw e (first_any p k (suc from)) ]

pub first_none : (p : ℕ → Bool) (k from : ℕ) → ((i : ℕ) → from ≤ i → i < from + k → p i ≡ false) → first p from k ≡ None
unfolding first
first_none p zero from h = refl
first_none p (suc k) from h = rw (h from (omega arith) (omega arith)) (first_none p k (suc from) (λ i a b. h i (omega arith) (omega arith)))

pub none_passes : (p : ℕ → Bool) (k from : ℕ) → first p from k ≡ None → (i : ℕ) → from ≤ i → i < from + k → p i ≡ false
unfolding first
none_passes p zero from e i a b = absurd (omega arith)
none_passes p (suc k) from e i a b =
    elim (cases_Bool (p from)) [
      | inl t ↦ absurd (let z : ◌≡◌ {A = Option ℕ} (Some from) None = rw t at e in let y : ◌≡◌ {A = ℕ} 0 1 = cc in omega arith)
      | inr t ↦ elim (cases_eq i from) [
        | inl q ↦ rw q t
        | inr q ↦ none_passes p k (suc from) (rw t at e) i (omega arith) (omega arith)
      ]
    ]

pub record First (p : ℕ → Bool) (from k i : ℕ) : Type 0 where
  pub not_before : from ≤ i
  pub not_past : i < from + k
  pub passes : p i ≡ true
  pub none_earlier : (j : ℕ) → from ≤ j → j < i → p j ≡ false

pub first_some : (p : ℕ → Bool) (k from i : ℕ) → first p from k ≡ Some i → First p from k i
unfolding first
first_some p zero from i e = absurd (let y : ◌≡◌ {A = ℕ} 0 1 = cc in omega arith)
first_some p (suc k) from i e =
    elim (cases_Bool (p from)) [
      | inl t ↦
          let z : ◌≡◌ {A = Option ℕ} (Some from) (Some i) = rw t at e in
          let y : from ≡ i = cc in
          record { not_before = omega arith; not_past = omega arith; passes = rw y at t; none_earlier = λ j a b. absurd (omega arith) }
      | inr t ↦
          let r : First p (suc from) k i = first_some p k (suc from) i (rw t at e) in
          record {
            not_before = omega arith;
            not_past = omega arith;
            passes = r.passes;
            none_earlier = λ j a b. elim (cases_eq j from) [ inl q ↦ rw q t | inr q ↦ r.none_earlier j (omega arith) b ];
          }
    ]

pub first_is : (p : ℕ → Bool) (k from i : ℕ) → First p from k i → first p from k ≡ Some i
unfolding first
first_is p zero from i f = absurd (omega arith)
first_is p (suc k) from i f =
    elim (cases_eq from i) [
      | inl q ↦ let t : p from ≡ true = rw q f.passes in rw t (ap Some q)
      | inr q ↦
          rw
          (f.none_earlier from (omega arith) (omega arith))
          (first_is p k (suc from) i (record {
            not_before = omega arith;
            not_past = omega arith;
            passes = f.passes;
            none_earlier = λ j a b. f.none_earlier j (omega arith) b;
          }))
    ]

-- what a search through the places finds
first_found : (p : ℕ → Bool) (k from end : ℕ) (r : Option ℕ) → end - from ≡ k →
    MatchOption r ((i : ℕ) → from ≤ i → i < end → p i ≡ false)
    (λ i. (from ≤ i) × (i < end) × (p i ≡ true) × ((j : ℕ) → from ≤ j → j < i → p j ≡ false)) →
    r ≡ first p from k
first_found p k from end None e h = sym (first_none p k from (λ i a b. h i a (omega arith)))
first_found p k from end (Some i) e h = sym (first_is p k from i (record { not_before = h.0; not_past = omega arith; passes = h.2; none_earlier = h.3 }))

-- `find` over a range, where the closure computes a test
pub found_in_range : {F : Type 0} {g : Mut F (Bor ℕ × Unit {0}) Bool} (p : ℕ → Bool) (n : ℕ) (s u : Range ℕ) (f : F) (r : Option ℕ) → s.end - s.start ≡ n →
    (xs : List ℕ) × (j : F) × YieldsThen nat_range_steps s xs r u × FoldsTo (λ h x q. CalledAt g h x false q) f xs j × MatchOption r ⊤ (λ x. (h : F) × CalledAt g j x true h) →
    ((x : ℕ) (b : Bool) (q : F) → CalledAt g f x b q → (q ≡ f) × (b ≡ p x)) → r ≡ first p s.start n
found_in_range p n s u f r e ran test =
    first_found p n s.start s.end r e
    (first_from_Range s u f r (λ x. p x ≡ true) (λ x. p x ≡ false) ran (λ x q k. sym (test x true q k).1) (λ x q k. ((test x false q k).0, sym (test x false q k).1)))

-- those that pass: the first, and those behind it
pub those_none : (p : ℕ → Bool) (k from : ℕ) → ((i : ℕ) → from ≤ i → i < from + k → p i ≡ false) → those p (count_up from k) ≡ []
unfolding count_up
those_none p zero from h = refl
those_none p (suc k) from h = rw (h from (omega arith) (omega arith)) (those_none p k (suc from) (λ i a b. h i (omega arith) (omega arith)))

pub those_first_none : (p : ℕ → Bool) (k from : ℕ) → first p from k ≡ None → those p (count_up from k) ≡ []
those_first_none p k from e = those_none p k from (none_passes p k from e)

pub those_first : (p : ℕ → Bool) (k from i : ℕ) → first p from k ≡ Some i → those p (count_up from k) ≡ i ∷ those p (count_up (suc i) (from + k - suc i))
unfolding count_up first
those_first p zero from i e = absurd (let y : ◌≡◌ {A = ℕ} 0 1 = cc in omega arith)
those_first p (suc k) from i e =
    elim (cases_Bool (p from)) [
      | inl t ↦
          let z : ◌≡◌ {A = Option ℕ} (Some from) (Some i) = rw t at e in
          let y : from ≡ i = cc in
          let n : k ≡ from + suc k - suc from = omega arith in
          rw t (ap (λ m. from ∷ those p (count_up (suc from) m)) n ∙ ap (λ m. m ∷ those p (count_up (suc m) (from + suc k - suc m))) y)
      | inr t ↦
          let n : suc from + k ≡ from + suc k = omega arith in
          rw t (those_first p k (suc from) i (rw t at e) ∙ ap (λ m. i ∷ those p (count_up (suc i) (m - suc i))) n)
    ]

-- what a filter of the places leaves
pub filter_counted : (p : ℕ → Bool) (k from : ℕ) → filter p (range_with_len from k) ≡ those p (count_up from k)
unfolding count_up
filter_counted p zero from = refl
filter_counted p (suc k) from =
    rw (add-one from) (elim (cases_Bool (p from)) [ inl e ↦ rw e (ap (λ l. from ∷ l) (filter_counted p k (suc from))) | inr e ↦ rw e (filter_counted p k (suc from)) ])

-- counting up those that pass a test
pub length_those : {A : Type 0} (p : A → Bool) (xs : List A) → length (those p xs) ≤ length xs
length_those p [] = omega arith
length_those p (x ∷ xs) = elim (cases_Bool (p x)) [ inl e ↦ rw e (omega (arith, length_those p xs)) | inr e ↦ rw e (omega (arith, length_those p xs)) ]

those_push : (p : ℕ → Bool) (k : ℕ) → those p (count_up 0 (k + 1)) ≡ those p (count_up 0 k) ++ those p (k ∷ [])
those_push p k = ap (λ n. those p (count_up 0 n)) (add-one k) ∙ ap (those p) (count_up_push k) ∙ those_append p (count_up 0 k) (k ∷ [])

pub count_yes : (p : ℕ → Bool) (k : ℕ) → p k ≡ true → length (those p (count_up 0 (k + 1))) ≡ length (those p (count_up 0 k)) + 1
count_yes p k e = ap length (those_push p k) ∙ length-append (those p (count_up 0 k)) (those p (k ∷ [])) ∙ rw e

pub count_no : (p : ℕ → Bool) (k : ℕ) → p k ≡ false → length (those p (count_up 0 (k + 1))) ≡ length (those p (count_up 0 k))
count_no p k e = ap length (those_push p k) ∙ length-append (those p (count_up 0 k)) (those p (k ∷ [])) ∙ rw e (add-zero (length (those p (count_up 0 k))))
