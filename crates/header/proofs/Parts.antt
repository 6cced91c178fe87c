-- A text holds a part if one of its windows is the part; some item passes a test if the library's test of all of them says so.
use Rattle.std.proofs.Common.{◌≡◌, ℕ, ◌<◌, ◌≤◌, Bool, true, false, cond, ◌||◌, leb, List, [], ◌∷◌, length, take, drop, sym, refl, ap, subst, ◌∙◌, inl, inr, arith, le-leb}
use borrow.Author.Tests.{lt-leb}
use Rattle.std.specs.List.{list_any}
use Rattle.std.specs.Slice.Iter.{windows_rest, windows_size, windows_steps}
use Rattle.std.proofs.lemmas.Bool.{cases_lt}
use Rattle.std.proofs.lemmas.Iterator.{YieldsList}
use Rattle.std.proofs.lemmas.Iterator.Splits.{YieldsList-from_shown_while}
use Rattle.header.proofs.Small.{length_each, starts_with_short, starts_with_front}
use Rattle.model.specs.Mail.{or, any, small, smalls, starts_with, holds, same}

abbrev windows_of : ℕ → List ℕ → List (List ℕ)
windows_of n [] = []
windows_of n (x ∷ xs) = cond (leb n (length (x ∷ xs))) (take n (x ∷ xs) ∷ windows_of n xs) []

windows_none : (n : ℕ) (xs : List ℕ) → length xs < n → windows_of n xs ≡ []
windows_none n [] l = refl
windows_none n (x ∷ xs) l = rw (lt-leb n (length (x ∷ xs)) l)

windows_more : (n : ℕ) (xs : List ℕ) → 0 < n → n ≤ length xs → windows_of n xs ≡ take n xs ∷ windows_of n (drop 1 xs)
windows_more n [] z l = absurd (omega arith)
windows_more n (x ∷ xs) z l = rw (le-leb n (length (x ∷ xs)) l)

pub YieldsList-from_windows : {s : _} (n : ℕ) (xs : List ℕ) → 0 < n → windows_size s ≡ n → windows_rest s ≡ xs → YieldsList (windows_steps {A = ℕ}) (λ x. x.now) s (windows_of n xs)
YieldsList-from_windows {s} n xs z a b =
    subst (λ ws. YieldsList (windows_steps {A = ℕ}) (λ x. x.now) s ws) (ap (λ m. windows_of m (windows_rest s)) a ∙ ap (windows_of n) b)
    (YieldsList-from_shown_while (windows_steps {A = ℕ}) (λ x. x.now) (λ t. windows_of (windows_size t) (windows_rest t)) (λ t. 0 < windows_size t)
    (λ t u p h. ap length (windows_none (windows_size t) (windows_rest t) h.1.0))
    (λ t x u p h. (omega arith, windows_more (windows_size t) (windows_rest t) p h.1.0 ∙ cc))
    s (omega arith))

holds_short : (ps ws : List ℕ) → length ws < length ps → holds ps ws ≡ false
unfolding holds
holds_short [] ws l = absurd (omega arith)
holds_short (p ∷ ps) [] l = refl
holds_short (p ∷ ps) (w ∷ ws) l = rw (starts_with_short (p ∷ ps) (w ∷ ws) l, holds_short (p ∷ ps) ws (omega arith))

or_is_or : (a b : Bool) → or a b ≡ (a || b)
or_is_or true b = refl
or_is_or false b = refl

pub holds_windows : (ps ws : List ℕ) → 0 < length ps → list_any (λ w. same (smalls ps) (smalls w)) (windows_of (length ps) ws) ≡ holds (smalls ps) (smalls ws)
unfolding holds
holds_windows ps [] z = sym (holds_short (smalls ps) [] (rw (length_each small ps) z))
holds_windows ps (w ∷ ws) z =
    elim (cases_lt (length (w ∷ ws)) (length ps)) [
      | inl l ↦
          rw (lt-leb (length ps) (length (w ∷ ws)) l)
          (sym (holds_short (smalls ps) (smalls (w ∷ ws)) (rw (length_each small ps, length_each small (w ∷ ws)) l)))
      | inr l ↦
          rw (le-leb (length ps) (length (w ∷ ws)) l)
          (rw (← starts_with_front ps (w ∷ ws) l, holds_windows ps ws z) (sym (or_is_or (starts_with (smalls ps) (smalls (w ∷ ws))) (holds (smalls ps) (smalls ws)))))
    ]

pub holds_nothing : (ps ws : List ℕ) → length ps ≡ 0 → holds ps ws ≡ true
unfolding holds starts_with
holds_nothing [] [] e = refl
holds_nothing [] (w ∷ ws) e = refl
holds_nothing (p ∷ ps) ws e = absurd (omega arith)

pub any_listed : {A : Type 0} (p : A → Bool) (xs : List A) → list_any p xs ≡ any p xs
any_listed p [] = refl
any_listed p (x ∷ xs) = ap (λ b. p x || b) (any_listed p xs) ∙ sym (or_is_or (p x) (any p xs))
