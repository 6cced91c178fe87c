-- Laws of small letters, and of the tests that compare texts in them: what the library's methods answer is what the definitions say.
use Rattle.std.proofs.Common.{◌≡◌, ℕ, zero, suc, ◌+◌, ◌<◌, ◌≤◌, Bool, false, not, cond, ◌&&◌, eqb, ltb, List, [], ◌∷◌, ◌++◌, length, get_or, take, drop, map, Some, None, sym, refl, ap, ◌∙◌, inl, inr, arith, le-ltb, lt-ltb}
use mathlib.Core.Bool.{and_assoc}
use Rattle.std.specs.Bool.{Decides}
use Rattle.std.specs.Char.{to_ascii_lowercase}
use Rattle.std.specs.List.{position_or_len}
use Rattle.std.specs.Option.{unwrap_or}
use Rattle.std.proofs.lemmas.Bool.{cases_Bool, cases_lt, and_right}
use Rattle.std.proofs.lemmas.Bool.Decides.{nat_tests, same_from_decides, Decides-like, Decides-and, Decides-eqb}
use Rattle.model.specs.Mail.{each, small, smalls, starts_with, same, no_blanks}

pub length_each : {A B : Type 0} (f : A → B) (xs : List A) → length (each f xs) ≡ length xs
length_each f [] = refl
length_each f (x ∷ xs) = ap suc (length_each f xs)

pub drop_each : {A B : Type 0} (f : A → B) (n : ℕ) (xs : List A) → drop n (each f xs) ≡ each f (drop n xs)
drop_each f zero xs = refl
drop_each f (suc n) [] = refl
drop_each f (suc n) (x ∷ xs) = drop_each f n xs

-- the standard library's small letter is this one
pub lower_small : (c : ℕ) → to_ascii_lowercase c ≡ small c
lower_small c = grind (arith, nat_tests)

pub small_at : (bs : List ℕ) (i : ℕ) → i < length bs → get_or (smalls bs) i 0 ≡ small (get_or bs i 0)
small_at [] i h = absurd (omega arith)
small_at (c ∷ cs) zero h = refl
small_at (c ∷ cs) (suc i) h = small_at cs i (omega arith)

smalls_map : (bs : List ℕ) → map to_ascii_lowercase bs ≡ smalls bs
smalls_map [] = refl
smalls_map (c ∷ cs) = rw (lower_small c, smalls_map cs)

-- no capital becomes a byte below the capitals, so a colon or a blank in small letters was one
pub small_of_low : (c d : ℕ) → d < 65 → eqb (small c) d ≡ eqb c d
small_of_low c d low = grind (arith, nat_tests)

pub starts_with_short : (ps ws : List ℕ) → length ws < length ps → starts_with ps ws ≡ false
unfolding starts_with
starts_with_short [] ws l = absurd (omega arith)
starts_with_short (p ∷ ps) [] l = refl
starts_with_short (p ∷ ps) (w ∷ ws) l = and_right (eqb p w) (starts_with ps ws) (starts_with_short ps ws (omega arith))

pub starts_with_append : (ps qs ws : List ℕ) → starts_with (ps ++ qs) ws ≡ starts_with ps ws && starts_with qs (drop (length ps) ws)
unfolding starts_with
starts_with_append [] qs ws = refl
starts_with_append (p ∷ ps) qs [] = refl
starts_with_append (p ∷ ps) qs (w ∷ ws) =
    ap (λ t. eqb p w && t) (starts_with_append ps qs ws) ∙ sym (and_assoc (eqb p w) (starts_with ps ws) (starts_with qs (drop (length ps) ws)))

pub no_blanks_smalls : (bs : List ℕ) → smalls (no_blanks bs) ≡ no_blanks (smalls bs)
unfolding no_blanks
no_blanks_smalls [] = refl
no_blanks_smalls (c ∷ cs) =
    elim (cases_Bool (eqb c 32)) [ inl e ↦ rw (small_of_low c 32 (omega arith), e) (no_blanks_smalls cs) | inr e ↦ rw (small_of_low c 32 (omega arith), e) ]

pub length_no_blanks : (bs : List ℕ) → length (no_blanks bs) ≤ length bs
unfolding no_blanks
length_no_blanks [] = omega arith
length_no_blanks (c ∷ cs) = elim (cases_Bool (eqb c 32)) [ inl e ↦ rw e (omega (arith, length_no_blanks cs)) | inr e ↦ rw e (omega arith) ]

-- comparing texts

take_each : {A B : Type 0} (f : A → B) (n : ℕ) (xs : List A) → take n (each f xs) ≡ each f (take n xs)
take_each f zero xs = refl
take_each f (suc n) [] = refl
take_each f (suc n) (x ∷ xs) = ap (λ l. f x ∷ l) (take_each f n xs)

Decides-same : (xs ys : List ℕ) → Decides (same xs ys) (xs ≡ ys)
unfolding same
Decides-same [] [] = (λ _. refl, λ _. refl)
Decides-same [] (y ∷ ys) = (λ e. cc, λ e. cc)
Decides-same (x ∷ xs) [] = (λ e. cc, λ e. cc)
Decides-same (x ∷ xs) (y ∷ ys) = Decides-like _ (λ p. cc) (λ e. (cc, cc)) (Decides-and _ _ (Decides-eqb x y) (Decides-same xs ys))

-- the library's test of two texts is this one
pub same_small : (r : Bool) (a b : List ℕ) → Decides r (map to_ascii_lowercase a ≡ map to_ascii_lowercase b) → r ≡ same (smalls b) (smalls a)
same_small r a b h =
    same_from_decides r _ (Decides-like r (λ e. sym e) (λ e. sym e) (rw (smalls_map a, smalls_map b) at h)) (Decides-same (smalls b) (smalls a))

starts_with_same : (ps ws : List ℕ) → length ps ≤ length ws → starts_with ps ws ≡ same ps (take (length ps) ws)
unfolding starts_with same
starts_with_same [] ws l = refl
starts_with_same (p ∷ ps) [] l = absurd (omega arith)
starts_with_same (p ∷ ps) (w ∷ ws) l = ap (λ t. eqb p w && t) (starts_with_same ps ws (omega arith))

-- a text begins with a prefix if its front is the prefix
pub starts_with_front : (ps ws : List ℕ) → length ps ≤ length ws → starts_with (smalls ps) (smalls ws) ≡ same (smalls ps) (smalls (take (length ps) ws))
starts_with_front ps ws l =
    starts_with_same (smalls ps) (smalls ws) (rw (length_each small ps, length_each small ws) l)
    ∙ rw (length_each small ps, take_each small (length ps) ws)

-- leaving the blanks before a text

pub one_more : (n : ℕ) → 1 + n ≡ suc n
one_more n = omega arith

pub no_blanks_from : (bs : List ℕ) → no_blanks bs ≡ drop (position_or_len (λ b. not (eqb b 32)) bs) bs
unfolding no_blanks
no_blanks_from [] = refl
no_blanks_from (c ∷ cs) = elim (cases_Bool (eqb c 32)) [
  | inl e ↦ rw (e, one_more (position_or_len (λ b. not (eqb b 32)) cs)) (no_blanks_from cs)
  | inr e ↦ rw e
]

-- where there is no such place, the end stands for it
pub place_or_end : (n end : ℕ) → n ≤ end → unwrap_or (cond (ltb n end) (Some n) None) end ≡ n
place_or_end n end l = elim (cases_lt n end) [ inl a ↦ rw (lt-ltb n end a) | inr a ↦ rw (le-ltb n end a) (omega arith) ]
