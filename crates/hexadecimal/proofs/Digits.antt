-- What the library's crate of hexadecimal digits reads and writes is what the definitions say; and digits of one byte more.
use Rattle.std.proofs.Common.{◌≡◌, ℕ, zero, suc, ◌+◌, ◌*◌, ◌%◌, ◌/◌, ◌<◌, ◌≤◌, ◌&&◌, Bool, true, eqb, List, [], ◌∷◌, ◌++◌, length, get_or, take, drop, Some, None, Ok, Err, Option, Result, refl, sym, ap, ◌∙◌, inl, inr, arith, eqb-true, append_assoc}
use Rattle.std.proofs.lemmas.List.{append-nil, drop-drop, get_or-take, nil_from_length}
use Rattle.std.specs.Prelude.{MatchResult}
use Rattle.std.specs.Simd.{first_chunks}
use Rattle.std.specs.Result.{result_ok}
use Rattle.std.specs.Option.{option_map, option_and_then}
use Rattle.std.proofs.lemmas.Bool.{cases_Bool}
use Rattle.std.proofs.lemmas.Bool.Decides.{nat_tests, Decides-below_and, Decides-eqb}
use Rattle.hex.specs.Hex.{hex_digit_value, digit_or_error, decode_pairs, decode_of, decode_sized, lower_digits, encode_with, encode_lower, IsBytes, ◌>>=◌}
use Rattle.hex.specs.declared.error.FromHexError.{FromHexError}
use Rattle.hexadecimal.specs.Hex.{digit_value, before, pair_value, digit, with_byte, hexed, unhexed}

same_digit : (c : ℕ) → hex_digit_value c ≡ digit_value c
same_digit c = grind (arith, nat_tests)

-- a pair of digits before what is decoded after it
same_byte : (c d i : ℕ) (a b : Option ℕ) (r : Result (List ℕ) FromHexError) →
    result_ok ((digit_or_error c i a >>= (λ h. digit_or_error d (i + 1) b >>= (λ l. Ok (h * 16 + l)))) >>= (λ byte. r >>= (λ bytes. Ok (byte ∷ bytes))))
    ≡ with_byte (option_and_then (λ high. option_map (λ low. 16 * high + low) b) a) (result_ok r)
same_byte c d i None b r = refl
same_byte c d i (Some h) None r = refl
same_byte c d i (Some h) (Some l) (Err e) = refl
same_byte c d i (Some h) (Some l) (Ok bytes) = let e : h * 16 + l ≡ 16 * h + l = omega arith in ap (λ x. Some (x ∷ bytes)) e

unhexed_pairs : (cs : List ℕ) (i : ℕ) → result_ok (decode_pairs i cs) ≡ unhexed cs
unfolding decode_pairs unhexed
unhexed_pairs [] i = refl
unhexed_pairs (c ∷ []) i = refl
unhexed_pairs (c ∷ d ∷ cs) i =
    same_byte c d i (hex_digit_value c) (hex_digit_value d) (decode_pairs (i + 2) cs)
    ∙ rw (same_digit c, same_digit d, unhexed_pairs cs (i + 2))

with_none : (o : Option ℕ) → with_byte o None ≡ None
with_none None = refl
with_none (Some b) = refl

pub unhexed_odd : (cs : List ℕ) → length cs % 2 ≡ 1 → unhexed cs ≡ None
unfolding unhexed
unhexed_odd [] e = absurd (omega arith)
unhexed_odd (c ∷ []) e = refl
unhexed_odd (c ∷ d ∷ cs) e = rw (unhexed_odd cs (omega arith)) (with_none (pair_value c d))

-- what the library decodes, without its reasons to refuse
pub decoded : (text : List ℕ) → result_ok (decode_of text) ≡ unhexed text
decoded text =
    elim (cases_Bool (eqb (length text % 2) 1)) [
      | inl e ↦ rw e (sym (unhexed_odd text (eqb-true _ _ e)))
      | inr e ↦ rw e (unhexed_pairs text 0)
    ]

one_byte : (o : Option ℕ) (read : Result (List ℕ) FromHexError) (r : Result Unit FromHexError) (out : List ℕ) → result_ok read ≡ with_byte o (Some [])
    → MatchResult read (λ bytes. (r ≡ Ok tt) × (out ≡ bytes)) (λ e. r ≡ Err e) → option_map (λ _. get_or out 0 0) (result_ok r) ≡ o
one_byte None (Ok bytes) r out e h = cc e
one_byte None (Err x) r out e h = rw h refl
one_byte (Some b) (Ok bytes) r out e h = rw (h.0, h.1) (ap (option_map (λ xs. get_or xs 0 0)) e)
one_byte (Some b) (Err x) r out e h = cc e

-- two digits that are decoded into room for one byte
pub byte_read : (c d : ℕ) (r : Result Unit FromHexError) (out : List ℕ)
    → MatchResult (decode_sized (c ∷ d ∷ []) 1) (λ bytes. (r ≡ Ok tt) × (out ≡ bytes)) (λ e. r ≡ Err e)
    → option_map (λ _. get_or out 0 0) (result_ok r) ≡ pair_value c d
unfolding unhexed
byte_read c d r out h = one_byte (pair_value c d) _ r out (decoded (c ∷ d ∷ [])) h

pub before_push : (bs : List ℕ) (b : ℕ) (o : Option (List ℕ)) → before bs (before (b ∷ []) o) ≡ before (bs ++ b ∷ []) o
before_push bs b None = refl
before_push bs b (Some cs) = ap Some (sym (append_assoc bs (b ∷ []) cs))

pub unhexed_pair : (cs : List ℕ) → 2 ≤ length cs → unhexed cs ≡ with_byte (pair_value (get_or cs 0 0) (get_or cs 1 0)) (unhexed (drop 2 cs))
unfolding unhexed
unhexed_pair [] h = absurd (omega arith)
unhexed_pair (c ∷ []) h = absurd (omega arith)
unhexed_pair (c ∷ d ∷ cs) h = refl

-- one turn of the loop that reads digits: what is left begins with no byte, or with one
module _ (text bs rest : List ℕ) (so_far : unhexed text ≡ before bs (unhexed rest)) where
  pub turn_none : 2 ≤ length rest → None ≡ pair_value (get_or rest 0 0) (get_or rest 1 0) → None ≡ unhexed text
  turn_none l e = sym (so_far ∙ ap (before bs) (unhexed_pair rest l ∙ ap (λ o. with_byte o (unhexed (drop 2 rest))) (sym e)))

  pub turn_some : (b : ℕ) (bs₁ : List ℕ) → 2 ≤ length rest → Some b ≡ pair_value (get_or rest 0 0) (get_or rest 1 0) → bs₁ ≡ bs ++ b ∷ []
      → unhexed text ≡ before bs₁ (unhexed (drop 2 rest))
  turn_some b bs₁ l e p =
      so_far ∙ ap (before bs) (unhexed_pair rest l ∙ ap (λ o. with_byte o (unhexed (drop 2 rest))) (sym e)) ∙ before_push bs b (unhexed (drop 2 rest))
      ∙ ap (λ xs. before xs (unhexed (drop 2 rest))) (sym p)

  pub turn_end : length rest ≡ 0 → Some bs ≡ unhexed text
  unfolding unhexed
  turn_end e = sym (so_far ∙ rw (nil_from_length rest e, append-nil bs))

-- a text that begins with a byte
begins : (text : List ℕ) (b : ℕ) → 2 ≤ length text → Some b ≡ pair_value (get_or text 0 0) (get_or text 1 0) → unhexed (take 2 text) ≡ Some (b ∷ [])
unfolding unhexed
begins [] b l e = absurd (omega arith)
begins (c ∷ []) b l e = absurd (omega arith)
begins (c ∷ d ∷ cs) b l e = ap (λ o. with_byte o (Some [])) (sym e)

-- where a byte was read, at i, the text begins with one
pub begun : (text : List ℕ) (i b : ℕ) → 2 * i + 2 ≤ length text → Some b ≡ pair_value (get_or (drop (2 * i) text) 0 0) (get_or (drop (2 * i) text) 1 0)
    → (unhexed (take 2 text) ≡ None → i ≡ 0) → unhexed (take 2 text) ≡ None → ⊥
begun text i b l e first none =
    let at_first = rw (first none) at e in
    cc (sym none ∙ begins text b (omega arith) at_first)

pair_at : (k i : ℕ) (cs : List ℕ) → i < k → get_or (first_chunks 2 k cs) i [] ≡ take 2 (drop (2 * i) cs)
pair_at zero i cs h = absurd (omega arith)
pair_at (suc k) zero cs h = refl
pair_at (suc k) (suc i) cs h =
    let next : 2 + 2 * i ≡ 2 * suc i = omega arith in
    pair_at k i (drop 2 cs) (omega arith) ∙ ap (take 2) (drop-drop (2 * i) 2 cs ∙ ap (λ n. drop n cs) next)

-- the byte of the pair at i, where the text is cut into pairs
pub pair_there : (pairs : List (List ℕ)) (k i : ℕ) (cs : List ℕ) → pairs ≡ first_chunks 2 k cs → i < k
    → pair_value (get_or (get_or pairs i []) 0 0) (get_or (get_or pairs i []) 1 0) ≡ pair_value (get_or (drop (2 * i) cs) 0 0) (get_or (drop (2 * i) cs) 1 0)
pair_there pairs k i cs e h =
    let pair : get_or pairs i [] ≡ take 2 (drop (2 * i) cs) = ap (λ ps. get_or ps i []) e ∙ pair_at k i cs h in
    let high = get_or-take 2 (drop (2 * i) cs) 0 0 (omega arith) in
    let low = get_or-take 2 (drop (2 * i) cs) 1 0 (omega arith) in
    rw (pair, high, low) refl

abbrev same_below : ℕ → Bool
same_below zero = true
same_below (suc n) = eqb (get_or lower_digits n 0) (digit n) && same_below n

lower_digit : (n : ℕ) → n < 16 → get_or lower_digits n 0 ≡ digit n
lower_digit =
    (Decides-below_and (λ k. eqb (get_or lower_digits k 0) (digit k)) (λ k. get_or lower_digits k 0 ≡ digit k) same_below (λ k. Decides-eqb _ _) refl (λ _. refl) 16).0 refl

pub encoded : (bs : List ℕ) → IsBytes bs → encode_lower bs ≡ hexed bs
unfolding encode_with hexed
encoded [] h = refl
encoded (b ∷ bs) h =
    let small = h 0 in
    rw (lower_digit (b / 16) (omega arith), lower_digit (b % 16) (omega arith), encoded bs (λ i. h (suc i)))
