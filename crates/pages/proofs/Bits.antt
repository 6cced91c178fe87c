-- Laws of selector bits: a turned bit is the other one, the rest stay, and words stay below 2^64.
use Rattle.std.proofs.Common.{◌≡◌, ℕ, ◌+◌, ◌-◌, ◌*◌, ◌/◌, ◌%◌, ◌^◌, ◌<◌, ◌≤◌, true, ◌≢◌, List, [], length, get_or, sym, ap, ◌∙◌, inl, inr, one-mul, arith, length-set, get_or-set_other, get_or-set_same}
use native.Mathlib.Nat.{zero-div}
use lib.Bits.{bit_xor, xor_add_and, xor_block, xor_zero_r}
use lib.Seq.{set_out}
use Rattle.std.proofs.lemmas.List.{get_or_past}
use Rattle.std.proofs.lemmas.Bool.{cases_lt, cases_eq, eq-eqb, ne_eqb}
use Rattle.std.proofs.lemmas.Nat.{and_mask, pow_pos, pow-add, shr-shr, shr_high, div-add-mod', mod_below, le-div}
use Rattle.model.specs.Device.{zeros}
use Rattle.model.specs.Run.{all_small}
use Rattle.pages.specs.Bits.{word_bit, word_flipped, bit, flipped, touched}
use Rattle.pages.proofs.Words.{all_small_set, all_small_get_or, get_or_zeros}

-- one word

pub word_bit_lt : (w k : ℕ) → word_bit w k < 2
unfolding word_bit
word_bit_lt w k = omega arith

-- a word is what lies from bit k on, and what lies below
abbrev high : ℕ → ℕ → ℕ
high w k = w / 2 ^ k

split : (w k : ℕ) → w ≡ high w k * 2 ^ k + w % 2 ^ k
split w k = sym (div-add-mod' w (2 ^ k))

low_lt : (w k : ℕ) → w % 2 ^ k < 2 ^ k
low_lt w k = mod_below w (2 ^ k) (pow_pos k)

-- what is added to the high part, or taken from it
high_plus : (w k c : ℕ) → (w + c * 2 ^ k) / 2 ^ k ≡ high w k + c
high_plus w k c =
    let e : w + c * 2 ^ k ≡ (high w k + c) * 2 ^ k + w % 2 ^ k = omega (arith, split w k) in
    rw e (shr_high (high w k + c) k (w % 2 ^ k) (low_lt w k))

high_minus : (w k c : ℕ) → c ≤ high w k → (w - c * 2 ^ k) / 2 ^ k ≡ high w k - c
high_minus w k c h =
    let rest : ℕ = high w k - c in
    let d : high w k ≡ rest + c = omega arith in
    let f : high w k * 2 ^ k ≡ (rest + c) * 2 ^ k = ap (λ x. x * 2 ^ k) d in
    let e : w - c * 2 ^ k ≡ rest * 2 ^ k + w % 2 ^ k = omega (arith, split w k) in
    rw e (shr_high rest k (w % 2 ^ k) (low_lt w k))

flipped_even : (w k : ℕ) → high w k % 2 ≡ 0 → word_flipped w k ≡ w + 1 * 2 ^ k
unfolding word_flipped word_bit
flipped_even w k h = rw (eq-eqb (high w k % 2) 0 h) (omega arith)

flipped_odd : (w k : ℕ) → (high w k % 2 ≡ 0 → ⊥) → word_flipped w k ≡ w - 1 * 2 ^ k
unfolding word_flipped word_bit
flipped_odd w k h = rw (ne_eqb (high w k % 2) 0 h) (omega arith)

pub word_bit_flipped : (w k : ℕ) → word_bit (word_flipped w k) k ≡ 1 - word_bit w k
unfolding word_bit
word_bit_flipped w k =
    elim (cases_eq (high w k % 2) 0) [
      | inl h ↦ rw (flipped_even w k h, high_plus w k 1) (omega arith)
      | inr h ↦ let some : 1 ≤ high w k = omega arith in rw (flipped_odd w k h, high_minus w k 1 some) (omega arith)
    ]

-- above the bit nothing changes
above_one : (w k : ℕ) → word_flipped w k / 2 ^ (k + 1) ≡ w / 2 ^ (k + 1)
above_one w k =
    rw
    (← (shr-shr (word_flipped w k) k 1), ← (shr-shr w k 1))
    (elim (cases_eq (high w k % 2) 0) [
      | inl h ↦ rw (flipped_even w k h, high_plus w k 1) (omega arith)
      | inr h ↦ let some : 1 ≤ high w k = omega arith in rw (flipped_odd w k h, high_minus w k 1 some) (omega arith)
    ])

above : (w k j : ℕ) → k < j → word_flipped w k / 2 ^ j ≡ w / 2 ^ j
above w k j h =
    let e : j ≡ k + 1 + (j - (k + 1)) = omega arith in
    let m : ℕ = j - (k + 1) in
    ap (λ i. word_flipped w k / 2 ^ i) e
    ∙ (sym (shr-shr (word_flipped w k) (k + 1) m) ∙ ap (λ x. x / 2 ^ m) (above_one w k) ∙ shr-shr w (k + 1) m)
    ∙ ap (λ i. w / 2 ^ i) (sym e)

-- below it an even number of units is added or taken
unit_in_units : (k j : ℕ) → j < k → (c : ℕ) × (1 * 2 ^ k ≡ (c + c) * 2 ^ j)
unit_in_units k j h =
    let m : ℕ = k - (j + 1) in
    let e : k ≡ m + 1 + j = omega arith in
    let f : 2 ^ (m + 1 + j) ≡ 2 ^ (m + 1) * 2 ^ j = pow-add 2 (m + 1) j in
    let g : 2 ^ (m + 1) ≡ 2 ^ m + 2 ^ m = pow-add 2 m 1 ∙ (omega arith) in
    (2 ^ m, one-mul (2 ^ k) ∙ ap (λ i. 2 ^ i) e ∙ f ∙ ap (λ x. x * 2 ^ j) g)

unit_le : (w k : ℕ) → 1 ≤ high w k → 1 * 2 ^ k ≤ w
unit_le w k h =
    let rest : ℕ = high w k - 1 in
    let d : high w k ≡ rest + 1 = omega arith in
    let f : high w k * 2 ^ k ≡ (rest + 1) * 2 ^ k = ap (λ x. x * 2 ^ k) d in
    omega (arith, split w k)

below : (w k j : ℕ) → j < k → high (word_flipped w k) j % 2 ≡ high w j % 2
below w k j h =
    let units = unit_in_units k j h in
    elim (cases_eq (high w k % 2) 0) [
      | inl e ↦ rw (flipped_even w k e, units.1, high_plus w j (units.0 + units.0)) (omega arith)
      | inr o ↦
          let some : 1 ≤ high w k = omega arith in
          let l : (units.0 + units.0) * 2 ^ j ≤ w = omega (arith, unit_le w k some, units.1) in
          let few : units.0 + units.0 ≤ high w j = le-div (units.0 + units.0) w (2 ^ j) (pow_pos j) l in
          rw (flipped_odd w k o, units.1, high_minus w j (units.0 + units.0) few) (omega arith)
    ]

pub word_bit_flipped_other : (w k j : ℕ) → j ≢ k → word_bit (word_flipped w k) j ≡ word_bit w j
unfolding word_bit
word_bit_flipped_other w k j n =
    elim (cases_lt j k) [
      | inl h ↦ below w k j h
      | inr h ↦ let l : k < j = omega arith in ap (λ x. x % 2) (above w k j l)
    ]

pub word_flipped_small : (w k : ℕ) → k < 64 → w < 2 ^ 64 → word_flipped w k < 2 ^ 64
word_flipped_small w k h l = omega (arith, above w k 64 h)

-- in machine words a flip is an exclusive or with the bit's unit
xor_one : (q : ℕ) → bit_xor q 1 + (q % 2) * 2 ≡ q + 1
xor_one q = ap (λ b. bit_xor q 1 + b * 2) (sym (and_mask q 1)) ∙ xor_add_and q 1

xor_unit : (w k : ℕ) → bit_xor w (2 ^ k) ≡ bit_xor (high w k) 1 * 2 ^ k + w % 2 ^ k
xor_unit w k =
    let unit : 2 ^ k ≡ 1 * 2 ^ k + 0 = omega arith in
    ap (λ v. bit_xor v (2 ^ k)) (split w k)
    ∙ ap (bit_xor (high w k * 2 ^ k + w % 2 ^ k)) unit
    ∙ xor_block k (high w k) 1 (w % 2 ^ k) 0 (low_lt w k) (pow_pos k)
    ∙ ap (λ r. bit_xor (high w k) 1 * 2 ^ k + r) (xor_zero_r (w % 2 ^ k))

pub xor_is_flipped : (w k : ℕ) → bit_xor w (2 ^ k) ≡ word_flipped w k
xor_is_flipped w k =
    elim (cases_eq (high w k % 2) 0) [
      | inl h ↦
          let e : bit_xor (high w k) 1 ≡ high w k + 1 = omega (arith, xor_one (high w k)) in
          xor_unit w k ∙ ap (λ q. q * 2 ^ k + w % 2 ^ k) e ∙ omega (arith, split w k) ∙ sym (flipped_even w k h)
      | inr h ↦
          let rest : ℕ = bit_xor (high w k) 1 in
          let e : high w k ≡ rest + 1 = omega (arith, xor_one (high w k)) in
          let f : high w k * 2 ^ k ≡ (rest + 1) * 2 ^ k = ap (λ q. q * 2 ^ k) e in
          let g : rest * 2 ^ k + w % 2 ^ k ≡ w - 1 * 2 ^ k = omega (arith, split w k) in
          xor_unit w k ∙ g ∙ sym (flipped_odd w k h)
    ]

-- bits of a row of words

pub bit_lt : (ws : List ℕ) (t : ℕ) → bit ws t < 2
unfolding bit
bit_lt ws t = word_bit_lt (get_or ws (t / 64) 0) (t % 64)

pub length_flipped : (ws : List ℕ) (t : ℕ) → length (flipped ws t) ≡ length ws
unfolding flipped
length_flipped ws t = length-set ws (t / 64) (word_flipped (get_or ws (t / 64) 0) (t % 64))

pub all_small_flipped : (ws : List ℕ) (t : ℕ) → all_small ws ≡ true → all_small (flipped ws t) ≡ true
unfolding flipped
all_small_flipped ws t h =
    all_small_set ws (t / 64) (word_flipped (get_or ws (t / 64) 0) (t % 64))
    (word_flipped_small (get_or ws (t / 64) 0) (t % 64) (omega arith) (all_small_get_or ws (t / 64) h)) h

-- past the end a flip does nothing, and bits are 0
pub flipped_past : (ws : List ℕ) (t : ℕ) → length ws ≤ t / 64 → flipped ws t ≡ ws
unfolding flipped
flipped_past ws t h = set_out ws (t / 64) (word_flipped (get_or ws (t / 64) 0) (t % 64)) h

word_bit_zero : (k : ℕ) → word_bit 0 k ≡ 0
unfolding word_bit
word_bit_zero k = let e : 0 / 2 ^ k ≡ 0 = zero-div (2 ^ k) in rw e

pub bit_past : (ws : List ℕ) (t : ℕ) → length ws ≤ t / 64 → bit ws t ≡ 0
unfolding bit
bit_past ws t h = rw (get_or_past ws (t / 64) 0 h) (word_bit_zero (t % 64))

pub bit_nil : (t : ℕ) → bit [] t ≡ 0
unfolding bit
bit_nil t = word_bit_zero (t % 64)

pub bit_zeros : (n t : ℕ) → bit (zeros n) t ≡ 0
unfolding bit
bit_zeros n t = rw (get_or_zeros n (t / 64)) (word_bit_zero (t % 64))

pub bit_flipped : (ws : List ℕ) (t : ℕ) → t / 64 < length ws → bit (flipped ws t) t ≡ 1 - bit ws t
unfolding bit flipped
bit_flipped ws t h =
    rw
    (get_or-set_same ws (t / 64) (word_flipped (get_or ws (t / 64) 0) (t % 64)) 0 h)
    (word_bit_flipped (get_or ws (t / 64) 0) (t % 64))

flipped_other_within : (ws : List ℕ) (t u : ℕ) → u ≢ t → t / 64 < length ws → bit (flipped ws t) u ≡ bit ws u
unfolding bit flipped
flipped_other_within ws t u n h =
    let w : ℕ = word_flipped (get_or ws (t / 64) 0) (t % 64) in
    elim (cases_eq (u / 64) (t / 64)) [
      | inl e ↦
          let o : u % 64 ≢ t % 64 = omega arith in
          rw (e, get_or-set_same ws (t / 64) w 0 h) (word_bit_flipped_other (get_or ws (t / 64) 0) (t % 64) (u % 64) o)
      | inr o ↦ ap (λ v. word_bit v (u % 64)) (get_or-set_other ws (t / 64) (u / 64) w 0 o)
    ]

pub bit_flipped_other : (ws : List ℕ) (t u : ℕ) → u ≢ t → bit (flipped ws t) u ≡ bit ws u
bit_flipped_other ws t u n =
    elim (cases_lt (t / 64) (length ws)) [ inl h ↦ flipped_other_within ws t u n h | inr h ↦ ap (λ l. bit l u) (flipped_past ws t h) ]

-- touched: turned where it still agrees with what counts

pub touched_same : (counting coming : List ℕ) (t : ℕ) → bit counting t ≡ bit coming t → touched counting coming t ≡ flipped coming t
unfolding touched
touched_same counting coming t e = rw (eq-eqb (bit counting t) (bit coming t) e)

pub touched_already : (counting coming : List ℕ) (t : ℕ) → (bit counting t ≡ bit coming t → ⊥) → touched counting coming t ≡ coming
unfolding touched
touched_already counting coming t n = rw (ne_eqb (bit counting t) (bit coming t) n)

pub length_touched : (counting coming : List ℕ) (t : ℕ) → length (touched counting coming t) ≡ length coming
length_touched counting coming t =
    elim (cases_eq (bit counting t) (bit coming t)) [
      | inl e ↦ rw (touched_same counting coming t e) (length_flipped coming t)
      | inr n ↦ rw (touched_already counting coming t n)
    ]

pub all_small_touched : (counting coming : List ℕ) (t : ℕ) → all_small coming ≡ true → all_small (touched counting coming t) ≡ true
all_small_touched counting coming t h =
    elim (cases_eq (bit counting t) (bit coming t)) [
      | inl e ↦ rw (touched_same counting coming t e) (all_small_flipped coming t h)
      | inr n ↦ rw (touched_already counting coming t n) h
    ]

pub bit_touched : (counting coming : List ℕ) (t : ℕ) → t / 64 < length coming → bit (touched counting coming t) t ≡ 1 - bit counting t
bit_touched counting coming t h =
    elim (cases_eq (bit counting t) (bit coming t)) [
      | inl e ↦ rw (touched_same counting coming t e, bit_flipped coming t h) (omega arith)
      | inr n ↦ rw (touched_already counting coming t n) (omega (arith, bit_lt counting t, bit_lt coming t))
    ]

pub bit_touched_differs : (counting coming : List ℕ) (t : ℕ) → t / 64 < length coming → bit counting t ≢ bit (touched counting coming t) t
bit_touched_differs counting coming t h e = omega (arith, bit_touched counting coming t h, bit_lt counting t)

pub bit_touched_other : (counting coming : List ℕ) (t u : ℕ) → u ≢ t → bit (touched counting coming t) u ≡ bit coming u
bit_touched_other counting coming t u n =
    elim (cases_eq (bit counting t) (bit coming t)) [
      | inl e ↦ rw (touched_same counting coming t e) (bit_flipped_other coming t u n)
      | inr o ↦ rw (touched_already counting coming t o)
    ]
