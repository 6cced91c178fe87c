-- A name that is kept in a record comes back from it, and no two names are kept alike.
use Rattle.std.proofs.Common.{inl, inr, w64, take_all, ◌≡◌, ℕ, zero, suc, ◌+◌, ◌-◌, ◌*◌, ◌%◌, ◌<◌, ◌≤◌, Bool, true, false, ◌&&◌, eqb, ltb, leb, List, [], ◌∷◌, ◌++◌, length, get_or, take, drop, sym, refl, ap, ◌∙◌, arith, length-append, length-take, length-drop}
use lib.Pointwise.{pointwise}
use Rattle.std.proofs.lemmas.Bool.{cases_lt, and_parts, leb-true, eqb-true, eq-eqb, ne_eqb}
use Rattle.std.proofs.lemmas.List.{take_at, get_or-take, get_or-drop, get_or_append_left, get_or-append_right, get_or_past, ext_get_or, drop-take, drop-drop}
use Rattle.std.specs.Int.{from_be_bytes}
use Rattle.model.specs.Mail.{same, all_bytes}
use Rattle.model.specs.House.{a_name}
use Rattle.model.specs.Device.{zeros}
use Rattle.model.specs.Promise.{from_bytes}
use Rattle.pages.specs.Words.{words_in, bytes_of, part}
use Rattle.mailboxes.specs.Directory.{name_words, name_record, owner_at, name_at, named}
use Rattle.pages.proofs.Words.{word_of_bytes, bytes_of_words_in, length_zeros, get_or_zeros}
use Rattle.model.proofs.Boxes.{same_true, same_refl}
use Rattle.model.proofs.Places.{every_append}

-- equal tests
both_true : (a b : Bool) → (a ≡ true → b ≡ true) → (b ≡ true → a ≡ true) → a ≡ b
both_true true b f g = sym (f refl)
both_true false true f g = g refl
both_true false false f g = refl

pub same_pointwise : (xs ys : List ℕ) → pointwise eqb xs ys ≡ same xs ys
unfolding same
same_pointwise [] [] = refl
same_pointwise [] (y ∷ ys) = refl
same_pointwise (x ∷ xs) [] = refl
same_pointwise (x ∷ xs) (y ∷ ys) = ap (λ t. eqb x y && t) (same_pointwise xs ys)

-- rows whose first words differ are not the same
pub first_differs : (xs ys : List ℕ) → (get_or xs 0 0 ≡ get_or ys 0 0 → ⊥) → same xs ys ≡ false
unfolding same
first_differs [] [] d = absurd (d refl)
first_differs [] (y ∷ ys) d = refl
first_differs (x ∷ xs) [] d = refl
first_differs (x ∷ xs) (y ∷ ys) d = rw (ne_eqb x y d)

pub all_bytes_zeros : (n : ℕ) → all_bytes (zeros n) ≡ true
unfolding zeros
all_bytes_zeros zero = refl
all_bytes_zeros (suc n) = all_bytes_zeros n

-- what is known of a name
pub name_some : (nm : List ℕ) → a_name nm ≡ true → 1 ≤ length nm
name_some nm h = leb-true 1 (length nm) (and_parts (leb 1 (length nm)) (leb (length nm) 64) (and_parts (leb 1 (length nm) && leb (length nm) 64) (all_bytes nm) h).0).0

pub name_short : (nm : List ℕ) → a_name nm ≡ true → length nm ≤ 64
name_short nm h = leb-true (length nm) 64 (and_parts (leb 1 (length nm)) (leb (length nm) 64) (and_parts (leb 1 (length nm) && leb (length nm) 64) (all_bytes nm) h).0).1

pub name_bytes : (nm : List ℕ) → a_name nm ≡ true → all_bytes nm ≡ true
name_bytes nm h = (and_parts (leb 1 (length nm) && leb (length nm) 64) (all_bytes nm) h).1

-- a name's word is that of its eight bytes, 0 behind its end
get_or_words_in : (n i : ℕ) (bs : List ℕ) → i < n → get_or (words_in n bs) i 0 ≡ from_bytes 0 (take 8 (drop (8 * i) bs))
unfolding words_in
get_or_words_in zero i bs l = absurd (omega arith)
get_or_words_in (suc n) zero bs l = refl
get_or_words_in (suc n) (suc i) bs l =
    let e : 8 + 8 * i ≡ 8 * suc i = omega arith in
    get_or_words_in n i (drop 8 bs) (omega arith) ∙ ap (λ r. from_bytes 0 (take 8 r)) (drop-drop (8 * i) 8 bs ∙ ap (λ m. drop m bs) e)

padded : (nm : List ℕ) (m k : ℕ) → get_or (nm ++ zeros m) k 0 ≡ get_or nm k 0
padded nm m k =
    elim (cases_lt k (length nm)) [
      | inl l ↦ get_or_append_left nm (zeros m) 0 k l
      | inr l ↦ get_or-append_right nm (zeros m) (length nm) k 0 refl l ∙ get_or_zeros m (k - length nm) ∙ sym (get_or_past nm k 0 l)
    ]

module _ (nm : List ℕ) (i : ℕ) (few : i < 8) (bs : List ℕ) (long : length bs ≡ 8) (each : (k : ℕ) → k < 8 → get_or bs k 0 ≡ get_or nm (8 * i + k) 0) where
  padded_bytes : bs ≡ take 8 (drop (8 * i) (nm ++ zeros (64 - length nm)))
  padded_bytes =
      let all = nm ++ zeros (64 - length nm) in
      ext_get_or 0 bs (take 8 (drop (8 * i) all))
      (omega (arith, long, length-take 8 (drop (8 * i) all), length-drop (8 * i) all, length-append nm (zeros (64 - length nm)), length_zeros (64 - length nm)))
      (λ k l. let few_bytes : k < 8 = omega (arith, long) in
      each k few_bytes ∙ sym (padded nm (64 - length nm) (8 * i + k)) ∙ sym (get_or-drop (8 * i) all k 0) ∙ sym (get_or-take 8 (drop (8 * i) all) k 0 few_bytes))

  pub word_of_name : from_be_bytes w64 bs ≡ get_or (name_words nm) i 0
  unfolding name_words
  word_of_name =
      word_of_bytes bs (omega (arith, long))
      ∙ ap (from_bytes 0) (take_all 8 bs (omega (arith, long)) ∙ padded_bytes)
      ∙ sym (get_or_words_in 8 i (nm ++ zeros (64 - length nm)) few)

pub name_words_bytes : (nm : List ℕ) → length nm ≤ 64 → all_bytes nm ≡ true → bytes_of (name_words nm) ≡ nm ++ zeros (64 - length nm)
unfolding name_words
name_words_bytes nm l b =
    let n : length (nm ++ zeros (64 - length nm)) ≡ 8 * 8 = omega (arith, length-append nm (zeros (64 - length nm)), length_zeros (64 - length nm)) in
    bytes_of_words_in 8 (nm ++ zeros (64 - length nm)) n (every_append (λ b. ltb b 256) nm (zeros (64 - length nm)) b (all_bytes_zeros (64 - length nm)))

pub name_back : (nm : List ℕ) → length nm ≤ 64 → all_bytes nm ≡ true → take (length nm) (bytes_of (name_words nm)) ≡ nm
name_back nm l b = rw (name_words_bytes nm l b) (take_at nm (zeros (64 - length nm)) (length nm) refl)

-- a record that begins with a name
pub word_of_record : (dir : List ℕ) (at o : ℕ) (nm : List ℕ) → part dir at 9 ≡ name_record o nm → get_or dir at 0 ≡ 256 * o + length nm
word_of_record dir at o nm e =
    let z : at + 0 ≡ at = omega arith in
    ap (λ i. get_or dir i 0) (sym z) ∙ sym (get_or-drop at dir 0 0) ∙ sym (get_or-take 9 (drop at dir) 0 0 (omega arith)) ∙ ap (λ r. get_or r 0 0) e

pub words_of_record : (dir : List ℕ) (at o : ℕ) (nm : List ℕ) → part dir at 9 ≡ name_record o nm → part dir (at + 1) 8 ≡ name_words nm
words_of_record dir at o nm e = ap (take 8) (sym (drop-drop 1 at dir)) ∙ sym (drop-take 1 8 (drop at dir)) ∙ ap (drop 1) e

module _ (dir : List ℕ) (at o : ℕ) (nm : List ℕ) (short : length nm ≤ 64) (bytes : all_bytes nm ≡ true) (kept : part dir at 9 ≡ name_record o nm) where
  pub owner_kept : owner_at dir at ≡ o
  unfolding owner_at
  owner_kept = omega (arith, word_of_record dir at o nm kept)

  length_kept : get_or dir at 0 % 256 ≡ length nm
  length_kept = omega (arith, word_of_record dir at o nm kept)

  pub name_kept : name_at dir at ≡ nm
  unfolding name_at
  name_kept = rw (length_kept, words_of_record dir at o nm kept) (name_back nm short bytes)

  pub named_kept : (nm' : List ℕ) → length nm' ≤ 64 → all_bytes nm' ≡ true → named dir at nm' ≡ same nm nm'
  unfolding named
  named_kept nm' short' bytes' =
      rw (length_kept, words_of_record dir at o nm kept) (both_true
      (eqb (length nm) (length nm') && same (name_words nm) (name_words nm'))
      (same nm nm')
      (λ t. let both = and_parts (eqb (length nm) (length nm')) (same (name_words nm) (name_words nm')) t in
      let l : length nm ≡ length nm' = eqb-true (length nm) (length nm') both.0 in
      let w : name_words nm ≡ name_words nm' = same_true (name_words nm) (name_words nm') both.1 in
      let a = name_back nm short bytes in
      let b = name_back nm' short' bytes' in
      let e : nm ≡ nm' = cc in
      rw e (same_refl nm'))
      (λ t. rw (same_true nm nm' t, eq-eqb (length nm') (length nm') refl) (same_refl (name_words nm'))))
