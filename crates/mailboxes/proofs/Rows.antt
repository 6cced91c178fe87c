-- The name in a record, and the row of a box piece by piece.
use Rattle.std.proofs.Common.{inl, inr, ◌≡◌, ℕ, suc, ◌+◌, ◌-◌, ◌*◌, ◌/◌, ◌%◌, ◌<◌, ◌≤◌, min, true, false, ◌&&◌, leb, List, [], ◌∷◌, ◌++◌, length, get_or, take, drop, sym, ap, ap₂, ◌∙◌, append_assoc, append-nil, arith, length-append, length-take, length-drop}
use Rattle.std.proofs.lemmas.Bool.{cases_lt, lt-ltb, le-leb, lt-leb}
use Rattle.std.proofs.lemmas.List.{drop_all, take_min, get_or_append_left, get_or-append_right}
use Rattle.model.specs.Mail.{flat, eight, with_length}
use Rattle.model.specs.House.{box_row}
use borrow.Rule.Slice.PartMut.{put_mid}
use Rattle.pages.specs.Words.{bytes_of, part, patched}
use Rattle.pages.proofs.Words.{bytes_of_one, bytes_of_append, length_eight, length_bytes_of, length_part, get_d_part, patched_next, patched_is_put_mid}
use Rattle.mailboxes.specs.Directory.{name_at, box_place, box_of}
use Rattle.mailboxes.specs.Row.{row_at, row_fits}
use Rattle.mailboxes.proofs.Records.{length_row_at, box_row_of, row_taken}

byte_of_words : (ws : List ℕ) (k : ℕ) → k < 8 * length ws → get_or (bytes_of ws) k 0 ≡ get_or (eight (get_or ws (k / 8) 0)) (k % 8) 0
unfolding bytes_of
byte_of_words [] k l = absurd (omega arith)
byte_of_words (w ∷ ws) k l =
    elim (cases_lt k 8) [
      | inl s ↦
          let q : k / 8 ≡ 0 = omega arith in
          let r : k % 8 ≡ k = omega arith in
          get_or_append_left (eight w) (flat eight ws) 0 k (omega (arith, length_eight w)) ∙ rw (q, r)
      | inr s ↦
          let q : k / 8 ≡ suc ((k - 8) / 8) = omega arith in
          let r : k % 8 ≡ (k - 8) % 8 = omega arith in
          get_or-append_right (eight w) (flat eight ws) 8 k 0 (length_eight w) s ∙ byte_of_words ws (k - 8) (omega arith) ∙ rw (q, r)
    ]

module _ (dir : List ℕ) (at : ℕ) (fits : at + 9 ≤ length dir) where
  words_long : length (bytes_of (part dir (at + 1) 8)) ≡ 64
  words_long = omega (arith, length_bytes_of (part dir (at + 1) 8), length_part dir (at + 1) 8 (omega arith))

  pub name_length : length (name_at dir at) ≡ min 64 (get_or dir at 0 % 256)
  unfolding name_at
  name_length = omega (arith, length-take (get_or dir at 0 % 256) (bytes_of (part dir (at + 1) 8)), words_long)

-- the same of a record by itself
module _ (rec : List ℕ) (twelve : length rec ≡ 12) where
  pub bytes_long : length (bytes_of (part rec 1 8)) ≡ 64
  bytes_long = words_long rec 0 (omega (arith, twelve))

  pub name_byte : (k : ℕ) → k < 64 → get_or (bytes_of (part rec 1 8)) k 0 ≡ get_or (eight (get_or rec (1 + k / 8) 0)) (k % 8) 0
  name_byte k l =
      byte_of_words (part rec 1 8) k (omega (arith, twelve, length_part rec 1 8 (omega (arith, twelve))))
      ∙ ap (λ w. get_or (eight w) (k % 8) 0) (get_d_part rec 1 8 (k / 8) 0 (omega arith))

  pub record_name_length : length (name_at rec 0) ≡ min 64 (get_or rec 0 0 % 256)
  record_name_length = name_length rec 0 (omega (arith, twelve))

  pub name_front : (n : ℕ) → n ≡ length (name_at rec 0) → take n (bytes_of (part rec 1 8)) ≡ name_at rec 0
  unfolding name_at
  name_front n e =
      let most : n ≡ min (get_or rec 0 0 % 256) (length (bytes_of (part rec 1 8))) = omega (arith, e, length-take (get_or rec 0 0 % 256) (bytes_of (part rec 1 8))) in
      rw most (take_min (get_or rec 0 0 % 256) (bytes_of (part rec 1 8)))

next_patch : (xs vs : List ℕ) (at : ℕ) (ws : List ℕ) → length vs ≡ at → at ≤ length xs → patched (patched xs 0 vs) at ws ≡ patched xs 0 (vs ++ ws)
next_patch xs vs at ws e l = let z : at ≡ 0 + length vs = omega arith in ap (λ m. patched (patched xs 0 vs) m ws) z ∙ patched_next xs 0 vs ws (omega arith)

-- what is written to the front of all that lies from a place on
pub patched_from : (xs : List ℕ) (at : ℕ) (ws : List ℕ) → put_mid at (length xs - at) xs (patched (drop at xs) 0 ws) ≡ patched xs at ws
patched_from xs at ws =
    let none = drop_all (length xs - at) (drop at xs) (omega (arith, length-drop at xs)) in
    ap (λ r. take at xs ++ (ws ++ drop (length ws) (drop at xs) ++ r)) none ∙ ap (λ r. take at xs ++ r) (append-nil (ws ++ drop (length ws) (drop at xs)))

-- the pieces of a row, written one behind another
pub row_pieces : (out nm : List ℕ) (next count : ℕ) → 8 + length nm + 16 ≤ length out →
    patched (patched (patched out 0 (eight (length nm))) 8 nm) (8 + length nm) (eight next ++ eight count)
    ≡ (with_length nm ++ eight next ++ eight count) ++ drop (length (with_length nm ++ eight next ++ eight count)) out
row_pieces out nm next count room =
    let n = length nm in
    let head = length-append (eight n) nm in
    ap (λ r. patched r (8 + n) (eight next ++ eight count)) (next_patch out (eight n) 8 nm (length_eight n) (omega arith))
    ∙ next_patch out (with_length nm) (8 + n) (eight next ++ eight count) (omega (arith, head, length_eight n)) (omega arith)
    ∙ ap (patched out 0) (sym (append_assoc (with_length nm) (eight next) (eight count)))

-- words stored at the front of a row
stored_front : (out ws bs o : List ℕ) → bytes_of ws ≡ bs → o ≡ bytes_of ws ++ drop (8 * length ws) out → o ≡ patched out 0 bs
stored_front out ws bs o e h = h ∙ ap (λ n. bytes_of ws ++ drop n out) (sym (length_bytes_of ws)) ∙ ap (λ b. b ++ drop (length b) out) e

-- as the code writes them
pub row_written : (rec out first name last : List ℕ) (n : ℕ) → n ≡ length (name_at rec 0) → 8 + n + 16 ≤ length out →
    first ≡ bytes_of (n ∷ []) ++ drop 8 out → name ≡ name_at rec 0 →
    last ≡ bytes_of (get_or rec 9 0 ∷ 0 ∷ []) ++ drop 16 (drop (8 + n) (put_mid 8 (8 + n - 8) first name)) →
    put_mid (8 + n) (length (put_mid 8 (8 + n - 8) first name) - (8 + n)) (put_mid 8 (8 + n - 8) first name) last
    ≡ row_at rec 0 ++ drop (length (row_at rec 0)) out
row_written rec out first name last n e room f m l =
    let nm = name_at rec 0 in
    let w = get_or rec 9 0 in
    let middle = put_mid 8 (8 + n - 8) first name in
    let tail : last ≡ patched (drop (8 + n) middle) 0 (eight w ++ eight 0) =
    stored_front (drop (8 + n) middle) (w ∷ 0 ∷ []) (eight w ++ eight 0) last (bytes_of_append (w ∷ []) (0 ∷ []) ∙ ap₂ (λ a b. a ++ b) (bytes_of_one w) (bytes_of_one 0)) l in
    let start : middle ≡ patched (patched out 0 (eight n)) 8 nm =
    ap (λ r. put_mid 8 (8 + n - 8) r name) (stored_front out (n ∷ []) (eight n) first (bytes_of_one n) f)
    ∙ patched_is_put_mid (patched out 0 (eight n)) 8 (8 + n) name (omega (arith, ap length m))
    ∙ ap (patched (patched out 0 (eight n)) 8) m in
    ap (put_mid (8 + n) (length middle - (8 + n)) middle) tail
    ∙ patched_from middle (8 + n) (eight w ++ eight 0)
    ∙ ap (λ r. patched r (8 + n) (eight w ++ eight 0)) start
    ∙ ap (λ k. patched (patched (patched out 0 (eight k)) 8 nm) (8 + k) (eight w ++ eight 0)) e
    ∙ row_pieces out nm w 0 (omega arith)

pub row_room : (dir : List ℕ) (at : ℕ) (out : List ℕ) (n : ℕ) → n ≡ length (name_at dir at) → 8 + n + 16 ≤ length out → leb (length (row_at dir at)) (length out) ≡ true
row_room dir at out n e l = le-leb (length (row_at dir at)) (length out) (omega (arith, length_row_at dir at))

pub row_no_room : (dir : List ℕ) (at : ℕ) (out : List ℕ) (n : ℕ) → n ≡ length (name_at dir at) → length out < 8 + n + 16 → leb (length (row_at dir at)) (length out) ≡ false
row_no_room dir at out n e l = lt-leb (length (row_at dir at)) (length out) (omega (arith, length_row_at dir at))

-- the box whose record was taken out
module _ (boxes : ℕ) (dir : List ℕ) (i : ℕ) (rec : List ℕ) (taken : rec ≡ part dir (box_place i) 12) where
  pub row_of_box : row_at rec 0 ≡ box_row (box_of dir i)
  row_of_box = row_taken dir (box_place i) rec taken ∙ sym (box_row_of dir i)

  pub row_of_box_fits : (out : List ℕ) → i < boxes → leb (length (row_at rec 0)) (length out) ≡ row_fits boxes dir i out
  row_of_box_fits out l = ap (λ r. leb (length r) (length out)) row_of_box ∙ ap (λ t. t && leb (length (box_row (box_of dir i))) (length out)) (sym (lt-ltb i boxes l))
