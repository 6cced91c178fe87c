-- Numbers of eight bytes, and bytes and lists with their count before them, as they are spelled and read.
use Rattle.std.proofs.Common.{◌≡◌, ℕ, zero, suc, ◌+◌, ◌*◌, ◌/◌, ◌%◌, ◌^◌, ◌<◌, Bool, true, ◌&&◌, ltb, leb, List, [], ◌∷◌, ◌++◌, length, take, drop, Some, sym, refl, ap, ◌∙◌, append_assoc, append-nil, mul_assoc, mul_comm, zero-add, arith}
use native.Mathlib.Nat.{pow-succ'}
use Rattle.std.proofs.lemmas.Bool.{and_parts, and_from, ltb-true, lt-ltb, leb-true, le-leb}
use Rattle.std.proofs.lemmas.List.{take-append-drop, length-take-le, take_at, drop_at, length-append}
use Rattle.model.specs.Mail.{every, flat, in_bytes, eight, with_length, all_bytes}
use Rattle.model.specs.House.{number_fits}
use Rattle.model.specs.Promise.{from_bytes}
use Rattle.commands.specs.Reader.{Reader, only, so_many, first, read_number, read_counted, listed}
use Rattle.commands.proofs.Readers.{ReadsSpelling, went_on, made_parts, only_parts, taken, so_many_was_spelled, so_many_is_read}

-- digits of a number, and the number of digits
pub digits_of_number : (ds : List ℕ) (j n : ℕ) (bs : List ℕ) → all_bytes ds ≡ true → in_bytes (length ds + j) (from_bytes n ds) bs ≡ in_bytes j n (ds ++ bs)
unfolding in_bytes from_bytes
digits_of_number [] j n bs t = rw (zero-add j)
digits_of_number (b ∷ ds) j n bs t =
    let ts = and_parts (ltb b 256) (all_bytes ds) t in
    let lt = ltb-true b 256 ts.0 in
    let l : suc (length ds) + j ≡ length ds + suc j = omega arith in
    let q : (256 * n + b) / 256 ≡ n = omega arith in
    let r : (256 * n + b) % 256 ≡ b = omega arith in
    rw (l, digits_of_number ds (suc j) (256 * n + b) bs ts.1, q, r)

pub number_of_digits : (k n : ℕ) (bs : List ℕ) → n < 256 ^ k → from_bytes 0 (in_bytes k n bs) ≡ from_bytes n bs
unfolding in_bytes from_bytes
number_of_digits zero n bs h = let z : n ≡ 0 = omega arith in rw z
number_of_digits (suc k) n bs h =
    let p : 256 ^ suc k ≡ 256 * 256 ^ k = pow-succ' 256 k in
    let q : n / 256 < 256 ^ k = omega arith in
    let e : 256 * (n / 256) + n % 256 ≡ n = omega arith in
    rw (number_of_digits k (n / 256) (n % 256 ∷ bs) q, e)

pub number_below : (ds : List ℕ) (n m : ℕ) → all_bytes ds ≡ true → n < m → from_bytes n ds < m * 256 ^ length ds
unfolding from_bytes
number_below [] n m t h = omega arith
number_below (b ∷ ds) n m t h =
    let ts = and_parts (ltb b 256) (all_bytes ds) t in
    let lt = ltb-true b 256 ts.0 in
    let e : m * 256 ^ suc (length ds) ≡ (256 * m) * 256 ^ length ds = rw (pow-succ' 256 (length ds), ← mul_assoc m 256 (256 ^ length ds), mul_comm m 256) in
    rw e (number_below ds (256 * n + b) (256 * m) ts.1 (omega arith))

pub bytes_of_number : (k n : ℕ) (bs : List ℕ) → all_bytes bs ≡ true → all_bytes (in_bytes k n bs) ≡ true
unfolding in_bytes
bytes_of_number zero n bs t = t
bytes_of_number (suc k) n bs t = bytes_of_number k (n / 256) (n % 256 ∷ bs) (and_from (ltb (n % 256) 256) (all_bytes bs) (lt-ltb (n % 256) 256 (omega arith)) t)

pub length_in_bytes : (k n : ℕ) (bs : List ℕ) → length (in_bytes k n bs) ≡ k + length bs
unfolding in_bytes
length_in_bytes zero n bs = omega arith
length_in_bytes (suc k) n bs = omega (arith, length_in_bytes k (n / 256) (n % 256 ∷ bs))

-- the same at eight bytes
pub eight_of_number : (ds : List ℕ) → length ds ≡ 8 → all_bytes ds ≡ true → eight (from_bytes 0 ds) ≡ ds
unfolding in_bytes
eight_of_number ds l t =
    let e : 8 ≡ length ds + 0 = omega arith in
    ap (λ k. in_bytes k (from_bytes 0 ds) []) e ∙ digits_of_number ds 0 0 [] t ∙ append-nil ds

pub number_of_eight : (n : ℕ) → number_fits n ≡ true → from_bytes 0 (eight n) ≡ n
unfolding from_bytes
number_of_eight n t = number_of_digits 8 n [] (ltb-true n 18446744073709551616 t)

pub number_of_eight_fits : (ds : List ℕ) → length ds ≡ 8 → all_bytes ds ≡ true → number_fits (from_bytes 0 ds) ≡ true
number_of_eight_fits ds l t =
    let h : from_bytes 0 ds < 1 * 256 ^ 8 = rw l at (number_below ds 0 1 t (omega arith)) in lt-ltb (from_bytes 0 ds) 18446744073709551616 h

-- so many bytes from the front
pub first_parts : (n : ℕ) (bs v rest : List ℕ) → first n bs ≡ Some (v, rest) → (v ++ rest ≡ bs) × (length v ≡ n)
unfolding first
first_parts n bs v rest e =
    let t = taken (leb n (length bs)) (take n bs, drop n bs) (v, rest) e in
    (ap (λ x. x.0 ++ x.1) (sym t.1) ∙ take-append-drop n bs, ap (λ x. length x.0) (sym t.1) ∙ length-take-le n bs (leb-true n (length bs) t.0))

pub first_is_read : (n : ℕ) (v rest : List ℕ) → length v ≡ n → first n (v ++ rest) ≡ Some (v, rest)
unfolding first
first_is_read n v rest h =
    let le : leb n (length (v ++ rest)) ≡ true = le-leb n (length (v ++ rest)) (omega (arith, length-append v rest)) in
    rw (le, take_at v rest n h, drop_at v rest n h)

pub number_reads : ReadsSpelling read_number eight number_fits
unfolding read_number
number_reads = record {
  was_spelled = λ bs v rest e.
      let m = made_parts (from_bytes 0) (only all_bytes (first 8)) bs v rest e in
      let o = only_parts all_bytes (first 8) bs m.0 rest m.1 in
      let f = first_parts 8 bs m.0 rest o.0 in (
        ap (λ x. eight x ++ rest) (sym m.2) ∙ ap (λ x. x ++ rest) (eight_of_number m.0 f.1 o.1) ∙ f.0,
        ap number_fits (sym m.2) ∙ number_of_eight_fits m.0 f.1 o.1,
      );
  is_read = λ v rest t.
      let l : length (eight v) ≡ 8 = length_in_bytes 8 v [] in
      let f : first 8 (eight v ++ rest) ≡ Some (eight v, rest) = first_is_read 8 (eight v) rest l in
      let a : all_bytes (eight v) ≡ true = bytes_of_number 8 v [] refl in
      rw (f, a, number_of_eight v t);
}

-- bytes with their count before them
pub counted_reads : ReadsSpelling read_counted with_length (λ bs. number_fits (length bs))
unfolding read_counted
counted_reads = record {
  was_spelled = λ bs v rest e.
      let w = went_on (read_number bs) first (v, rest) e in
      let n = number_reads.was_spelled bs w.0.0 w.0.1 w.1 in
      let f = first_parts w.0.0 w.0.1 v rest w.2 in (
        append_assoc (eight (length v)) v rest ∙ ap (λ x. eight x ++ (v ++ rest)) f.1 ∙ ap (λ x. eight w.0.0 ++ x) f.0 ∙ n.0,
        ap number_fits f.1 ∙ n.1,
      );
  is_read = λ v rest t.
      let n : read_number (with_length v ++ rest) ≡ Some (length v, v ++ rest) = rw append_assoc (number_reads.is_read (length v) (v ++ rest) t) in
      rw (n, first_is_read (length v) v rest refl);
}

-- a list with its count before it
pub listed_reads :
    {A : Type 0} {r : Reader A} {s : A → List ℕ} {g : A → Bool} → ReadsSpelling r s g → (most : ℕ) → most < 18446744073709551616 →
    ReadsSpelling (listed most r) (λ vs. eight (length vs) ++ flat s vs) (λ vs. leb (length vs) most && every g vs)
unfolding listed
listed_reads {r = r} {s = s} {g = g} reads most small = record {
  was_spelled = λ bs vs rest e.
      let w = went_on (only (λ n. leb n most) read_number bs) (so_many r) (vs, rest) e in
      let o = only_parts (λ n. leb n most) read_number bs w.0.0 w.0.1 w.1 in
      let n = number_reads.was_spelled bs w.0.0 w.0.1 o.0 in
      let m = so_many_was_spelled reads w.0.0 w.0.1 vs rest w.2 in (
        append_assoc (eight (length vs)) (flat s vs) rest ∙ ap (λ x. eight x ++ (flat s vs ++ rest)) m.2 ∙ ap (λ x. eight w.0.0 ++ x) m.0 ∙ n.0,
        and_from (leb (length vs) most) (every g vs) (ap (λ x. leb x most) m.2 ∙ o.1) m.1,
      );
  is_read = λ vs rest t.
      let ts = and_parts (leb (length vs) most) (every g vs) t in
      let le = leb-true (length vs) most ts.0 in
      let n : read_number ((eight (length vs) ++ flat s vs) ++ rest) ≡ Some (length vs, flat s vs ++ rest) =
      rw append_assoc (number_reads.is_read (length vs) (flat s vs ++ rest) (lt-ltb (length vs) 18446744073709551616 (omega arith))) in
      rw (n, ts.0, so_many_is_read reads vs rest ts.1);
}
