-- Laws of words in rows of bytes: how long, how large, there and back; and of parts and patches of long lists of words.
use Rattle.std.proofs.Common.{replicate, w64, ◌≡◌, ℕ, zero, suc, ◌+◌, ◌-◌, ◌*◌, ◌/◌, ◌%◌, ◌^◌, ◌<◌, ◌≤◌, Bool, true, eqb, ltb, List, [], ◌∷◌, ◌++◌, length, get_or, take, drop, set, sym, refl, ap, ◌∙◌, append_assoc, append-nil, suc-add, zero-add, add-one, arith, length-append, length-drop, take-append-drop, length-take, length-take-le, get_or-drop, take_all, get_or-take, take-take, drop-drop, take-add, drop_at}
use native.Mathlib.Nat.{sub-zero, zero-sub, suc-sub-suc}
use lib.Seq.{take-append-le, drop-append-le, take-append_seam, set_split}
use borrow.Rule.Slice.PartMut.{put_mid}
use Rattle.std.proofs.lemmas.List.{nil_from_length, drop_all, drop_more, drop-take, get_or_append_left}
use Rattle.std.proofs.lemmas.Slice.{between_is, drop-put_mid, take-put_mid, take-put_mid_below}
use Rattle.std.proofs.lemmas.Bool.{ltb-true, lt-ltb, eq-eqb, and_parts, and_from}
use Rattle.std.specs.Int.{from_be_bytes}
use Rattle.std.specs.Simd.{first_chunks}
use Rattle.model.specs.Mail.{every, flat, in_bytes, eight, all_bytes}
use Rattle.model.specs.Device.{zeros, a_page}
use Rattle.model.specs.Promise.{from_bytes}
use Rattle.model.specs.Run.{all_small}
use Rattle.model.proofs.Places.{every_append}
use Rattle.pages.specs.Words.{words_in, bytes_of, part, patched}

-- a test that holds of each element

pub every_take : {A : Type 0} (p : A → Bool) (n : ℕ) (xs : List A) → every p xs ≡ true → every p (take n xs) ≡ true
every_take p zero xs h = refl
every_take p (suc n) [] h = refl
every_take p (suc n) (x ∷ xs) h =
    and_from (p x) (every p (take n xs)) (and_parts (p x) (every p xs) h).0 (every_take p n xs (and_parts (p x) (every p xs) h).1)

pub every_drop : {A : Type 0} (p : A → Bool) (n : ℕ) (xs : List A) → every p xs ≡ true → every p (drop n xs) ≡ true
every_drop p zero xs h = h
every_drop p (suc n) [] h = refl
every_drop p (suc n) (x ∷ xs) h = every_drop p n xs (and_parts (p x) (every p xs) h).1

pub every_set : {A : Type 0} (p : A → Bool) (xs : List A) (i : ℕ) (y : A) → p y ≡ true → every p xs ≡ true → every p (set xs i y) ≡ true
every_set p [] i y e h = refl
every_set p (x ∷ xs) zero y e h = and_from (p y) (every p xs) e (and_parts (p x) (every p xs) h).1
every_set p (x ∷ xs) (suc i) y e h =
    and_from (p x) (every p (set xs i y)) (and_parts (p x) (every p xs) h).0 (every_set p xs i y e (and_parts (p x) (every p xs) h).1)

pub every_get_or : {A : Type 0} (p : A → Bool) (xs : List A) (i : ℕ) (d : A) → p d ≡ true → every p xs ≡ true → p (get_or xs i d) ≡ true
every_get_or p [] i d e h = e
every_get_or p (x ∷ xs) zero d e h = (and_parts (p x) (every p xs) h).0
every_get_or p (x ∷ xs) (suc i) d e h = every_get_or p xs i d e (and_parts (p x) (every p xs) h).1

-- numbers below 2^64

pub all_small_append : (xs ys : List ℕ) → all_small xs ≡ true → all_small ys ≡ true → all_small (xs ++ ys) ≡ true
unfolding all_small
all_small_append xs ys h k = every_append (λ m. ltb m 18446744073709551616) xs ys h k

pub all_small_take : (n : ℕ) (xs : List ℕ) → all_small xs ≡ true → all_small (take n xs) ≡ true
unfolding all_small
all_small_take n xs h = every_take (λ m. ltb m 18446744073709551616) n xs h

pub all_small_drop : (n : ℕ) (xs : List ℕ) → all_small xs ≡ true → all_small (drop n xs) ≡ true
unfolding all_small
all_small_drop n xs h = every_drop (λ m. ltb m 18446744073709551616) n xs h

pub all_small_set : (xs : List ℕ) (i y : ℕ) → y < 2 ^ 64 → all_small xs ≡ true → all_small (set xs i y) ≡ true
unfolding all_small
all_small_set xs i y l h = every_set (λ m. ltb m 18446744073709551616) xs i y (lt-ltb y 18446744073709551616 l) h

pub all_small_get_or : (xs : List ℕ) (i : ℕ) → all_small xs ≡ true → get_or xs i 0 < 2 ^ 64
unfolding all_small
all_small_get_or xs i h = ltb-true (get_or xs i 0) 18446744073709551616 (every_get_or (λ m. ltb m 18446744073709551616) xs i 0 refl h)

pub all_small_cons : (x : ℕ) (xs : List ℕ) → x < 2 ^ 64 → all_small xs ≡ true → all_small (x ∷ xs) ≡ true
unfolding all_small
all_small_cons x xs l h = and_from (ltb x 18446744073709551616) (every (λ m. ltb m 18446744073709551616) xs) (lt-ltb x 18446744073709551616 l) h

pub all_small_parts : (x : ℕ) (xs : List ℕ) → all_small (x ∷ xs) ≡ true → (x < 2 ^ 64) × (all_small xs ≡ true)
unfolding all_small
all_small_parts x xs h =
    let both = and_parts (ltb x 18446744073709551616) (every (λ m. ltb m 18446744073709551616) xs) h in (ltb-true x 18446744073709551616 both.0, both.1)

pub all_small_zeros : (n : ℕ) → all_small (zeros n) ≡ true
unfolding all_small zeros
all_small_zeros zero = refl
all_small_zeros (suc n) = all_small_zeros n

pub all_small_nil : all_small [] ≡ true
unfolding all_small
all_small_nil = refl

-- one word

pub length_eight : (w : ℕ) → length (eight w) ≡ 8
unfolding in_bytes
length_eight w = refl

-- the number of the bytes of a word is the word
pub word_of_eight : (w : ℕ) → w < 2 ^ 64 → from_bytes 0 (eight w) ≡ w
unfolding in_bytes from_bytes
word_of_eight w h = omega arith

in_bytes_bytes : (k n : ℕ) (bs : List ℕ) → all_bytes bs ≡ true → all_bytes (in_bytes k n bs) ≡ true
unfolding in_bytes
in_bytes_bytes zero n bs h = h
in_bytes_bytes (suc k) n bs h = in_bytes_bytes k (n / 256) (n % 256 ∷ bs) (and_from (ltb (n % 256) 256) (all_bytes bs) (lt-ltb (n % 256) 256 (omega arith)) h)

-- the bytes by their weights, and the word by them
pub eight_is : (w : ℕ) →
    eight w
    ≡ w / 72057594037927936 % 256
    ∷ w / 281474976710656 % 256
    ∷ w / 1099511627776 % 256
    ∷ w / 4294967296 % 256
    ∷ w / 16777216 % 256
    ∷ w / 65536 % 256
    ∷ w / 256 % 256
    ∷ w % 256
    ∷ []
unfolding in_bytes
eight_is w =
    let e₂ : w / 256 / 256 ≡ w / 65536 = omega arith in
    let e₃ : w / 65536 / 256 ≡ w / 16777216 = omega arith in
    let e₄ : w / 16777216 / 256 ≡ w / 4294967296 = omega arith in
    let e₅ : w / 4294967296 / 256 ≡ w / 1099511627776 = omega arith in
    let e₆ : w / 1099511627776 / 256 ≡ w / 281474976710656 = omega arith in
    let e₇ : w / 281474976710656 / 256 ≡ w / 72057594037927936 = omega arith in
    rw (e₂, e₃, e₄, e₅, e₆, e₇)

next_at : (k at next : ℕ) (bs : List ℕ) → at < length bs → at + 1 ≡ next → take (suc k) (drop at bs) ≡ get_or bs at 0 ∷ take k (drop next bs)
next_at k at next bs h e = rw (← e, drop_more bs at 0 h)

first_eight : (bs : List ℕ) → 8 ≤ length bs →
    take 8 bs
    ≡ get_or bs 0 0
    ∷ get_or bs 1 0
    ∷ get_or bs 2 0
    ∷ get_or bs 3 0
    ∷ get_or bs 4 0
    ∷ get_or bs 5 0
    ∷ get_or bs 6 0
    ∷ get_or bs 7 0
    ∷ []
first_eight bs h =
    rw (
      next_at 7 0 1 bs (omega arith) refl,
      next_at 6 1 2 bs (omega arith) refl,
      next_at 5 2 3 bs (omega arith) refl,
      next_at 4 3 4 bs (omega arith) refl,
      next_at 3 4 5 bs (omega arith) refl,
      next_at 2 5 6 bs (omega arith) refl,
      next_at 1 6 7 bs (omega arith) refl,
      next_at 0 7 8 bs (omega arith) refl,
    )

-- the word of eight bytes by their weights is the number that they spell
pub word_of_bytes : (bs : List ℕ) → 8 ≤ length bs → from_be_bytes w64 bs ≡ from_bytes 0 (take 8 bs)
unfolding from_bytes
word_of_bytes bs h = rw (first_eight bs h) (omega arith)

-- the bytes from 8 * i on, eight by eight
pub chunk_at : (k i : ℕ) (bs d : List ℕ) → i < k → get_or (first_chunks 8 k bs) i d ≡ take 8 (drop (8 * i) bs)
chunk_at zero i bs d h = absurd (omega arith)
chunk_at (suc k) zero bs d h = refl
chunk_at (suc k) (suc i) bs d h =
    let next : 8 + 8 * i ≡ 8 * suc i = omega arith in
    chunk_at k i (drop 8 bs) d (omega arith) ∙ ap (take 8) (drop-drop (8 * i) 8 bs ∙ ap (λ n. drop n bs) next)

-- the word of such bytes
pub word_of_chunk : (k i : ℕ) (bs d : List ℕ) → i < k → 8 * k ≤ length bs →
    from_be_bytes w64 (get_or (first_chunks 8 k bs) i d) ≡ from_bytes 0 (take 8 (drop (8 * i) bs))
word_of_chunk k i bs d h l =
    let long : 8 ≤ length (drop (8 * i) bs) = omega (arith, length-drop (8 * i) bs) in
    rw
    (chunk_at k i bs d h)
    (word_of_bytes (take 8 (drop (8 * i) bs)) (omega (arith, length-take-le 8 (drop (8 * i) bs) long)) ∙ ap (from_bytes 0) (take-take 8 8 (drop (8 * i) bs) (omega arith)))

pub all_bytes_eight : (w : ℕ) → all_bytes (eight w) ≡ true
all_bytes_eight w = in_bytes_bytes 8 w [] refl

-- eight bytes are the bytes of their number
last_byte : (k q b : ℕ) (bs : List ℕ) → b < 256 → in_bytes (suc k) (256 * q + b) bs ≡ in_bytes k q (b ∷ bs)
unfolding in_bytes
last_byte k q b bs h =
    let high : (256 * q + b) / 256 ≡ q = omega arith in let low : (256 * q + b) % 256 ≡ b = omega arith in rw (high, low)

-- digits are taken off one by one, the last first
digits : (bs : List ℕ) (k n : ℕ) (cs : List ℕ) → all_bytes bs ≡ true → in_bytes (length bs + k) (from_bytes n bs) cs ≡ in_bytes k n (bs ++ cs)
unfolding from_bytes
digits [] k n cs h = rw zero-add
digits (b ∷ bs) k n cs h =
    let both = and_parts (ltb b 256) (all_bytes bs) h in
    let e : suc (length bs) + k ≡ length bs + suc k = omega arith in
    rw e (digits bs (suc k) (256 * n + b) cs both.1 ∙ last_byte k n b (bs ++ cs) (ltb-true b 256 both.0))

pub eight_of_word : (bs : List ℕ) → length bs ≡ 8 → all_bytes bs ≡ true → eight (from_bytes 0 bs) ≡ bs
unfolding in_bytes
eight_of_word bs e h =
    let long : length bs + 0 ≡ 8 = omega arith in
    ap (λ k. in_bytes k (from_bytes 0 bs) []) (sym long) ∙ digits bs 0 0 [] h ∙ append-nil bs

-- a number of so many bytes is below that power of 256
scaled : ℕ → ℕ → ℕ
scaled zero m = m
scaled (suc k) m = scaled k (256 * m)

scaled_le : (k n m : ℕ) → n ≤ m → n ≤ scaled k m
unfolding scaled
scaled_le zero n m h = h
scaled_le (suc k) n m h = scaled_le k n (256 * m) (omega arith)

below_scaled : (k : ℕ) (bs : List ℕ) (n m : ℕ) → length bs ≤ k → all_bytes bs ≡ true → n < m → from_bytes n bs < scaled k m
unfolding scaled from_bytes
below_scaled k [] n m l h lt = scaled_le k (suc n) m lt
below_scaled zero (b ∷ bs) n m l h lt = absurd (omega arith)
below_scaled (suc k) (b ∷ bs) n m l h lt =
    let both = and_parts (ltb b 256) (all_bytes bs) h in
    below_scaled k bs (256 * n + b) (256 * m) (omega arith) both.1 (omega (arith, ltb-true b 256 both.0))

pub word_small : (bs : List ℕ) → length bs ≤ 8 → all_bytes bs ≡ true → from_bytes 0 bs < 2 ^ 64
unfolding scaled
word_small bs l h = below_scaled 8 bs 0 1 l h (omega arith)

-- rows of words

pub length_bytes_of : (ws : List ℕ) → length (bytes_of ws) ≡ 8 * length ws
unfolding bytes_of in_bytes
length_bytes_of [] = refl
length_bytes_of (w ∷ ws) = omega (arith, length_bytes_of ws)

pub bytes_of_one : (w : ℕ) → bytes_of (w ∷ []) ≡ eight w
unfolding bytes_of
bytes_of_one w = append-nil (eight w)

pub bytes_of_append : (xs ys : List ℕ) → bytes_of (xs ++ ys) ≡ bytes_of xs ++ bytes_of ys
unfolding bytes_of
bytes_of_append [] ys = refl
bytes_of_append (x ∷ xs) ys = ap (λ r. eight x ++ r) (bytes_of_append xs ys) ∙ sym (append_assoc (eight x) (flat eight xs) (flat eight ys))

pub all_bytes_of : (ws : List ℕ) → every (λ b. ltb b 256) (bytes_of ws) ≡ true
unfolding bytes_of
all_bytes_of [] = refl
all_bytes_of (w ∷ ws) = every_append (λ b. ltb b 256) (eight w) (flat eight ws) (all_bytes_eight w) (all_bytes_of ws)

pub page_of_words : (ws : List ℕ) → length ws ≡ 64 → a_page (bytes_of ws) ≡ true
page_of_words ws e =
    and_from (eqb (length (bytes_of ws)) 512) (every (λ b. ltb b 256) (bytes_of ws)) (eq-eqb (length (bytes_of ws)) 512 (omega (arith, length_bytes_of ws))) (all_bytes_of ws)

pub length_words_in : (n : ℕ) (bs : List ℕ) → length (words_in n bs) ≡ n
unfolding words_in
length_words_in zero bs = refl
length_words_in (suc n) bs = ap suc (length_words_in n (drop 8 bs))

-- words come back from their bytes
pub words_in_bytes_of : (ws rest : List ℕ) → all_small ws ≡ true → words_in (length ws) (bytes_of ws ++ rest) ≡ ws
unfolding words_in bytes_of in_bytes
words_in_bytes_of [] rest h = refl
words_in_bytes_of (w ∷ ws) rest h =
    let both = all_small_parts w ws h in
    ap (λ x. x ∷ words_in (length ws) (bytes_of ws ++ rest)) (word_of_eight w both.0) ∙ ap (λ r. w ∷ r) (words_in_bytes_of ws rest both.1)

pub words_in_bytes : (ws : List ℕ) → all_small ws ≡ true → words_in (length ws) (bytes_of ws) ≡ ws
words_in_bytes ws h = ap (words_in (length ws)) (sym (append-nil (bytes_of ws))) ∙ words_in_bytes_of ws [] h

-- only the first bytes count
pub words_in_append : (n : ℕ) (bs rest : List ℕ) → 8 * n ≤ length bs → words_in n (bs ++ rest) ≡ words_in n bs
unfolding words_in
words_in_append zero bs rest h = refl
words_in_append (suc n) bs rest h =
    let l : 8 ≤ length bs = omega arith in
    rw
    (take-append-le 8 bs rest l, drop-append-le 8 bs rest l)
    (ap (λ r. from_bytes 0 (take 8 bs) ∷ r) (words_in_append n (drop 8 bs) rest (omega (arith, length-drop 8 bs))))

pub words_in_take : (n m : ℕ) (bs : List ℕ) → 8 * n ≤ m → words_in n (take m bs) ≡ words_in n bs
unfolding words_in
words_in_take zero m bs h = refl
words_in_take (suc n) m bs h =
    let l : 8 ≤ m = omega arith in
    rw
    (take-take 8 m bs l, ← (between_is bs 8 m))
    (ap (λ r. from_bytes 0 (take 8 bs) ∷ r) (words_in_take n (m - 8) (drop 8 bs) (omega arith)))

-- words that lie further on
pub words_in_more : (m n : ℕ) (bs : List ℕ) → words_in (m + n) bs ≡ words_in m bs ++ words_in n (drop (8 * m) bs)
unfolding words_in
words_in_more zero n bs = rw zero-add
words_in_more (suc m) n bs =
    let e : suc m + n ≡ suc (m + n) = omega arith in
    let f : 8 * suc m ≡ 8 + 8 * m = omega arith in
    rw (e, f, ← (drop-drop (8 * m) 8 bs)) (ap (λ r. from_bytes 0 (take 8 bs) ∷ r) (words_in_more m n (drop 8 bs)))

pub bytes_of_words_in : (n : ℕ) (bs : List ℕ) → length bs ≡ 8 * n → all_bytes bs ≡ true → bytes_of (words_in n bs) ≡ bs
unfolding words_in bytes_of
bytes_of_words_in zero bs e h = sym (nil_from_length bs e)
bytes_of_words_in (suc n) bs e h =
    ap (λ r. r ++ bytes_of (words_in n (drop 8 bs))) (eight_of_word (take 8 bs) (omega (arith, length-take 8 bs)) (every_take (λ b. ltb b 256) 8 bs h))
    ∙ ap (λ r. take 8 bs ++ r) (bytes_of_words_in n (drop 8 bs) (omega (arith, length-drop 8 bs)) (every_drop (λ b. ltb b 256) 8 bs h))
    ∙ take-append-drop 8 bs

pub all_small_words_in : (n : ℕ) (bs : List ℕ) → all_bytes bs ≡ true → all_small (words_in n bs) ≡ true
unfolding words_in
all_small_words_in zero bs h = all_small_nil
all_small_words_in (suc n) bs h =
    all_small_cons
    (from_bytes 0 (take 8 bs))
    (words_in n (drop 8 bs))
    (word_small (take 8 bs) (omega (arith, length-take 8 bs)) (every_take (λ b. ltb b 256) 8 bs h))
    (all_small_words_in n (drop 8 bs) (every_drop (λ b. ltb b 256) 8 bs h))

-- one word more, at the end
pub words_in_push : (n : ℕ) (bs : List ℕ) → words_in (n + 1) bs ≡ words_in n bs ++ from_bytes 0 (take 8 (drop (8 * n) bs)) ∷ []
unfolding words_in
words_in_push n bs = words_in_more n 1 bs

pub bytes_of_push : (ws : List ℕ) (w : ℕ) → bytes_of (ws ++ w ∷ []) ≡ bytes_of ws ++ eight w
unfolding bytes_of
bytes_of_push ws w = bytes_of_append ws (w ∷ []) ∙ ap (λ r. bytes_of ws ++ r) (append-nil (eight w))

-- zeros

pub length_zeros : (n : ℕ) → length (zeros n) ≡ n
unfolding zeros
length_zeros zero = refl
length_zeros (suc n) = ap suc (length_zeros n)

pub zeros_are : (n : ℕ) → zeros n ≡ replicate n 0
unfolding zeros
zeros_are zero = refl
zeros_are (suc n) = ap (λ r. 0 ∷ r) (zeros_are n)

pub get_or_zeros : (n i : ℕ) → get_or (zeros n) i 0 ≡ 0
unfolding zeros
get_or_zeros zero i = refl
get_or_zeros (suc n) zero = refl
get_or_zeros (suc n) (suc i) = get_or_zeros n i

pub zeros_append : (m n : ℕ) → zeros m ++ zeros n ≡ zeros (m + n)
unfolding zeros
zeros_append zero n = ap zeros (sym (zero-add n))
zeros_append (suc m) n = ap (λ r. 0 ∷ r) (zeros_append m n) ∙ ap zeros (sym (suc-add m n))

pub take_zeros : (m n : ℕ) → m ≤ n → take m (zeros n) ≡ zeros m
unfolding zeros
take_zeros zero n h = refl
take_zeros (suc m) zero h = absurd (omega arith)
take_zeros (suc m) (suc n) h = ap (λ r. 0 ∷ r) (take_zeros m n (omega arith))

pub drop_zeros : (m n : ℕ) → drop m (zeros n) ≡ zeros (n - m)
unfolding zeros
drop_zeros zero n = ap zeros (sym (sub-zero n))
drop_zeros (suc m) zero = ap zeros (sym (zero-sub (suc m)))
drop_zeros (suc m) (suc n) = drop_zeros m n ∙ ap zeros (sym (suc-sub-suc n m))

eight_zero : eight 0 ≡ zeros 8
unfolding in_bytes zeros
eight_zero = refl

pub bytes_of_zeros : (n : ℕ) → bytes_of (zeros n) ≡ zeros (8 * n)
unfolding bytes_of zeros in_bytes
bytes_of_zeros zero = refl
bytes_of_zeros (suc n) =
    let e : 8 * suc n ≡ 8 + 8 * n = omega arith in
    ap (λ r. eight 0 ++ r) (bytes_of_zeros n) ∙ zeros_append 8 (8 * n) ∙ ap zeros (sym e)

pub words_in_zeros : (n : ℕ) → words_in n (zeros (8 * n)) ≡ zeros n
words_in_zeros n =
    ap (words_in n) (sym (bytes_of_zeros n)) ∙ ap (λ k. words_in k (bytes_of (zeros n))) (sym (length_zeros n)) ∙ words_in_bytes (zeros n) (all_small_zeros n)

-- parts and patches

pub length_part : (xs : List ℕ) (at n : ℕ) → at + n ≤ length xs → length (part xs at n) ≡ n
length_part xs at n h = rw (length-take, length-drop) (omega arith)

pub all_small_part : (xs : List ℕ) (at n : ℕ) → all_small xs ≡ true → all_small (part xs at n) ≡ true
all_small_part xs at n h = all_small_take n (drop at xs) (all_small_drop at xs h)

pub get_d_part : (xs : List ℕ) (at n i d : ℕ) → i < n → get_or (part xs at n) i d ≡ get_or xs (at + i) d
get_d_part xs at n i d h = get_or-take n (drop at xs) i d h ∙ get_or-drop at xs i d

pub part_of_part : (xs : List ℕ) (a n b k : ℕ) → b + k ≤ n → part (part xs a n) b k ≡ part xs (a + b) k
part_of_part xs a n b k h =
    let l : k ≤ n - b = omega arith in
    ap (take k) (sym (between_is (drop a xs) b n)) ∙ take-take k (n - b) (drop b (drop a xs)) l ∙ ap (take k) (drop-drop b a xs)

-- two parts side by side are one
pub part_more : (xs : List ℕ) (at m n : ℕ) → part xs at (m + n) ≡ part xs at m ++ part xs (at + m) n
part_more xs at m n = take-add m n (drop at xs) ∙ ap (λ r. take m (drop at xs) ++ take n r) (drop-drop m at xs)

pub part_all : (xs : List ℕ) (n : ℕ) → length xs ≡ n → part xs 0 n ≡ xs
part_all xs n e = take_all n xs (omega arith)

-- what the checker shows after a write to a lent part
pub patched_is_put_mid : (xs : List ℕ) (a e : ℕ) (ws : List ℕ) → length ws ≡ e - a → put_mid a (e - a) xs ws ≡ patched xs a ws
patched_is_put_mid xs a e ws h = rw (← h)

pub length_patched : (xs : List ℕ) (at : ℕ) (ws : List ℕ) → at + length ws ≤ length xs → length (patched xs at ws) ≡ length xs
length_patched xs at ws h = simp (length-append, length-take, length-drop) (omega arith)

pub all_small_patched : (xs : List ℕ) (at : ℕ) (ws : List ℕ) → all_small xs ≡ true → all_small ws ≡ true → all_small (patched xs at ws) ≡ true
all_small_patched xs at ws h k =
    all_small_append
    (take at xs)
    (ws ++ drop (length ws) (drop at xs))
    (all_small_take at xs h)
    (all_small_append ws (drop (length ws) (drop at xs)) k (all_small_drop (length ws) (drop at xs) (all_small_drop at xs h)))

pub drop_patched : (xs : List ℕ) (at : ℕ) (ws : List ℕ) → at ≤ length xs → drop at (patched xs at ws) ≡ ws ++ drop (length ws) (drop at xs)
drop_patched xs at ws h = drop_at (take at xs) (ws ++ drop (length ws) (drop at xs)) at (length-take-le at xs h)

pub drop_patched_after : (xs : List ℕ) (at : ℕ) (ws : List ℕ) (b : ℕ) → at ≤ length xs → at + length ws ≤ b → drop b (patched xs at ws) ≡ drop b xs
drop_patched_after xs at ws b h k = drop-put_mid at (length ws) xs ws b k h refl

pub take_patched_before : (xs : List ℕ) (at : ℕ) (ws : List ℕ) (n : ℕ) → at ≤ length xs → n ≤ at → take n (patched xs at ws) ≡ take n xs
take_patched_before xs at ws n h k = take-put_mid_below at (length ws) xs ws n k h

-- the part that was written, and the parts that were not
pub part_patched : (xs : List ℕ) (at : ℕ) (ws : List ℕ) → at ≤ length xs → part (patched xs at ws) at (length ws) ≡ ws
part_patched xs at ws h = rw (drop_patched xs at ws h) (take-append_seam ws (drop (length ws) (drop at xs)))

pub part_patched_before : (xs : List ℕ) (at : ℕ) (ws : List ℕ) (b n : ℕ) → at ≤ length xs → b + n ≤ at → part (patched xs at ws) b n ≡ part xs b n
part_patched_before xs at ws b n h k =
    sym (drop-take b n (patched xs at ws)) ∙ ap (drop b) (take_patched_before xs at ws (b + n) h k) ∙ drop-take b n xs

pub part_patched_after : (xs : List ℕ) (at : ℕ) (ws : List ℕ) (b n : ℕ) → at ≤ length xs → at + length ws ≤ b → part (patched xs at ws) b n ≡ part xs b n
part_patched_after xs at ws b n h k = ap (take n) (drop_patched_after xs at ws b h k)

-- one element
pub get_or_patched : (xs : List ℕ) (at : ℕ) (ws : List ℕ) (i d : ℕ) → at ≤ length xs → i < length ws → get_or (patched xs at ws) (at + i) d ≡ get_or ws i d
get_or_patched xs at ws i d h k =
    sym (get_or-drop at (patched xs at ws) i d) ∙ ap (λ l. get_or l i d) (drop_patched xs at ws h) ∙ get_or_append_left ws (drop (length ws) (drop at xs)) d i k

pub get_or_patched_before : (xs : List ℕ) (at : ℕ) (ws : List ℕ) (i d : ℕ) → at ≤ length xs → i < at → get_or (patched xs at ws) i d ≡ get_or xs i d
get_or_patched_before xs at ws i d h k =
    sym (get_or-take at (patched xs at ws) i d k) ∙ ap (λ l. get_or l i d) (take_patched_before xs at ws at h (omega arith)) ∙ get_or-take at xs i d k

pub get_or_patched_after : (xs : List ℕ) (at : ℕ) (ws : List ℕ) (i d : ℕ) → at ≤ length xs → at + length ws ≤ i → get_or (patched xs at ws) i d ≡ get_or xs i d
get_or_patched_after xs at ws i d h k =
    let e : i ≡ i + 0 = omega arith in
    rw e (sym (get_or-drop i (patched xs at ws) 0 d) ∙ ap (λ l. get_or l 0 d) (drop_patched_after xs at ws i h k) ∙ get_or-drop i xs 0 d)

-- a patch inside a part
take_front : (ws : List ℕ) (n : ℕ) (xs : List ℕ) → length ws ≤ n → length ws ≤ length xs →
    take n (ws ++ drop (length ws) xs) ≡ ws ++ drop (length ws) (take n xs)
take_front [] n xs h k = refl
take_front (w ∷ ws) zero xs h k = absurd (omega arith)
take_front (w ∷ ws) (suc n) [] h k = absurd (omega arith)
take_front (w ∷ ws) (suc n) (x ∷ xs) h k = ap (λ r. w ∷ r) (take_front ws n xs (omega arith) (omega arith))

pub take_patched : (xs : List ℕ) (at : ℕ) (ws : List ℕ) (n : ℕ) → at + length ws ≤ n → at + length ws ≤ length xs → take n (patched xs at ws) ≡ patched (take n xs) at ws
take_patched xs zero ws n h k = take_front ws n xs (omega arith) (omega arith)
take_patched [] (suc at) ws n h k = absurd (omega arith)
take_patched (x ∷ xs) (suc at) ws zero h k = absurd (omega arith)
take_patched (x ∷ xs) (suc at) ws (suc n) h k = ap (λ r. x ∷ r) (take_patched xs at ws n (omega arith) (omega arith))

pub drop_patched_inside : (xs : List ℕ) (a b : ℕ) (ws : List ℕ) → a + b ≤ length xs → drop a (patched xs (a + b) ws) ≡ patched (drop a xs) b ws
drop_patched_inside xs a b ws h =
    drop-append-le a (take (a + b) xs) (ws ++ drop (length ws) (drop (a + b) xs)) (omega (arith, length-take (a + b) xs))
    ∙ ap (λ r. r ++ (ws ++ drop (length ws) (drop (a + b) xs))) (drop-take a b xs)
    ∙ ap (λ r. take b (drop a xs) ++ (ws ++ drop (length ws) r)) (sym (drop-drop b a xs))

pub part_patched_inside : (xs : List ℕ) (a b n : ℕ) (ws : List ℕ) → b + length ws ≤ n → a + n ≤ length xs →
    part (patched xs (a + b) ws) a n ≡ patched (part xs a n) b ws
part_patched_inside xs a b n ws h k =
    ap (take n) (drop_patched_inside xs a b ws (omega arith)) ∙ take_patched (drop a xs) b ws n h (omega (arith, length-drop a xs))

-- a patch next to a part
pub part_patched_next : (xs : List ℕ) (a n : ℕ) (ws : List ℕ) → a + n + length ws ≤ length xs →
    part (patched xs (a + n) ws) a (n + length ws) ≡ part xs a n ++ ws
part_patched_next xs a n ws h =
    part_more (patched xs (a + n) ws) a n (length ws)
    ∙ ap (λ r. r ++ part (patched xs (a + n) ws) (a + n) (length ws)) (part_patched_before xs (a + n) ws a n (omega arith) (omega arith))
    ∙ ap (λ r. part xs a n ++ r) (part_patched xs (a + n) ws (omega arith))

-- one word is a patch
pub set_is_patched : (xs : List ℕ) (i w : ℕ) → i < length xs → set xs i w ≡ patched xs i (w ∷ [])
set_is_patched xs i w h = set_split xs i w h ∙ ap (λ r. take i xs ++ w ∷ r) (ap (λ k. drop k xs) (sym (add-one i)) ∙ sym (drop-drop 1 i xs))

-- what is written twice over counts once
pub patched_patched : (xs : List ℕ) (at : ℕ) (vs ws : List ℕ) → at ≤ length xs → length vs ≡ length ws →
    patched (patched xs at vs) at ws ≡ patched xs at ws
patched_patched xs at vs ws h e =
    ap
    (λ r. r ++ (ws ++ drop (length ws) (drop at (patched xs at vs))))
    (take_patched_before xs at vs at h (omega arith))
    ∙ ap
    (λ r. take at xs ++ (ws ++ r))
    (drop-drop (length ws) at (patched xs at vs) ∙ drop_patched_after xs at vs (at + length ws) h (omega arith) ∙ sym (drop-drop (length ws) at xs))

-- two patches side by side are one
pub patched_next : (xs : List ℕ) (at : ℕ) (vs ws : List ℕ) → at + length vs ≤ length xs →
    patched (patched xs at vs) (at + length vs) ws ≡ patched xs at (vs ++ ws)
patched_next xs at vs ws h =
    ap
    (λ r. r ++ (ws ++ drop (length ws) (drop (at + length vs) (patched xs at vs))))
    (take-put_mid at (length vs) xs vs (at + length vs) refl (omega arith))
    ∙ ap
    (λ r. (take at xs ++ vs) ++ (ws ++ r))
    (ap (drop (length ws)) (drop_patched_after xs at vs (at + length vs) (omega arith) (omega arith) ∙ sym (drop-drop (length vs) at xs))
    ∙ drop-drop (length ws) (length vs) (drop at xs) ∙ ap (λ k. drop k (drop at xs)) (sym (length-append vs ws)))
    ∙ append_assoc (take at xs) vs (ws ++ drop (length (vs ++ ws)) (drop at xs))
    ∙ ap (λ r. take at xs ++ r) (sym (append_assoc vs ws (drop (length (vs ++ ws)) (drop at xs))))

pub patched_all : (xs ws : List ℕ) → length ws ≡ length xs → patched xs 0 ws ≡ ws
patched_all xs ws e = ap (λ r. ws ++ r) (drop_all (length ws) xs (omega arith)) ∙ append-nil ws

pub patched_none : (xs : List ℕ) (at : ℕ) → patched xs at [] ≡ xs
patched_none xs at = take-append-drop at xs
