-- What the code reads and writes piece by piece, as the parts and patches of the definition.
use Rattle.std.proofs.Common.{Result, IsOk, OnOk, ◌↔◌, ◌≡◌, ℕ, zero, suc, ◌+◌, ◌-◌, ◌*◌, ◌≤◌, List, ◌∷◌, ◌++◌, length, take, drop, replicate, sym, refl, ap, ◌∙◌, append_assoc, arith, length-append, drop-drop, take_at, drop_at}
use borrow.Rule.Slice.PartMut.{put_mid}
use Rattle.std.specs.List.{copy_within}
use Rattle.model.specs.Device.{zeros}
use Rattle.pages.specs.Words.{part, patched, bytes_of}
use Rattle.pages.proofs.Words.{length_part, length_bytes_of, length_zeros, patched_is_put_mid}
use Rattle.mailboxes.proofs.Room.{ok_gives}

-- a lent part, and what is written to one
pub lent_part : (m : List ℕ) (a w n : ℕ) → w ≡ n → take (a + w - a) (drop a m) ≡ part m a n
lent_part m a w n e = ap (λ k. take k (drop a m)) (omega arith)

pub put_part : (m : List ℕ) (a w : ℕ) (ws : List ℕ) → length ws ≡ w → put_mid a (a + w - a) m ws ≡ patched m a ws
put_part m a w ws e = patched_is_put_mid m a (a + w) ws (omega arith)

-- the same of a range of places
pub lent_range : (m : List ℕ) (b e a n : ℕ) → b ≡ a → e ≡ a + n → take (e - b) (drop b m) ≡ part m a n
lent_range m b e a n s t = rw (s, t) (lent_part m a n n refl)

pub put_range : (m : List ℕ) (b e a n : ℕ) (ws : List ℕ) → b ≡ a → e ≡ a + n → length ws ≡ n → put_mid b (e - b) m ws ≡ patched m a ws
put_range m b e a n ws s t l = rw (s, t) (put_part m a n ws l)

-- a row with the bytes of lent words at its front
pub stored : {E : Type 0} (m out out₁ : List ℕ) (a n : ℕ) (r : Result (Unit {0}) E) (ws : List ℕ) → ws ≡ part m a n → a + n ≤ length m → 8 * n ≤ length out → IsOk r ↔ (8 * length ws ≤ length out) →
    OnOk r (out₁ ≡ bytes_of ws ++ drop (8 * length ws) out) → out₁ ≡ bytes_of (part m a n) ++ drop (length (bytes_of (part m a n))) out
stored m out out₁ a n r ws e h k f w =
    let long : length ws ≡ n = ap length e ∙ length_part m a n h in
    ok_gives r (f.1 (omega arith)) w
    ∙ ap (λ l. bytes_of ws ++ drop l out) (sym (length_bytes_of ws))
    ∙ ap (λ l. bytes_of l ++ drop (length (bytes_of l)) out) e

-- a page of which the second half is blank
pub half_page : (h out out₁ z : List ℕ) → length h ≡ 256 → 512 ≤ length out → out₁ ≡ h ++ drop (length h) out → z ≡ zeros 256 →
    put_mid 256 256 out₁ z ≡ (h ++ zeros 256) ++ drop (length (h ++ zeros 256)) out
half_page h out out₁ z l k e f =
    let long : length (h ++ zeros 256) ≡ 512 = length-append h (zeros 256) ∙ omega (arith, length_zeros 256) in
    let joined : 256 + length h ≡ 512 = omega arith in
    ap (λ o. put_mid 256 256 o z) e
    ∙ ap (put_mid 256 256 (h ++ drop (length h) out)) f
    ∙ ap (λ r. r ++ (zeros 256 ++ drop 256 (drop 256 (h ++ drop (length h) out)))) (take_at h (drop (length h) out) 256 l)
    ∙ ap (λ r. h ++ (zeros 256 ++ drop 256 r)) (drop_at h (drop (length h) out) 256 l)
    ∙ ap (λ r. h ++ (zeros 256 ++ r)) (drop-drop 256 (length h) out ∙ ap (λ n. drop n out) (omega (arith, long)))
    ∙ sym (append_assoc h (zeros 256) (drop (length (h ++ zeros 256)) out))

pub replicate_zeros : (n : ℕ) → replicate n 0 ≡ zeros n
unfolding zeros
replicate_zeros zero = refl
replicate_zeros (suc n) = ap (λ r. 0 ∷ r) (replicate_zeros n)

-- words copied from one place to another
pub copied : (m : List ℕ) (a at w n : ℕ) → w ≡ n → a + n ≤ length m → copy_within m a (a + w) at ≡ patched m at (part m a n)
copied m a at w n is h =
    let size : length (part m a n) ≡ n = length_part m a n h in
    append_assoc (take at m) (take (a + w - a) (drop a m)) (drop (at + (a + w - a)) m)
    ∙ ap (λ k. take at m ++ (take k (drop a m) ++ drop (at + k) m)) (omega arith)
    ∙ ap (λ r. take at m ++ (part m a n ++ r)) (sym (drop-drop (length (part m a n)) at m ∙ ap (λ k. drop k m) (omega (arith, size))))
