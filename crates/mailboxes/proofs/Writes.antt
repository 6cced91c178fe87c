-- Words written one behind another are one patch.
use Rattle.std.proofs.Common.{◌≡◌, ℕ, ◌+◌, ◌-◌, ◌<◌, List, [], ◌∷◌, ◌++◌, length, get_or, take, set, sym, ap, ◌∙◌, arith}
use Rattle.std.proofs.lemmas.List.{take_more, length-take-le}
use borrow.Rule.Slice.PartMut.{put_mid}
use Rattle.pages.specs.Words.{patched}
use Rattle.pages.proofs.Words.{length_patched, set_is_patched, patched_next, patched_is_put_mid}

pub set_next : (xs : List ℕ) (at : ℕ) (vs : List ℕ) (i w : ℕ) → at + length vs ≡ i → i < length xs → set (patched xs at vs) i w ≡ patched xs at (vs ++ w ∷ [])
set_next xs at vs i w e l =
    set_is_patched (patched xs at vs) i w (omega (arith, length_patched xs at vs (omega arith)))
    ∙ ap (λ m. patched (patched xs at vs) m (w ∷ [])) (sym e)
    ∙ patched_next xs at vs (w ∷ []) (omega arith)

pub patched_more : (xs : List ℕ) (at : ℕ) (ws : List ℕ) (i : ℕ) → i < length ws → at + i < length xs → set (patched xs at (take i ws)) (at + i) (get_or ws i 0) ≡ patched xs at (take (i + 1) ws)
patched_more xs at ws i l m =
    set_next xs at (take i ws) (at + i) (get_or ws i 0) (ap (λ n. at + n) (length-take-le i ws (omega arith))) m ∙ ap (patched xs at) (sym (take_more ws i 0 l))

-- a record lent to be written is a patch of all the words
pub record_put : (words : List ℕ) (at : ℕ) (out ws : List ℕ) → out ≡ ws → length ws ≡ 12 → put_mid at (at + 12 - at) words out ≡ patched words at ws
record_put words at out ws e l = ap (put_mid at (at + 12 - at) words) e ∙ patched_is_put_mid words at (at + 12) ws (omega arith)
