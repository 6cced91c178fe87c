-- The pages of a record that changes are touched: what that makes of the memory, and which bits then agree.
use Rattle.std.proofs.Common.{◌≡◌, ℕ, ◌+◌, ◌/◌, ◌<◌, true, ◌≢◌, List, length, ◌∙◌, subst, arith}
use Rattle.model.specs.Run.{all_small}
use Rattle.pages.specs.Words.{patched}
use Rattle.pages.specs.Bits.{bit, touched}
use Rattle.pages.proofs.Words.{patched_all}
use Rattle.pages.proofs.Bits.{bit_touched_differs, bit_touched_other, length_touched, all_small_touched}
use Rattle.house.specs.declared.phase.Phase.{Phase}
use Rattle.house.specs.Machine.{touch_record}
use Rattle.house.proofs.Regions.{Mem, length_coming, small_coming, to_coming}

-- the bits after a record at a place is touched
abbrev pub record_touched : List ℕ → List ℕ → ℕ → List ℕ
record_touched counting coming at = touched counting (touched counting coming (at / 64)) ((at + 11) / 64)

pub length_record_touched : (counting coming : List ℕ) (at : ℕ) → length (record_touched counting coming at) ≡ length coming
length_record_touched counting coming at = length_touched counting (touched counting coming (at / 64)) ((at + 11) / 64) ∙ length_touched counting coming (at / 64)

pub small_record_touched : (counting coming : List ℕ) (at : ℕ) → all_small coming ≡ true → all_small (record_touched counting coming at) ≡ true
small_record_touched counting coming at s =
    all_small_touched counting (touched counting coming (at / 64)) ((at + 11) / 64) (all_small_touched counting coming (at / 64) s)

-- other pages' bits stay
pub bit_record_other : (counting coming : List ℕ) (at u : ℕ) → u ≢ at / 64 → u ≢ (at + 11) / 64 → bit (record_touched counting coming at) u ≡ bit coming u
bit_record_other counting coming at u a b =
    bit_touched_other counting (touched counting coming (at / 64)) ((at + 11) / 64) u b ∙ bit_touched_other counting coming (at / 64) u a

-- a page whose bits agree after a touch is another page, and they agreed before
agree_before : (counting coming : List ℕ) (t u : ℕ) → t / 64 < length coming → bit counting u ≡ bit (touched counting coming t) u → (u ≢ t) × (bit counting u ≡ bit coming u)
agree_before counting coming t u l e =
    let k : u ≢ t = λ q. bit_touched_differs counting coming t l (subst (λ x. bit counting x ≡ bit (touched counting coming t) x) q e) in
    (k, e ∙ bit_touched_other counting coming t u k)

pub agree_record : (counting coming : List ℕ) (at u : ℕ) → at / 64 / 64 < length coming → (at + 11) / 64 / 64 < length coming → bit counting u ≡ bit (record_touched counting coming at) u →
    (u ≢ at / 64) × (u ≢ (at + 11) / 64) × (bit counting u ≡ bit coming u)
agree_record counting coming at u a b e =
    let y = agree_before counting (touched counting coming (at / 64)) ((at + 11) / 64) u (omega (arith, length_touched counting coming (at / 64))) e in
    let x = agree_before counting coming (at / 64) u a y.1 in
    (x.0, y.0, x.1)

-- the memory after
pub touch_mem : (P : ℕ) (phase : Phase) (regs header counting coming dir m : List ℕ) → Mem P phase regs header counting coming dir m → (at : ℕ) →
    Mem P phase regs header counting (record_touched counting coming at) dir (touch_record P at m)
unfolding touch_record
touch_mem P phase regs header counting coming dir m M at =
    let ws = record_touched counting coming at in
    let l : length ws ≡ length coming = length_record_touched counting coming at in
    let r = to_coming P phase regs header counting coming dir m M 0 ws (omega (arith, length_coming P phase regs header counting coming dir m M))
    (small_record_touched counting coming at (small_coming P phase regs header counting coming dir m M)) in
    rw (M.counting_in, M.coming_in) (subst (λ cs. Mem P phase regs header counting cs dir (patched m 1184 ws)) (patched_all coming ws l) r)
