-- Laws of the first touched page: it is touched and none before it is, or none is; and how a search finds it.
use Rattle.std.proofs.Common.{◌≢◌, ◌≡◌, ℕ, zero, suc, ◌+◌, ◌-◌, ◌/◌, ◌<◌, ◌≤◌, List, length, Some, None, Option, sym, refl, ap, ◌∙◌, inl, inr, arith, MatchOption}
use Rattle.std.proofs.lemmas.Bool.{cases_eq, cases_lt, eq-eqb, ne_eqb}
use Rattle.pages.specs.Bits.{bit}
use Rattle.pages.specs.Touched.{Untouched, IsFirst, touched_among, first_touched}
use Rattle.pages.proofs.Bits.{bit_past}

among_same : (counting coming : List ℕ) (n t : ℕ) → bit counting t ≡ bit coming t → touched_among counting coming (suc n) t ≡ touched_among counting coming n (suc t)
unfolding touched_among
among_same counting coming n t e = rw (eq-eqb (bit counting t) (bit coming t) e)

among_other : (counting coming : List ℕ) (n t : ℕ) → (bit counting t ≡ bit coming t → ⊥) → touched_among counting coming (suc n) t ≡ Some t
unfolding touched_among
among_other counting coming n t o = rw (ne_eqb (bit counting t) (bit coming t) o)

-- what the answer says

among_untouched : (counting coming : List ℕ) (n t : ℕ) → Untouched counting coming t (t + n) → touched_among counting coming n t ≡ None
unfolding touched_among
among_untouched counting coming zero t h = refl
among_untouched counting coming (suc n) t h =
    among_same counting coming n t (h t (omega arith) (omega arith))
    ∙ among_untouched counting coming n (suc t) (λ u l k. h u (omega arith) (omega arith))

pub first_touched_untouched : (counting coming : List ℕ) (from end : ℕ) → Untouched counting coming from end → first_touched counting coming from end ≡ None
unfolding first_touched
first_touched_untouched counting coming from end h = among_untouched counting coming (end - from) from (λ u l k. h u l (omega arith))

-- past the words all bits are 0
pub same_past : (counting coming : List ℕ) (u : ℕ) → length counting ≤ u / 64 → length coming ≤ u / 64 → bit counting u ≡ bit coming u
same_past counting coming u h k = bit_past counting u h ∙ sym (bit_past coming u k)

among_first : (counting coming : List ℕ) (n s t : ℕ) → s ≤ t → t < s + n → (bit counting t ≡ bit coming t → ⊥) → Untouched counting coming s t →
    touched_among counting coming n s ≡ Some t
among_first counting coming zero s t l h o u = absurd (omega arith)
among_first counting coming (suc n) s t l h o u =
    elim (cases_eq s t) [
      | inl e ↦ rw e (among_other counting coming n t o)
      | inr d ↦
          among_same counting coming n s (u s (omega arith) (omega arith))
          ∙ among_first counting coming n (suc s) t (omega arith) (omega arith) o (λ v a b. u v (omega arith) b)
    ]

pub first_touched_first : (counting coming : List ℕ) (from end t : ℕ) → IsFirst counting coming from end t → first_touched counting coming from end ≡ Some t
unfolding first_touched
first_touched_first counting coming from end t h =
    let within : t < from + (end - from) = omega (arith, h.from_on, h.before_end) in
    among_first counting coming (end - from) from t h.from_on within h.differs h.none_before

-- one page of a walk: it is the first, or it is passed over
pub first_touched_found : (counting coming : List ℕ) (t end : ℕ) → t < end → (bit counting t ≡ bit coming t → ⊥) →
    first_touched counting coming t end ≡ Some t
first_touched_found counting coming t end h o =
    first_touched_first counting coming t end t (record { from_on = omega arith; before_end = h; differs = o; none_before = λ u l k. absurd (omega arith) })

pub first_touched_same : (counting coming : List ℕ) (t end : ℕ) → t < end → bit counting t ≡ bit coming t →
    first_touched counting coming t end ≡ first_touched counting coming (t + 1) end
unfolding first_touched
first_touched_same counting coming t end h e =
    let n : ℕ = end - (t + 1) in
    let l : end - t ≡ suc n = omega arith in
    let s : t + 1 ≡ suc t = omega arith in
    ap (λ k. touched_among counting coming k t) l ∙ among_same counting coming n t e ∙ ap (touched_among counting coming n) (sym s)

-- what a search up to `stop` finds, where no page from there on is touched
pub first_touched_by_search : (counting coming : List ℕ) (from end stop : ℕ) (r : Option ℕ) → stop ≤ end → Untouched counting coming stop end →
    MatchOption r (Untouched counting coming from stop)
    (λ t. (from ≤ t) × (t < stop) × (bit counting t ≢ bit coming t) × Untouched counting coming from t) →
    r ≡ first_touched counting coming from end
first_touched_by_search counting coming from end stop None l past h =
    sym (first_touched_untouched counting coming from end (λ u a b. elim (cases_lt u stop) [ inl k ↦ h u a k | inr k ↦ past u k b ]))
first_touched_by_search counting coming from end stop (Some t) l past h =
    sym (first_touched_first counting coming from end t (record { from_on = h.0; before_end = omega arith; differs = h.2; none_before = h.3 }))

abbrev Says : List ℕ → List ℕ → ℕ → ℕ → Option ℕ → Type 0
Says counting coming from end r = MatchOption r (Untouched counting coming from end) (IsFirst counting coming from end)

-- one page more in front, that is not touched
says_more : (counting coming : List ℕ) (t end : ℕ) (r : Option ℕ) → bit counting t ≡ bit coming t → Says counting coming (suc t) end r → Says counting coming t end r
says_more counting coming t end None e h =
    λ u l k. elim (cases_eq t u) [ inl same ↦ rw same at e | inr o ↦ h u (omega arith) k ]
says_more counting coming t end (Some x) e h =
    record {
      from_on = omega (arith, h.from_on);
      before_end = h.before_end;
      differs = h.differs;
      none_before = λ u l k. elim (cases_eq t u) [ inl same ↦ rw same at e | inr o ↦ h.none_before u (omega arith) k ];
    }

among_says : (counting coming : List ℕ) (n t end : ℕ) → end ≡ t + n → Says counting coming t end (touched_among counting coming n t)
unfolding touched_among
among_says counting coming zero t end e = λ u l k. absurd (omega arith)
among_says counting coming (suc n) t end e =
    elim (cases_eq (bit counting t) (bit coming t)) [
      | inl s ↦
          let last : end ≡ suc t + n = omega arith in
          rw (eq-eqb (bit counting t) (bit coming t) s) (says_more counting coming t end (touched_among counting coming n (suc t)) s (among_says counting coming n (suc t) end last))
      | inr o ↦
          rw
          (ne_eqb (bit counting t) (bit coming t) o)
          (record { from_on = omega arith; before_end = omega arith; differs = o; none_before = λ u l k. absurd (omega arith) })
    ]

pub first_touched_says : (counting coming : List ℕ) (from end : ℕ) →
    MatchOption (first_touched counting coming from end) (Untouched counting coming from end) (IsFirst counting coming from end)
unfolding first_touched
first_touched_says counting coming from end =
    elim (cases_lt from end) [
      | inl h ↦ within h
      | inr h ↦ rw (first_touched_untouched counting coming from end (λ u l k. absurd (omega arith))) (λ u l k. absurd (omega arith))
    ]
  where
    within : from < end → MatchOption (first_touched counting coming from end) (Untouched counting coming from end) (IsFirst counting coming from end)
    within h = among_says counting coming (end - from) from end (omega arith)
