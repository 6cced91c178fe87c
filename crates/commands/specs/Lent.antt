-- What the code's readers answer over lent bytes, as the definition's readers answer it over lists.
use Rattle.std.specs.Prelude.{◌≡◌, ℕ, zero, suc, leb, List, Some, None, Option}
use Rattle.std.specs.Option.{option_map, option_and_then}
use Rattle.std.specs.Borrow.{Bor}
use Rattle.commands.specs.Reader.{only, read_number}

-- a value and the lent bytes that follow it
abbrev pub and_rest : {A : Type 0} → Option (A × Bor (List ℕ)) → Option (A × List ℕ)
and_rest None = None
and_rest (Some p) = Some (p.0, p.1.now)

-- lent bytes and the lent bytes that follow them
abbrev pub lent_and_rest : Option (Bor (List ℕ) × Bor (List ℕ)) → Option (List ℕ × List ℕ)
lent_and_rest None = None
lent_and_rest (Some p) = Some (p.0.now, p.1.now)

-- a number and lent bytes, and the lent bytes that follow them
abbrev pub both_and_rest : Option ((ℕ × Bor (List ℕ)) × Bor (List ℕ)) → Option ((ℕ × List ℕ) × List ℕ)
both_and_rest None = None
both_and_rest (Some p) = Some ((p.0.0, p.0.1.now), p.1.now)

-- what is left after what was read
abbrev pub left_after : {A : Type 0} → Option (A × List ℕ) → Option (List ℕ)
left_after None = None
left_after (Some p) = Some p.1

-- what is left after so many of something, by what is left after one
unfoldable pub after_many : (List ℕ → Option (List ℕ)) → ℕ → List ℕ → Option (List ℕ)
after_many one zero bs = Some bs
after_many one (suc n) bs = option_and_then (after_many one n) (one bs)

-- what is left after as many of something as were counted
abbrev pub after_counted : (List ℕ → Option (List ℕ)) → Option (ℕ × List ℕ) → Option (List ℕ)
after_counted one None = None
after_counted one (Some p) = after_many one p.0 p.1

-- a call at lent bytes answers what the function answers at their list
abbrev pub IsAfter : (Bor (List ℕ) → Option (Bor (List ℕ)) → Type 0) → (List ℕ → Option (List ℕ)) → Type 0
IsAfter post one = (p : Bor (List ℕ)) (o : Option (Bor (List ℕ))) → post p o → option_map (λ x. x.now) o ≡ one p.now

-- whatever one of them leaves, they are left so many times, at most so many, with their count before them
abbrev pub AfterList : (Bor (List ℕ) → Option (Bor (List ℕ)) → Type 0) → ℕ → List ℕ → Option (Bor (List ℕ)) → Type 0
AfterList post most bs r =
    (one : List ℕ → Option (List ℕ)) → IsAfter post one → option_map (λ x. x.now) r ≡ after_counted one (only (λ n. leb n most) read_number bs)
