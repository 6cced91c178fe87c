-- When a field is not looked for, and what is answered then and otherwise.
use Rattle.std.proofs.Common.{◌≡◌, ℕ, ◌<◌, ◌≤◌, Bool, true, false, ◌&&◌, ltb, leb, ◌⊎◌, List, [], ◌∷◌, ◌++◌, length, drop, refl, ap, inl, inr, arith, le-ltb, lt-ltb, le-leb, leb-true}
use Rattle.std.proofs.Common as std
use borrow.Author.Tests.{lt-leb}
use Rattle.std.proofs.lemmas.Bool.{cases_Bool, and_right}
use Rattle.model.specs.Mail.{pick, field}
use Rattle.header.specs.declared.Reply.TheVariants.{Value, None, Refused}
use Rattle.header.specs.declared.Refusal.{Refusal}
use Rattle.header.specs.declared.Refusal.TheVariants.{LetterTooLong, NameLength, RowTooShort}
use Rattle.header.specs.Entry.{reply, FieldSays, refusal, first_length, FirstValueWritten, NotLookedFor}
use Rattle.header.specs.Refusals.{number}

never : (a b : Bool) → ◌≡◌ {A = ℕ} (pick a (pick b 3 2) 1) 0 → ⊥
never true true e = omega arith
never true false e = omega arith
never false b e = omega arith

reply_none : (vs : List (List ℕ)) → std.None ≡ first_length vs → None ≡ reply vs
unfolding reply
reply_none [] e = refl
reply_none (v ∷ vs) e = absurd cc

reply_value : (n : ℕ) (vs : List (List ℕ)) → std.Some n ≡ first_length vs → Value n ≡ reply vs
unfolding reply
reply_value n [] e = absurd cc
reply_value n (v ∷ vs) e = ap Value cc

module _ (letter name out : List ℕ) where
  pub refusal_letter : 65535 < length letter → refusal letter name out ≡ 1
  unfolding refusal
  refusal_letter l = rw (le-ltb (length letter) 65536 (omega arith))

  pub refusal_name : length letter ≤ 65535 → (length name ≡ 0) ⊎ (64 < length name) → refusal letter name out ≡ 2
  unfolding refusal
  refusal_name l (inl e) = rw (lt-ltb (length letter) 65536 (omega arith), lt-leb 1 (length name) (omega arith))
  refusal_name l (inr e) = rw (lt-ltb (length letter) 65536 (omega arith), and_right (leb 1 (length name)) (leb (length name) 64) (lt-leb (length name) 64 e))

  pub refusal_row : length letter ≤ 65535 → 1 ≤ length name → length name ≤ 64 → length out < length letter → refusal letter name out ≡ 3
  unfolding refusal
  refusal_row l a b o =
      rw (lt-ltb (length letter) 65536 (omega arith), le-leb 1 (length name) a, le-leb (length name) 64 b, lt-leb (length letter) (length out) o)

  pub refusal_none : length letter ≤ 65535 → 1 ≤ length name → length name ≤ 64 → length letter ≤ length out → refusal letter name out ≡ 0
  unfolding refusal
  refusal_none l a b o =
      rw (lt-ltb (length letter) 65536 (omega arith), le-leb 1 (length name) a, le-leb (length name) 64 b, le-leb (length letter) (length out) o)

  -- what is not refused has room for any value
  pub refusal_fits : refusal letter name out ≡ 0 → length letter ≤ length out
  unfolding refusal
  refusal_fits e =
      elim (cases_Bool (leb (length letter) (length out))) [
        | inl t ↦ leb-true (length letter) (length out) t
        | inr t ↦ absurd (never (ltb (length letter) 65536) (leb 1 (length name) && leb (length name) 64) (rw t at e))
      ]

  pub says_refused : (why : Refusal) (n : ℕ) (out₁ : List ℕ) → NotLookedFor letter name out why out₁ → n ≡ number why → FieldSays letter name out (refusal letter name out) (Refused n) out₁
  unfolding FieldSays
  says_refused LetterTooLong n out₁ w k = rw w.why_is (ap Refused k, w.row_is)
  says_refused NameLength n out₁ w k = rw w.why_is (ap Refused k, w.row_is)
  says_refused RowTooShort n out₁ w k = rw w.why_is (ap Refused k, w.row_is)

  pub says_none : (out₁ : List ℕ) → FirstValueWritten letter name out std.None out₁ → FieldSays letter name out (refusal letter name out) None out₁
  unfolding FieldSays
  says_none out₁ w = rw w.admitted (reply_none (field name letter) w.length_is, w.row_is)

  pub says_value : (n : ℕ) (out₁ : List ℕ) → FirstValueWritten letter name out (std.Some n) out₁ → FieldSays letter name out (refusal letter name out) (Value n) out₁
  unfolding FieldSays
  says_value n out₁ w = rw w.admitted (reply_value n (field name letter) w.length_is, w.row_is)
