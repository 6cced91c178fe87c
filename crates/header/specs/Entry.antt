-- What the entry that reads a field of a letter answers, over lent bytes. Assumes nothing: these are definitions.
use Rattle.std.specs.Prelude.{◌≡◌, ℕ, zero, suc, ◌&&◌, List, [], ◌∷◌, ◌++◌, length, drop, nat_le, nat_lt}
use Rattle.model.specs.Mail.{pick, field}
use Rattle.header.specs.declared.Reply.{Reply}
use Rattle.header.specs.declared.Reply.TheVariants.{Value, None, Refused}
use Rattle.header.specs.declared.Refusal.{Refusal}
use Rattle.header.specs.Refusals.{number}
use Rattle.std.specs.Prelude as std

abbrev pub first_or_none : List (List ℕ) → List ℕ
first_or_none [] = []
first_or_none (v ∷ vs) = v

unfoldable pub reply : List (List ℕ) → Reply
reply [] = None
reply (v ∷ vs) = Value (length v)

-- the first value of a field, in small letters and without blanks before it
unfoldable pub FieldSays : (letter name out : List ℕ) → (refusal : ℕ) → Reply → (out₁ : List ℕ) → Type 0
FieldSays letter name out zero r out₁ =
    (r ≡ reply (field name letter)) × (out₁ ≡ first_or_none (field name letter) ++ drop (length (first_or_none (field name letter))) out)
FieldSays letter name out (suc k) r out₁ = (r ≡ Refused (suc k)) × (out₁ ≡ out)

-- which refusal, 0 for none, a number since FieldSays takes one: 1, the letter is longer than 65,535; 2, the name has no bytes or more than 64; 3, the lent row is shorter than the letter
unfoldable pub refusal : (letter name out : List ℕ) → ℕ
refusal letter name out =
    pick (nat_lt (length letter) 65536) (pick (nat_le 1 (length name) && nat_le (length name) 64) (pick (nat_le (length letter) (length out)) 0 3) 2) 1

abbrev pub first_length : List (List ℕ) → std.Option ℕ
first_length [] = std.None
first_length (v ∷ vs) = std.Some (length v)

-- the first value of a field stands at the front of a row, and all else in it is as it was; how long the value is, if there is one
pub record FirstValueWritten (letter name out : List ℕ) (told : std.Option ℕ) (out₁ : List ℕ) : Type 0 where
  pub admitted : refusal letter name out ≡ 0
  pub length_is : told ≡ first_length (field name letter)
  pub row_is : out₁ ≡ first_or_none (field name letter) ++ drop (length (first_or_none (field name letter))) out

-- the first rule that the letter, the name and the row break is why, and the row is as it was
pub record NotLookedFor (letter name out : List ℕ) (why : Refusal) (out₁ : List ℕ) : Type 0 where
  pub why_is : refusal letter name out ≡ number why
  pub row_is : out₁ ≡ out
