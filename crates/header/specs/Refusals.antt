-- The number of each refusal, and what it prints.
use Rattle.std.specs.Prelude.{ℕ, List, codes}
use Rattle.header.specs.declared.Refusal.{Refusal}
use Rattle.header.specs.declared.Refusal.TheVariants.{LetterTooLong, NameLength, RowTooShort}

abbrev pub number : Refusal → ℕ
number LetterTooLong = 1
number NameLength = 2
number RowTooShort = 3

abbrev pub words : Refusal → List ℕ
words LetterTooLong = codes "the letter is too long"
words NameLength = codes "the field's name is empty or too long"
words RowTooShort = codes "the row is shorter than the letter"
