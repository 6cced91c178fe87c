-- What the answers of the code mean: for each kind of command, and for who calls the reader.
use Rattle.std.proofs.Common.{◌≡◌, ℕ, true, ◌&&◌, leb, List, [], ◌∷◌, length, Some, None, Option, sym, refl, ap, ◌∙◌, Bor}
use Rattle.std.specs.Option.{option_map}
use Rattle.model.specs.Mail.{every, Rule, Test}
use Rattle.model.specs.House.{Command, rules, find, rules_spelled, rule_fits, test_spelled, test_fits}
use Rattle.commands.specs.declared.Command.TheVariants.{Rules, Find}
use Rattle.commands.specs.Meaning.{Lent, meaning, Answers}
use Rattle.commands.specs.Reader.{no_more, whole, read_rules, read_test}
use Rattle.commands.proofs.Readers.{nothing_read, same_some, whole_was_spelled}
use Rattle.commands.proofs.Spellings.{rules_reads, test_reads}

-- a command is complete where the one that it means is
pub complete_answers : (c : Lent) (a : Command) (rest : List ℕ) (r : Option Lent) → r ≡ no_more c rest → meaning c ≡ Some a → Answers r (no_more a rest)
complete_answers c a [] r e m = ap (option_map meaning) e ∙ ap Some m
complete_answers c a (b ∷ bs) r e m = ap (option_map meaning) e

-- where the code answers a command, the definition reads the one that it means; and else none
pub answers_some : (c : Lent) (o : Option Command) → Answers (Some c) o → (a : Command) × (o ≡ Some a) × (meaning c ≡ Some a)
answers_some c None e = nothing_read (meaning c) (sym e)
answers_some c (Some a) e = (a, refl, same_some (meaning c) (Some a) e)

pub answers_none : (o : Option Command) → Answers None o → o ≡ None
answers_none None e = refl
answers_none (Some a) e = nothing_read (Some a) e

-- what was made was made of something
made_of : {A B : Type 0} (f : A → B) (o : Option A) (b : B) → option_map f o ≡ Some b → (a : A) × (o ≡ Some a) × (b ≡ f a)
made_of f None b e = nothing_read b e
made_of f (Some a) b e = (a, refl, sym (same_some (f a) b e))

-- the bytes of rules and of a test spell what is meant
pub rules_meant :
    (person : ℕ) (bs : Bor (List ℕ)) (a : Command) → meaning (Rules person bs) ≡ Some a →
    (rs : List Rule) × (a ≡ rules person rs) × (rules_spelled rs ≡ bs.now) × (leb (length rs) 32 && every rule_fits rs ≡ true)
rules_meant person bs a e =
    let m = made_of (rules person) (whole read_rules bs.now) a e in
    let h = whole_was_spelled rules_reads bs.now m.0 m.1 in
    (m.0, m.2, h.0, h.1)

pub test_meant :
    (person : ℕ) (mailbox bs : Bor (List ℕ)) (a : Command) → meaning (Find person mailbox bs) ≡ Some a →
    (t : Test) × (a ≡ find person mailbox.now t) × (test_spelled t ≡ bs.now) × (test_fits 4 t ≡ true)
test_meant person mailbox bs a e =
    let m = made_of (find person mailbox.now) (whole (read_test 4) bs.now) a e in
    let h = whole_was_spelled (test_reads 4) bs.now m.0 m.1 in
    (m.0, m.2, h.0, h.1)
