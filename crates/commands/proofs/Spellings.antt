-- The parts of a command, tests and rules, as they are spelled and read.
use Rattle.std.proofs.Common.{◌≡◌, ℕ, zero, suc, ◌<◌, true, false, ◌&&◌, eqb, ltb, leb, List, [], ◌∷◌, ◌++◌, length, Some, sym, refl, ap, append_assoc, arith}
use mathlib.Core.Bool.{false≢true}
use Rattle.std.proofs.lemmas.Bool.{and_parts, ltb-true, lt-ltb, leb-true}
use Rattle.model.specs.Mail.{every, flat, eight, with_length, all_bytes, Test, always, field_has, field_is, longer, marked, neither, both, either, Action, keep, file, away, on_to, mark, halt}
use Rattle.model.specs.House.{number_fits, a_name, bit, test_spelled, test_fits, act_spelled, act_fits, rule_spelled, rule_fits, rules_spelled}
use Rattle.commands.specs.Reader.{pair, only, by_kind, read_byte, read_number, read_name, read_letter, read_house, read_person, read_mark, read_flag, test_kinds, read_test, action_kinds, read_action, read_rule, read_rules, listed}
use Rattle.commands.proofs.Readers.{ReadsSpelling, Kinds, no_more_kinds, ◌&◌, by_kind_was_spelled, given_was_spelled, nothing_read, made_was_spelled, made_is_read, pair_reads, only_reads, same_some}
use Rattle.commands.proofs.Numbers.{number_reads, counted_reads, listed_reads}

pub fits_below : (m n : ℕ) → m < 18446744073709551616 → leb n m ≡ true → number_fits n ≡ true
fits_below m n small t = let le = leb-true n m t in lt-ltb n 18446744073709551616 (omega arith)

pub name_reads : ReadsSpelling read_name with_length a_name
unfolding read_name
name_reads = only_reads counted_reads a_name (λ v t. fits_below 64 (length v) (omega arith) (and_parts (leb 1 (length v)) (leb (length v) 64) (and_parts (leb 1 (length v) && leb (length v) 64) (all_bytes v) t).0).1)

pub letter_reads : ReadsSpelling read_letter with_length (λ bs. leb (length bs) 65000 && all_bytes bs)
unfolding read_letter
letter_reads = only_reads counted_reads (λ bs. leb (length bs) 65000 && all_bytes bs) (λ v t. fits_below 65000 (length v) (omega arith) (and_parts (leb (length v) 65000) (all_bytes v) t).0)

pub below_reads : (m : ℕ) → m < 18446744073709551616 → ReadsSpelling (only (λ n. ltb n m) read_number) eight (λ n. ltb n m)
below_reads m small = only_reads number_reads (λ n. ltb n m) (λ n t. let lt = ltb-true n m t in lt-ltb n 18446744073709551616 (omega arith))

pub house_reads : ReadsSpelling read_house eight (λ d. ltb d 16)
unfolding read_house
house_reads = below_reads 16 (omega arith)

pub person_reads : ReadsSpelling read_person eight (λ a. ltb a 64)
unfolding read_person
person_reads = below_reads 64 (omega arith)

pub byte_reads : ReadsSpelling read_byte (λ b. b ∷ []) (λ b. true)
unfolding read_byte
byte_reads = record {
  was_spelled = byte_was_spelled;
  is_read = λ v rest t. refl;
}
  where
    byte_was_spelled : (bs : List ℕ) (v : ℕ) (rest : List ℕ) → read_byte bs ≡ Some (v, rest) → (v ∷ [] ++ rest ≡ bs) × (true ≡ true)
    byte_was_spelled [] v rest e = nothing_read (v, rest) e
    byte_was_spelled (b ∷ bs) v rest e = let q = same_some (b, bs) (v, rest) e in (ap (λ x. x.0 ∷ x.1) (sym q), refl)

pub mark_reads : ReadsSpelling read_mark (λ m. m ∷ []) (λ m. ltb m 8)
unfolding read_mark
mark_reads = only_reads byte_reads (λ m. ltb m 8) (λ m t. refl)

pub flag_reads : ReadsSpelling read_flag (λ v. bit v ∷ []) (λ v. true)
unfolding read_flag read_byte
flag_reads = record {
  was_spelled = λ bs v rest e. made_was_spelled bit_reads (eqb 1) (λ v. bit v ∷ []) (λ v. true) [] bit_of (λ b t. refl) bs v rest e;
  is_read = λ v rest t. elim v as (λ w. read_flag (bit w ∷ rest) ≡ Some (w, rest)) [ true ↦ refl | false ↦ refl ];
}
  where
    bit_reads : ReadsSpelling (only (λ b. ltb b 2) read_byte) (λ b. b ∷ []) (λ b. ltb b 2)
    bit_reads = only_reads byte_reads (λ b. ltb b 2) (λ b t. refl)

    bit_of : (b : ℕ) → ltb b 2 ≡ true → bit (eqb 1 b) ∷ [] ≡ b ∷ []
    bit_of zero t = refl
    bit_of (suc zero) t = refl
    bit_of (suc (suc b)) t = absurd (let lt = ltb-true (suc (suc b)) 2 t in omega arith)

-- a test one deeper than those below it
module _ (d : ℕ) (below : ReadsSpelling (read_test d) test_spelled (test_fits d)) where
  deeper_kinds : Kinds test_spelled (test_fits (suc d)) 0 (test_kinds (read_test d))
  unfolding test_spelled test_fits
  deeper_kinds =
      given_was_spelled always test_spelled (test_fits (suc d)) (0 ∷ []) refl refl
      & made_was_spelled (pair_reads name_reads name_reads) (λ p. field_has p.0 p.1) test_spelled (test_fits (suc d)) (1 ∷ []) (λ p t. refl) (λ p t. t)
      & made_was_spelled (pair_reads name_reads name_reads) (λ p. field_is p.0 p.1) test_spelled (test_fits (suc d)) (2 ∷ []) (λ p t. refl) (λ p t. t)
      & made_was_spelled number_reads longer test_spelled (test_fits (suc d)) (3 ∷ []) (λ k t. refl) (λ k t. t)
      & made_was_spelled mark_reads marked test_spelled (test_fits (suc d)) (4 ∷ []) (λ m t. refl) (λ m t. t)
      & made_was_spelled below neither test_spelled (test_fits (suc d)) (5 ∷ []) (λ u t. refl) (λ u t. t)
      & made_was_spelled (pair_reads below below) (λ p. both p.0 p.1) test_spelled (test_fits (suc d)) (6 ∷ []) (λ p t. refl) (λ p t. t)
      & made_was_spelled (pair_reads below below) (λ p. either p.0 p.1) test_spelled (test_fits (suc d)) (7 ∷ []) (λ p t. refl) (λ p t. t)
      & no_more_kinds

  deeper_is_read : (v : Test) (rest : List ℕ) → test_fits (suc d) v ≡ true → read_test (suc d) (test_spelled v ++ rest) ≡ Some (v, rest)
  unfolding read_test test_spelled test_fits by_kind
  deeper_is_read always rest t = refl
  deeper_is_read (field_has n u) rest t = made_is_read (pair_reads name_reads name_reads) (λ p. field_has p.0 p.1) (n, u) (with_length n ++ with_length u) rest refl t
  deeper_is_read (field_is n u) rest t = made_is_read (pair_reads name_reads name_reads) (λ p. field_is p.0 p.1) (n, u) (with_length n ++ with_length u) rest refl t
  deeper_is_read (longer k) rest t = made_is_read number_reads longer k (eight k) rest refl t
  deeper_is_read (marked m) rest t = made_is_read mark_reads marked m (m ∷ []) rest refl t
  deeper_is_read (neither u) rest t = made_is_read below neither u (test_spelled u) rest refl t
  deeper_is_read (both u w) rest t = made_is_read (pair_reads below below) (λ p. both p.0 p.1) (u, w) (test_spelled u ++ test_spelled w) rest refl t
  deeper_is_read (either u w) rest t = made_is_read (pair_reads below below) (λ p. either p.0 p.1) (u, w) (test_spelled u ++ test_spelled w) rest refl t

pub test_reads : (d : ℕ) → ReadsSpelling (read_test d) test_spelled (test_fits d)
unfolding read_test test_fits
test_reads zero = record {
  was_spelled = λ bs v rest e. nothing_read (v, rest) e;
  is_read = λ v rest t. absurd (false≢true t);
}
test_reads (suc d) = record { was_spelled = by_kind_was_spelled (deeper_kinds d (test_reads d)); is_read = deeper_is_read d (test_reads d) }

the_action_kinds : Kinds act_spelled act_fits 0 action_kinds
unfolding act_spelled act_fits
the_action_kinds =
    given_was_spelled keep act_spelled act_fits (0 ∷ []) refl refl
    & made_was_spelled name_reads file act_spelled act_fits (1 ∷ []) (λ n t. refl) (λ n t. t)
    & given_was_spelled away act_spelled act_fits (2 ∷ []) refl refl
    & made_was_spelled (pair_reads house_reads person_reads) (λ p. on_to p.0 p.1) act_spelled act_fits (3 ∷ []) (λ p t. refl) (λ p t. t)
    & made_was_spelled mark_reads mark act_spelled act_fits (4 ∷ []) (λ m t. refl) (λ m t. t)
    & given_was_spelled halt act_spelled act_fits (5 ∷ []) refl refl
    & no_more_kinds

action_is_read : (v : Action) (rest : List ℕ) → act_fits v ≡ true → read_action (act_spelled v ++ rest) ≡ Some (v, rest)
unfolding read_action act_spelled act_fits by_kind
action_is_read keep rest t = refl
action_is_read (file n) rest t = made_is_read name_reads file n (with_length n) rest refl t
action_is_read away rest t = refl
action_is_read (on_to d a) rest t = made_is_read (pair_reads house_reads person_reads) (λ p. on_to p.0 p.1) (d, a) (eight d ++ eight a) rest refl t
action_is_read (mark m) rest t = made_is_read mark_reads mark m (m ∷ []) rest refl t
action_is_read halt rest t = refl

pub action_reads : ReadsSpelling read_action act_spelled act_fits
unfolding read_action
action_reads = record { was_spelled = by_kind_was_spelled the_action_kinds; is_read = action_is_read }

pub rule_reads : ReadsSpelling read_rule rule_spelled rule_fits
unfolding read_rule
rule_reads = record {
  was_spelled = λ bs v rest e. made_was_spelled parts (λ p. record { test = p.0; acts = p.1 }) rule_spelled rule_fits [] (λ p t. append_assoc (test_spelled p.0) (eight (length p.1)) (flat act_spelled p.1)) (λ p t. t) bs v rest e;
  is_read = λ v rest t.
      made_is_read parts (λ p. record { test = p.0; acts = p.1 }) (v.test, v.acts) (rule_spelled v) rest
      (append_assoc (test_spelled v.test) (eight (length v.acts)) (flat act_spelled v.acts)) t;
}
  where
    parts : ReadsSpelling (pair (read_test 4) (listed 8 read_action)) (λ p. test_spelled p.0 ++ (eight (length p.1) ++ flat act_spelled p.1)) (λ p. test_fits 4 p.0 && (leb (length p.1) 8 && every act_fits p.1))
    parts = pair_reads (test_reads 4) (listed_reads action_reads 8 (omega arith))

pub rules_reads : ReadsSpelling read_rules rules_spelled (λ rs. leb (length rs) 32 && every rule_fits rs)
unfolding read_rules
rules_reads = listed_reads rule_reads 32 (omega arith)
