-- A command is read just where it is said, and no two commands are spelled alike.
use Rattle.std.proofs.Common.{◌≡◌, ℕ, zero, suc, Bool, true, false, ◌&&◌, ltb, leb, ◌⊎◌, List, [], ◌∷◌, ◌++◌, Some, None, Option, sym, refl, ap, ◌∙◌, inl, inr, ⊎_elim, append_assoc, arith}
use Rattle.std.proofs.lemmas.Bool.{and_parts}
use Rattle.model.specs.Mail.{eight, with_length}
use Rattle.model.specs.House.{Command, join, hand_in, boxes, new_box, drop_box, list, get, set_mark, to_box, clear, rules, find, push, number_fits, a_name, bit, test_fits, test_spelled, rules_spelled, spelled, fits}
use Rattle.model.specs.Promise.{Never, Said, SpelledOnce}
use Rattle.commands.specs.Reader.{only, by_kind, read_number, read_mailbox, command_kinds, read_command, command_of}
use Rattle.commands.specs.Reads.{Reads}
use Rattle.commands.proofs.Readers.{ReadsSpelling, Kinds, no_more_kinds, ◌&◌, by_kind_was_spelled, nothing_read, made_was_spelled, made_is_read, pair_reads, only_reads, same_some, whole_was_spelled, whole_is_read}
use Rattle.commands.proofs.Numbers.{number_reads}
use Rattle.commands.proofs.Spellings.{fits_below, name_reads, letter_reads, house_reads, person_reads, mark_reads, flag_reads, test_reads, rules_reads}

mailbox_reads : ReadsSpelling read_mailbox (λ p. eight p.0 ++ with_length p.1) (λ p. ltb p.0 64 && a_name p.1)
mailbox_reads = pair_reads person_reads name_reads

-- how many letters to list, and how many bytes to get
rows_reads : ReadsSpelling (only (λ k. leb 1 k && leb k 1000) read_number) eight (λ k. leb 1 k && leb k 1000)
rows_reads = only_reads number_reads (λ k. leb 1 k && leb k 1000) (λ k t. fits_below 1000 k (omega arith) (and_parts (leb 1 k) (leb k 1000) t).1)

span_reads : ReadsSpelling (only (λ k. leb k 65536) read_number) eight (λ k. leb k 65536)
span_reads = only_reads number_reads (λ k. leb k 65536) (λ k t. fits_below 65536 k (omega arith) t)

-- the same tests, otherwise grouped
marks_fit : (a b c : Bool) → a && (b && (c && true)) ≡ true → a && (b && c) ≡ true
marks_fit true true true t = refl
marks_fit true true false t = t
marks_fit true false c t = t
marks_fit false b c t = t

fit_marks : (a b c : Bool) → a && (b && c) ≡ true → a && (b && (c && true)) ≡ true
fit_marks true true true t = refl
fit_marks true true false t = t
fit_marks true false c t = t
fit_marks false b c t = t

regrouped : (a b c : Bool) → (a && b) && c ≡ true → a && (b && c) ≡ true
regrouped true b c t = t
regrouped false b c t = t

regroup : (a b c : Bool) → a && (b && c) ≡ true → (a && b) && c ≡ true
regroup true b c t = t
regroup false b c t = t

the_command_kinds : Kinds spelled fits 0 command_kinds
unfolding spelled fits
the_command_kinds =
    (λ bs v rest e. nothing_read (v, rest) e)
    & made_was_spelled name_reads join spelled fits (1 ∷ []) (λ p t. refl) (λ p t. t)
    & made_was_spelled (pair_reads house_reads (pair_reads person_reads letter_reads)) (λ p. hand_in p.0 p.1.0 p.1.1)
    spelled fits (2 ∷ []) (λ p t. simp append_assoc) (λ p t. t)
    & made_was_spelled person_reads boxes spelled fits (3 ∷ []) (λ p t. refl) (λ p t. t)
    & made_was_spelled mailbox_reads (λ p. new_box p.0 p.1) spelled fits (4 ∷ []) (λ p t. refl) (λ p t. t)
    & made_was_spelled mailbox_reads (λ p. drop_box p.0 p.1) spelled fits (5 ∷ []) (λ p t. refl) (λ p t. t)
    & made_was_spelled (pair_reads mailbox_reads (pair_reads number_reads rows_reads)) (λ p. list p.0.0 p.0.1 p.1.0 p.1.1)
    spelled fits (6 ∷ []) (λ p t. simp append_assoc) (λ p t. t)
    & made_was_spelled (pair_reads mailbox_reads (pair_reads number_reads (pair_reads number_reads span_reads))) (λ p. get p.0.0 p.0.1 p.1.0 p.1.1.0 p.1.1.1)
    spelled fits (7 ∷ []) (λ p t. simp append_assoc) (λ p t. t)
    & made_was_spelled (pair_reads mailbox_reads (pair_reads number_reads (pair_reads mark_reads flag_reads))) (λ p. set_mark p.0.0 p.0.1 p.1.0 p.1.1.0 p.1.1.1)
    spelled fits (8 ∷ []) (λ p t. simp append_assoc) (λ p t. marks_fit (ltb p.0.0 64 && a_name p.0.1) (number_fits p.1.0) (ltb p.1.1.0 8) t)
    & made_was_spelled (pair_reads mailbox_reads (pair_reads number_reads name_reads)) (λ p. to_box p.0.0 p.0.1 p.1.0 p.1.1)
    spelled fits (9 ∷ []) (λ p t. simp append_assoc) (λ p t. t)
    & made_was_spelled mailbox_reads (λ p. clear p.0 p.1) spelled fits (10 ∷ []) (λ p t. refl) (λ p t. t)
    & made_was_spelled (pair_reads person_reads rules_reads) (λ p. rules p.0 p.1) spelled fits (11 ∷ []) (λ p t. refl) (λ p t. t)
    & made_was_spelled (pair_reads mailbox_reads (test_reads 4)) (λ p. find p.0.0 p.0.1 p.1)
    spelled fits (12 ∷ []) (λ p t. simp append_assoc) (λ p t. regrouped (ltb p.0.0 64) (a_name p.0.1) (test_fits 4 p.1) t)
    & made_was_spelled house_reads push spelled fits (13 ∷ []) (λ p t. refl) (λ p t. t)
    & no_more_kinds

command_is_read : (v : Command) (rest : List ℕ) → fits v ≡ true → read_command (spelled v ++ rest) ≡ Some (v, rest)
unfolding read_command spelled fits by_kind
command_is_read (join n) rest t = made_is_read name_reads join n (with_length n) rest refl t
command_is_read (hand_in d a bs) rest t =
    made_is_read (pair_reads house_reads (pair_reads person_reads letter_reads)) (λ p. hand_in p.0 p.1.0 p.1.1) (d, (a, bs)) (eight d ++ eight a ++ with_length bs) rest (simp append_assoc) t
command_is_read (boxes a) rest t = made_is_read person_reads boxes a (eight a) rest refl t
command_is_read (new_box a n) rest t = made_is_read mailbox_reads (λ p. new_box p.0 p.1) (a, n) (eight a ++ with_length n) rest refl t
command_is_read (drop_box a n) rest t = made_is_read mailbox_reads (λ p. drop_box p.0 p.1) (a, n) (eight a ++ with_length n) rest refl t
command_is_read (list a n i k) rest t =
    made_is_read (pair_reads mailbox_reads (pair_reads number_reads rows_reads)) (λ p. list p.0.0 p.0.1 p.1.0 p.1.1) ((a, n), (i, k)) (eight a ++ with_length n ++ eight i ++ eight k) rest (simp append_assoc) t
command_is_read (get a n i j k) rest t =
    made_is_read (pair_reads mailbox_reads (pair_reads number_reads (pair_reads number_reads span_reads))) (λ p. get p.0.0 p.0.1 p.1.0 p.1.1.0 p.1.1.1) ((a, n), (i, (j, k))) (eight a ++ with_length n ++ eight i ++ eight j ++ eight k) rest (simp append_assoc) t
command_is_read (set_mark a n i m v) rest t =
    made_is_read (pair_reads mailbox_reads (pair_reads number_reads (pair_reads mark_reads flag_reads))) (λ p. set_mark p.0.0 p.0.1 p.1.0 p.1.1.0 p.1.1.1) ((a, n), (i, (m, v))) (eight a ++ with_length n ++ eight i ++ m ∷ bit v ∷ []) rest (simp append_assoc) (fit_marks (ltb a 64 && a_name n) (number_fits i) (ltb m 8) t)
command_is_read (to_box a n i o) rest t =
    made_is_read (pair_reads mailbox_reads (pair_reads number_reads name_reads)) (λ p. to_box p.0.0 p.0.1 p.1.0 p.1.1) ((a, n), (i, o)) (eight a ++ with_length n ++ eight i ++ with_length o) rest (simp append_assoc) t
command_is_read (clear a n) rest t = made_is_read mailbox_reads (λ p. clear p.0 p.1) (a, n) (eight a ++ with_length n) rest refl t
command_is_read (rules a rs) rest t =
    made_is_read (pair_reads person_reads rules_reads) (λ p. rules p.0 p.1) (a, rs) (eight a ++ rules_spelled rs) rest refl t
command_is_read (find a n u) rest t =
    made_is_read (pair_reads mailbox_reads (test_reads 4)) (λ p. find p.0.0 p.0.1 p.1) ((a, n), u) (eight a ++ with_length n ++ test_spelled u) rest (simp append_assoc) (regroup (ltb a 64) (a_name n) (test_fits 4 u) t)
command_is_read (push d) rest t = made_is_read house_reads push d (eight d) rest refl t

pub command_reads : ReadsSpelling read_command spelled fits
unfolding read_command
command_reads = record { was_spelled = by_kind_was_spelled the_command_kinds; is_read = command_is_read }

pub read_was_said : (text : List ℕ) (a : Command) → command_of text ≡ Some a → Said text a
unfolding command_of Said
read_was_said text a e = whole_was_spelled command_reads text a e

pub said_is_read : (text : List ℕ) (a : Command) → Said text a → command_of text ≡ Some a
unfolding command_of Said
said_is_read text a (e, t) = ap command_of (sym e) ∙ whole_is_read command_reads a t

-- either a command is read and said, or none is
pub said_or_not : (text : List ℕ) → ((a : Command) × (command_of text ≡ Some a) × Said text a) ⊎ ((command_of text ≡ None) × ((a : Command) → Said text a → Never))
said_or_not text = by (command_of text) refl
  where
    by : (o : Option Command) → command_of text ≡ o → ((a : Command) × (command_of text ≡ Some a) × Said text a) ⊎ ((command_of text ≡ None) × ((a : Command) → Said text a → Never))
    by (Some a) e = inl (a, e, read_was_said text a e)
    by None e = inr (e, λ a s. nothing_read a (sym e ∙ said_is_read text a s))

pub reads : Reads
unfolding Reads
reads text = (
  read_was_said text,
  said_is_read text,
  λ e a s. nothing_read a (sym e ∙ said_is_read text a s),
  λ never. ⊎_elim (λ r. absurd (let n : zero ≡ suc zero = never r.0 r.2 in omega arith)) (λ r. r.0) (said_or_not text),
)

pub spelled_once : SpelledOnce
unfolding SpelledOnce Said
spelled_once a c ta tc e = same_some a c (sym (said_is_read (spelled a) a (refl, ta)) ∙ said_is_read (spelled a) c (sym e, tc))
