-- How a command is read off bytes. A reader takes from the front of the bytes a value and leaves the rest, or takes nothing at all.
use Rattle.std.specs.Prelude.{ℕ, zero, suc, Bool, ◌&&◌, leb, List, [], ◌∷◌, length, take, drop, Some, None, Option, nat_eq, nat_le, nat_lt, slice_index_or}
use Rattle.model.specs.Mail.{pick, all_bytes, Test, always, field_has, field_is, longer, marked, neither, both, either, Action, keep, file, away, on_to, mark, halt, Rule}
use Rattle.model.specs.House.{Command, join, hand_in, boxes, new_box, drop_box, list, get, set_mark, to_box, clear, rules, find, push, a_name}
use Rattle.model.specs.Promise.{from_bytes}

abbrev pub Reader : Type 0 → Type 0
Reader A = List ℕ → Option (A × List ℕ)

-- Readers from readers.
abbrev pub given : {A : Type 0} → A → Reader A
given a bs = Some (a, bs)

abbrev pub nothing : {A : Type 0} → Reader A
nothing bs = None

abbrev pub go_on : {A B : Type 0} → Option (A × List ℕ) → (A → Reader B) → Option (B × List ℕ)
go_on None f = None
go_on (Some p) f = f p.0 p.1

-- one, and then another that may depend on what was read
abbrev pub then : {A B : Type 0} → Reader A → (A → Reader B) → Reader B
then r f bs = go_on (r bs) f

abbrev pub made : {A B : Type 0} → (A → B) → Reader A → Reader B
made f r = then r (λ a. given (f a))

abbrev pub pair : {A B : Type 0} → Reader A → Reader B → Reader (A × B)
pair r s = then r (λ a. made (λ b. (a, b)) s)

abbrev pub only : {A : Type 0} → (A → Bool) → Reader A → Reader A
only p r = then r (λ a bs. pick (p a) (Some (a, bs)) None)

unfoldable pub so_many : {A : Type 0} → Reader A → ℕ → Reader (List A)
so_many r zero = given []
so_many r (suc n) = made (λ p. p.0 ∷ p.1) (pair r (so_many r n))

-- the first byte says which of the readers reads the rest
unfoldable pub by_kind : {A : Type 0} → List (Reader A) → Reader A
by_kind rs [] = None
by_kind rs (k ∷ bs) = slice_index_or rs k nothing bs

-- The parts of a command.
unfoldable pub read_byte : Reader ℕ
read_byte [] = None
read_byte (b ∷ bs) = Some (b, bs)

unfoldable pub first : ℕ → Reader (List ℕ)
first n bs = pick (nat_le n (length bs)) (Some (take n bs, drop n bs)) None

unfoldable pub read_number : Reader ℕ
read_number = made (from_bytes 0) (only all_bytes (first 8))

-- bytes with their count before them
unfoldable pub read_counted : Reader (List ℕ)
read_counted = then read_number first

-- at most so many of something, with their count before them
unfoldable pub listed : {A : Type 0} → ℕ → Reader A → Reader (List A)
listed most r = then (only (λ n. leb n most) read_number) (so_many r)

unfoldable pub read_name : Reader (List ℕ)
read_name = only a_name read_counted

unfoldable pub read_letter : Reader (List ℕ)
read_letter = only (λ bs. nat_le (length bs) 65000 && all_bytes bs) read_counted

unfoldable pub read_house : Reader ℕ
read_house = only (λ d. nat_lt d 16) read_number

unfoldable pub read_person : Reader ℕ
read_person = only (λ a. nat_lt a 64) read_number

-- a person, and a box of theirs by its name
abbrev pub read_mailbox : Reader (ℕ × List ℕ)
read_mailbox = pair read_person read_name

unfoldable pub read_mark : Reader ℕ
read_mark = only (λ m. nat_lt m 8) read_byte

unfoldable pub read_flag : Reader Bool
read_flag = made (nat_eq 1) (only (λ b. nat_lt b 2) read_byte)

-- the kinds of tests, by a reader of the tests that they hold
abbrev pub test_kinds : Reader Test → List (Reader Test)
test_kinds below =
    given always
    ∷ made (λ p. field_has p.0 p.1) (pair read_name read_name)
    ∷ made (λ p. field_is p.0 p.1) (pair read_name read_name)
    ∷ made longer read_number
    ∷ made marked read_mark
    ∷ made neither below
    ∷ made (λ p. both p.0 p.1) (pair below below)
    ∷ made (λ p. either p.0 p.1) (pair below below)
    ∷ []

-- a test, at most so many deep
unfoldable pub read_test : ℕ → Reader Test
read_test zero = nothing
read_test (suc d) = by_kind (test_kinds (read_test d))

abbrev pub action_kinds : List (Reader Action)
action_kinds =
    given keep
    ∷ made file read_name
    ∷ given away
    ∷ made (λ p. on_to p.0 p.1) (pair read_house read_person)
    ∷ made mark read_mark
    ∷ given halt
    ∷ []

unfoldable pub read_action : Reader Action
read_action = by_kind action_kinds

unfoldable pub read_rule : Reader Rule
read_rule = made (λ p. record { test = p.0; acts = p.1 }) (pair (read_test 4) (listed 8 read_action))

unfoldable pub read_rules : Reader (List Rule)
read_rules = listed 32 read_rule

-- The kinds of commands, each after its first byte.
abbrev pub read_join : Reader Command
read_join = made join read_name

abbrev pub read_hand_in : Reader Command
read_hand_in = made (λ p. hand_in p.0 p.1.0 p.1.1) (pair read_house (pair read_person read_letter))

abbrev pub read_boxes : Reader Command
read_boxes = made boxes read_person

abbrev pub read_new_box : Reader Command
read_new_box = made (λ p. new_box p.0 p.1) read_mailbox

abbrev pub read_drop_box : Reader Command
read_drop_box = made (λ p. drop_box p.0 p.1) read_mailbox

abbrev pub read_list : Reader Command
read_list = made (λ p. list p.0.0 p.0.1 p.1.0 p.1.1) (pair read_mailbox (pair read_number (only (λ k. nat_le 1 k && nat_le k 1000) read_number)))

abbrev pub read_get : Reader Command
read_get = made (λ p. get p.0.0 p.0.1 p.1.0 p.1.1.0 p.1.1.1) (pair read_mailbox (pair read_number (pair read_number (only (λ k. leb k 65536) read_number))))

abbrev pub read_set_mark : Reader Command
read_set_mark = made (λ p. set_mark p.0.0 p.0.1 p.1.0 p.1.1.0 p.1.1.1) (pair read_mailbox (pair read_number (pair read_mark read_flag)))

abbrev pub read_to_box : Reader Command
read_to_box = made (λ p. to_box p.0.0 p.0.1 p.1.0 p.1.1) (pair read_mailbox (pair read_number read_name))

abbrev pub read_clear : Reader Command
read_clear = made (λ p. clear p.0 p.1) read_mailbox

abbrev pub read_rule_set : Reader Command
read_rule_set = made (λ p. rules p.0 p.1) (pair read_person read_rules)

abbrev pub read_find : Reader Command
read_find = made (λ p. find p.0.0 p.0.1 p.1) (pair read_mailbox (read_test 4))

abbrev pub read_push : Reader Command
read_push = made push read_house

abbrev pub command_kinds : List (Reader Command)
command_kinds =
    nothing
    ∷ read_join
    ∷ read_hand_in
    ∷ read_boxes
    ∷ read_new_box
    ∷ read_drop_box
    ∷ read_list
    ∷ read_get
    ∷ read_set_mark
    ∷ read_to_box
    ∷ read_clear
    ∷ read_rule_set
    ∷ read_find
    ∷ read_push
    ∷ []

unfoldable pub read_command : Reader Command
read_command = by_kind command_kinds

-- what is read if nothing is left over
abbrev pub no_more : {A : Type 0} → A → List ℕ → Option A
no_more a [] = Some a
no_more a (b ∷ bs) = None

abbrev pub all_used : {A : Type 0} → Option (A × List ℕ) → Option A
all_used None = None
all_used (Some p) = no_more p.0 p.1

abbrev pub whole : {A : Type 0} → Reader A → List ℕ → Option A
whole r bs = all_used (r bs)

unfoldable pub command_of : List ℕ → Option Command
command_of text = whole read_command text
