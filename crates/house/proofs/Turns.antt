-- Which step the definition takes, from the phase and the command that the code finds; and what is refused.
use Rattle.std.proofs.Common.{◌≡◌, ℕ, suc, ◌<◌, ◌≤◌, true, false, eqb, ltb, List, [], ◌∷◌, length, get_or, Some, None, Option, is_some, IfSome, MatchOption, sym, refl, ap, ◌∙◌, subst, arith, Bor}
use Rattle.std.proofs.lemmas.Bool.{and_parts, and_from, eq-eqb, ne_eqb, lt-ltb}
use Rattle.std.specs.Array.{IsWholeChunk}
use Rattle.std.specs.Option.{option_map}
use Rattle.model.specs.Mail.{every}
use Rattle.model.specs.Mail.{Test, Rule}
use Rattle.model.specs.House.{Command, join, hand_in, new_box, drop_box, list, get, set_mark, to_box, clear, rules, find, push, a_name, fits}
use Rattle.model.specs.Device.{a_page}
use Rattle.model.specs.Promise.{Said}
use Rattle.model.specs.Run.{said, page, next}
use Rattle.commands.specs.declared.Command.TheVariants.{Join, HandIn, Boxes, NewBox, DropBox, List as ListBox, Get, SetMark, ToBox, Clear, Rules, Find, Push}
use Rattle.commands.specs.Meaning.{Lent, meaning}
use Rattle.commands.specs.Reader.{command_of, whole, read_rules, read_test}
use Rattle.commands.specs.Reads.{Reads}
use Rattle.mailboxes.proofs.Names.{name_short}
use Rattle.pages.specs.declared.places.Geometry.{Geometry}
use Rattle.house.specs.declared.phase.Phase.{Phase}
use Rattle.house.specs.declared.phase.Phase.TheVariants.{Off, ReadHeader, ReadSelectors, ReadDirectory, Idle, ShowBoxes, WriteTable, WriteSelectors, WriteHeader, FlushHeader, Committed, Shown}
use Rattle.house.specs.Memory.{pages_count, phase_of, sensible}
use Rattle.house.specs.Does.{Ready}
use Rattle.house.specs.Machine.{refuse, obeys, said_told, page_told, next_told, stepped}

-- what the reader answers
pub command_none : (o : Option Command) → None ≡ option_map {U = Option Command} Some o → o ≡ None
command_none None e = refl
command_none (Some a) e = let y : ◌≡◌ {A = ℕ} 0 1 = cc in absurd (omega arith)

pub command_some : (o : Option Command) (a : Command) → Some (Some a) ≡ option_map Some o → o ≡ Some a
command_some None a e = let y : ◌≡◌ {A = ℕ} 0 1 = cc in absurd (omega arith)
command_some (Some b) a e = cc

-- bytes that are to spell something and spell nothing are no command
spelled_none : (o : Option Command) → Some None ≡ option_map Some o → ⊥
spelled_none None e = let y : ◌≡◌ {A = ℕ} 0 1 = cc in omega arith
spelled_none (Some b) e = let y : ◌≡◌ {A = ℕ} 0 1 = cc in omega arith

module _ (P : ℕ) (m : List ℕ) (o : Option Command) where
  rules_unknown : (a : ℕ) (r : Option (List Rule)) → Some (option_map (rules a) r) ≡ option_map Some o → obeys P o m ≡ refuse 2 m
  unfolding obeys
  rules_unknown a None e = absurd (spelled_none o e)
  rules_unknown a (Some rs) e = ap (λ x. obeys P x m) (command_some o (rules a rs) e)

  find_unknown : (a : ℕ) (nm : List ℕ) (t : Option Test) → Some (option_map (find a nm) t) ≡ option_map Some o → obeys P o m ≡ refuse 2 m
  unfolding obeys
  find_unknown a nm None e = absurd (spelled_none o e)
  find_unknown a nm (Some t) e = ap (λ x. obeys P x m) (command_some o (find a nm t) e)

  -- a command other than join, boxes and new box
  pub not_known : (l : Lent) → Some (meaning l) ≡ option_map Some o → ((nm : Bor (List ℕ)) → l ≡ Join nm → ⊥) → ((a : ℕ) → l ≡ Boxes a → ⊥) → ((a : ℕ) (nm : Bor (List ℕ)) → l ≡ NewBox a nm → ⊥) →
      obeys P o m ≡ refuse 2 m
  unfolding obeys
  not_known (Join nm) e j b n = absurd (j nm refl)
  not_known (HandIn d a bs) e j b n = ap (λ x. obeys P x m) (command_some o (hand_in d a bs.now) e)
  not_known (Boxes a) e j b n = absurd (b a refl)
  not_known (NewBox a nm) e j b n = absurd (n a nm refl)
  not_known (DropBox a nm) e j b n = ap (λ x. obeys P x m) (command_some o (drop_box a nm.now) e)
  not_known (ListBox a nm i k) e j b n = ap (λ x. obeys P x m) (command_some o (list a nm.now i k) e)
  not_known (Get a nm i f k) e j b n = ap (λ x. obeys P x m) (command_some o (get a nm.now i f k) e)
  not_known (SetMark a nm i k v) e j b n = ap (λ x. obeys P x m) (command_some o (set_mark a nm.now i k v) e)
  not_known (ToBox a nm i p) e j b n = ap (λ x. obeys P x m) (command_some o (to_box a nm.now i p.now) e)
  not_known (Clear a nm) e j b n = ap (λ x. obeys P x m) (command_some o (clear a nm.now) e)
  not_known (Rules a rs) e j b n = rules_unknown a (whole read_rules rs.now) e
  not_known (Find a nm t) e j b n = find_unknown a nm.now (whole (read_test 4) t.now) e
  not_known (Push d) e j b n = ap (λ x. obeys P x m) (command_some o (push d) e)

-- names that were read are short
pub join_short : Reads → (text nm : List ℕ) → command_of text ≡ Some (join nm) → length nm ≤ 64
unfolding Reads Said fits
join_short reads text nm e = name_short nm ((reads text).0 (join nm) e).1

pub new_box_short : Reads → (text : List ℕ) (a : ℕ) (nm : List ℕ) → command_of text ≡ Some (new_box a nm) → length nm ≤ 64
unfolding Reads Said fits
new_box_short reads text a nm e = name_short nm (and_parts (ltb a 64) (a_name nm) ((reads text).0 (new_box a nm) e).1).1

-- lent bytes are bytes
pub bytes_are : (bs : List ℕ) → ((i : ℕ) → get_or bs i 0 < 256) → every (λ b. ltb b 256) bs ≡ true
bytes_are [] h = refl
bytes_are (b ∷ bs) h = and_from (ltb b 256) (every (λ x. ltb x 256) bs) (lt-ltb b 256 (h 0)) (bytes_are bs (λ i. h (suc i)))

pub page_is : (p : List ℕ) → length p ≡ 512 → ((i : ℕ) → get_or p i 0 < 256) → a_page p ≡ true
page_is p l h = and_from (eqb (length p) 512) (every (λ b. ltb b 256) p) (eq-eqb (length p) 512 l) (bytes_are p h)

pub no_page_is : (p : List ℕ) → (length p ≡ 512 → ⊥) → a_page p ≡ false
no_page_is p n = rw (ne_eqb (length p) 512 n)

-- the step that is taken
module _ (m : List ℕ) where
  pub said_refused : (text : List ℕ) → sensible m ≡ false → stepped m (said text) ≡ refuse 1 m
  said_refused text s = rw s

  pub said_taken : (P : ℕ) (ph : Phase) (text : List ℕ) → sensible m ≡ true → P ≡ pages_count m → ph ≡ phase_of m → stepped m (said text) ≡ said_told P ph text m
  said_taken P ph text s e f = rw (s, e, f)

  pub page_refused : (p : List ℕ) → sensible m ≡ false → stepped m (page p) ≡ refuse 1 m
  page_refused p s = rw s

  pub no_page_refused : (p : List ℕ) → sensible m ≡ true → a_page p ≡ false → stepped m (page p) ≡ refuse 1 m
  no_page_refused p s a = rw (s, a)

  pub page_taken : (P : ℕ) (ph : Phase) (p : List ℕ) → sensible m ≡ true → a_page p ≡ true → P ≡ pages_count m → ph ≡ phase_of m → stepped m (page p) ≡ page_told P ph p m
  page_taken P ph p s a e f = rw (s, a, e, f)

  -- of a page that came as bytes
  pub lent_page_taken : (P : ℕ) (ph : Phase) (p lent : List ℕ) → IsWholeChunk p lent 512 → ((i : ℕ) → get_or p i 0 < 256) → sensible m ≡ true → P ≡ pages_count m → ph ≡ phase_of m → stepped m (page p) ≡ page_told P ph lent m
  lent_page_taken P ph p lent w b s e f = rw w.same (page_taken P ph p s (page_is p w.long b) e f)

  pub next_refused : sensible m ≡ false → stepped m next ≡ refuse 1 m
  next_refused s = rw s

  pub next_taken : (P : ℕ) (ph : Phase) → sensible m ≡ true → P ≡ pages_count m → ph ≡ phase_of m → stepped m next ≡ next_told P ph m
  next_taken P ph s e f = rw (s, e, f)

-- what is told out of turn
pub said_out : (P : ℕ) (ph : Phase) (text m : List ℕ) → (ph ≡ Idle → ⊥) → said_told P ph text m ≡ refuse 1 m
unfolding said_told
said_out P Off text m n = refl
said_out P ReadHeader text m n = refl
said_out P (ReadSelectors q) text m n = refl
said_out P (ReadDirectory t) text m n = refl
said_out P Idle text m n = absurd (n refl)
said_out P (ShowBoxes a i) text m n = refl
said_out P (WriteTable t) text m n = refl
said_out P (WriteSelectors q) text m n = refl
said_out P WriteHeader text m n = refl
said_out P FlushHeader text m n = refl
said_out P Committed text m n = refl
said_out P Shown text m n = refl

pub page_out : (P : ℕ) (ph : Phase) (p m : List ℕ) → (ph ≡ ReadHeader → ⊥) → ((q : ℕ) → ph ≡ ReadSelectors q → ⊥) → ((t : ℕ) → ph ≡ ReadDirectory t → ⊥) → page_told P ph p m ≡ refuse 1 m
unfolding page_told
page_out P Off p m h s d = refl
page_out P ReadHeader p m h s d = absurd (h refl)
page_out P (ReadSelectors q) p m h s d = absurd (s q refl)
page_out P (ReadDirectory t) p m h s d = absurd (d t refl)
page_out P Idle p m h s d = refl
page_out P (ShowBoxes a i) p m h s d = refl
page_out P (WriteTable t) p m h s d = refl
page_out P (WriteSelectors q) p m h s d = refl
page_out P WriteHeader p m h s d = refl
page_out P FlushHeader p m h s d = refl
page_out P Committed p m h s d = refl
page_out P Shown p m h s d = refl

pub next_out : (P : ℕ) (ph : Phase) (m : List ℕ) → ((a i : ℕ) → ph ≡ ShowBoxes a i → ⊥) → ((t : ℕ) → ph ≡ WriteTable t → ⊥) → ((q : ℕ) → ph ≡ WriteSelectors q → ⊥) →
    (ph ≡ WriteHeader → ⊥) → (ph ≡ FlushHeader → ⊥) → (ph ≡ Committed → ⊥) → (ph ≡ Shown → ⊥) → next_told P ph m ≡ refuse 1 m
unfolding next_told
next_out P Off m b t q h f c s = refl
next_out P ReadHeader m b t q h f c s = refl
next_out P (ReadSelectors x) m b t q h f c s = refl
next_out P (ReadDirectory x) m b t q h f c s = refl
next_out P Idle m b t q h f c s = refl
next_out P (ShowBoxes a i) m b t q h f c s = absurd (b a i refl)
next_out P (WriteTable x) m b t q h f c s = absurd (t x refl)
next_out P (WriteSelectors x) m b t q h f c s = absurd (q x refl)
next_out P WriteHeader m b t q h f c s = absurd (h refl)
next_out P FlushHeader m b t q h f c s = absurd (f refl)
next_out P Committed m b t q h f c s = absurd (c refl)
next_out P Shown m b t q h f c s = absurd (s refl)

-- what is known of a memory that has a geometry
pub geometry_there : (m : List ℕ) (o : Option Geometry) (g : Geometry) → is_some o ≡ sensible m → IfSome o (λ x. (x.pages ≡ pages_count m) × Ready x.pages m) → o ≡ Some g →
    (sensible m ≡ true) × ((g.pages ≡ pages_count m) × Ready g.pages m)
geometry_there m o g k r e = (sym k ∙ ap is_some e, subst (λ x. IfSome x (λ y. (y.pages ≡ pages_count m) × Ready y.pages m)) e r)

pub no_geometry : (m : List ℕ) (o : Option Geometry) → is_some o ≡ sensible m → o ≡ None → sensible m ≡ false
no_geometry m o k e = sym k ∙ ap is_some e

-- whether lent bytes are a page
pub whole_page : (p : List ℕ) (o : Option (Bor (List ℕ))) (y : Bor (List ℕ)) → MatchOption o (length p ≡ 512 → ⊥) (λ x. IsWholeChunk p x.now 512) → o ≡ Some y → IsWholeChunk p y.now 512
whole_page p o y h e = subst (λ x. MatchOption x (length p ≡ 512 → ⊥) (λ z. IsWholeChunk p z.now 512)) e h

pub not_whole : (p : List ℕ) (o : Option (Bor (List ℕ))) → MatchOption o (length p ≡ 512 → ⊥) (λ x. IsWholeChunk p x.now 512) → o ≡ None → length p ≡ 512 → ⊥
not_whole p o h e = subst (λ x. MatchOption x (length p ≡ 512 → ⊥) (λ z. IsWholeChunk p z.now 512)) e h
