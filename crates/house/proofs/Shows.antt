-- The command boxes: a row for each box of a person, one after another. Nothing is written, and memory changes only its phase.
use Rattle.std.proofs.Common.{◌≡◌, ℕ, zero, suc, ◌+◌, ◌-◌, ◌<◌, ◌≤◌, Bool, true, false, ltb, List, [], ◌∷◌, ◌++◌, length, get_or, Some, None, Option, sym, refl, ap, ◌∙◌, subst, inl, inr, append_assoc, append-nil, arith, ltb-true, lt-ltb}
use Rattle.std.proofs.lemmas.Bool.{cases_Bool}
use Rattle.model.specs.Mail.{each, those}
use Rattle.model.specs.House.{boxes, fits, House, Plain, turn, yes, person_at, box_row, house_at, set_house}
use Rattle.model.specs.Run.{Event, said, next, shows, done, World, in_memory, all_small}
use Rattle.model.specs.Promise.{May, Mid, TurnMay, Said}
use Rattle.model.specs.Known.{also, nothing}
use Rattle.pages.proofs.Geometry.{directory_pages_most}
use Rattle.mailboxes.specs.Directory.{count_up, first, owns, box_of}
use Rattle.mailboxes.proofs.Places.{first_some, those_first, those_first_none}
use Rattle.commands.specs.Reader.{command_of}
use Rattle.house.specs.declared.phase.Phase.{Phase}
use Rattle.house.specs.declared.phase.Phase.TheVariants.{Idle, ShowBoxes}
use Rattle.house.specs.Memory.{phase_words, in_phase}
use Rattle.house.specs.Machine.{own, go, shows_boxes, obeys, next_told}
use Rattle.house.proofs.Course.{Course, ends, showing}
use Rattle.house.proofs.Regions.{Mem, header_word, to_phase}
use Rattle.house.proofs.Steps.{step_next, up_fit}
use Rattle.house.proofs.Rest.{Up}
use Rattle.house.proofs.Counts.{people_is, own_boxes}
use Rattle.house.proofs.Refusals.{unchanged, known_no_push, obeys_said, turned_down}
use Rattle.house.specs.Knows.{known}
use Rattle.house.proofs.Does.{SafeAt, Does}

-- the rows that are still to come from a place on
abbrev rows_from : (many : ℕ) → List ℕ → ℕ → ℕ → List (List ℕ)
rows_from many dir a i = each box_row (each (box_of dir) (those (owns dir a) (count_up i (many - i))))

rows_none : (many : ℕ) (dir : List ℕ) (a i : ℕ) → first (owns dir a) i (many - i) ≡ None → rows_from many dir a i ≡ []
rows_none many dir a i e = ap (λ l. each box_row (each (box_of dir) l)) (those_first_none (owns dir a) (many - i) i e)

rows_some : (many : ℕ) (dir : List ℕ) (a i j : ℕ) → i ≤ many → first (owns dir a) i (many - i) ≡ Some j →
    rows_from many dir a i ≡ box_row (box_of dir j) ∷ rows_from many dir a (j + 1)
rows_some many dir a i j l e =
    let p : suc j ≡ j + 1 = omega arith in
    let q : i + (many - i) - suc j ≡ many - suc j = omega arith in
    ap (λ l. each box_row (each (box_of dir) l)) (those_first (owns dir a) (many - i) i j e ∙ ap (λ k. j ∷ those (owns dir a) (count_up (suc j) k)) q)
    ∙ ap (λ k. box_row (box_of dir j) ∷ rows_from many dir a k) p

small_phase : (a i : ℕ) → a < 64 → i ≤ 262144 → all_small (phase_words (ShowBoxes a i)) ≡ true
unfolding all_small
small_phase a i p q = rw (lt-ltb a 18446744073709551616 (omega arith), lt-ltb i 18446744073709551616 (omega arith))

small_idle : all_small (phase_words Idle) ≡ true
unfolding all_small
small_idle = refl

module _ (P a : ℕ) (phase : Phase) (regs header counting coming dir m : List ℕ) (M : Mem P phase regs header counting coming dir m) (i : ℕ) where
  none_left : first (owns dir a) i (get_or header 3 0 - i) ≡ None → shows_boxes P a i m ≡ go Idle done m
  unfolding shows_boxes
  none_left e = rw (header_word P phase regs header counting coming dir m M 3 (omega arith), M.directory_in, e)

  one_left : (j : ℕ) → first (owns dir a) i (get_or header 3 0 - i) ≡ Some j → shows_boxes P a i m ≡ go (ShowBoxes a (j + 1)) (shows (box_row (box_of dir j))) m
  unfolding shows_boxes
  one_left j e =
      rw (header_word P phase regs header counting coming dir m M 3 (omega arith), M.directory_in, e) (ap (λ d. go (ShowBoxes a (j + 1)) (shows (box_row (box_of d j))) m) M.directory_in)

module _ (P n : ℕ) (s : Plain) (c : ℕ) (text : List ℕ) (v : World) (enough : 256 ≤ P) (few : n ≤ 16) (U : Up P n (house_at s c) v)
    (a : ℕ) (small : a < 64) (is_said : Said text (boxes a)) (all : List (List ℕ)) (turned : (turn (length s) c (house_at s c) (boxes a)).shows ≡ all) where
  abbrev In : Phase → List ℕ → Type 0
  In phase m = Mem P phase (U.house_number ∷ n ∷ P ∷ U.shown ∷ []) U.header U.counting U.coming U.dir m

  abbrev many : ℕ
  many = get_or U.header 3 0

  -- from one place on, whatever event leads there
  abbrev ToEnd : List ℕ → Event → List (List ℕ) → Type 0
  ToEnd m ev ss = (m' : List ℕ) × Course own (SafeAt P n s c text) (in_memory v m') all 0 (in_memory v m) ev ss × In Idle m'

  part_shown : (ss more : List (List ℕ)) → all ≡ ss ++ more → Mid known s c text ss s
  unfolding Mid
  part_shown ss more e = inl (refl, inr (boxes a, is_said, more, turned ∙ e))

  safe : (ss more : List (List ℕ)) → all ≡ ss ++ more → SafeAt P n s c text v.device ss
  safe ss more e = unchanged P n s c text v U ss (part_shown ss more e)

  module _ (i : ℕ) (ev : Event) (phase : Phase) (m : List ℕ) (ss : List (List ℕ)) (q : i ≤ many) (M : In phase m) (st : own.step m ev ≡ shows_boxes P a i m)
      (e : all ≡ ss ++ rows_from many U.dir a i) where
    no_more : first (owns U.dir a) i (many - i) ≡ None → ToEnd m ev ss
    no_more f =
        let here = st ∙ none_left P a phase (U.house_number ∷ n ∷ P ∷ U.shown ∷ []) U.header U.counting U.coming U.dir m M i f in
        let whole : all ≡ ss = e ∙ ap (λ r. ss ++ r) (rows_none many U.dir a i f) ∙ append-nil ss in (
          in_phase Idle m,
          subst (λ z. Course own (SafeAt P n s c text) (in_memory v (in_phase Idle m)) all 0 (in_memory v m) ev z) whole
              (ends (safe all [] (sym (append-nil all))) (ap (λ z. z.act) here) (ap (λ z. in_memory v z.memory) here) refl),
          to_phase P phase (U.house_number ∷ n ∷ P ∷ U.shown ∷ []) U.header U.counting U.coming U.dir m M Idle small_idle,
        )

    -- what is owed of the rest after the row of box j
    abbrev From : ℕ → Type 0
    From j = In (ShowBoxes a (j + 1)) (in_phase (ShowBoxes a (j + 1)) m)
        → own.step (in_phase (ShowBoxes a (j + 1)) m) next ≡ shows_boxes P a (j + 1) (in_phase (ShowBoxes a (j + 1)) m)
        → all ≡ (ss ++ box_row (box_of U.dir j) ∷ []) ++ rows_from many U.dir a (j + 1)
        → ToEnd (in_phase (ShowBoxes a (j + 1)) m) next (ss ++ box_row (box_of U.dir j) ∷ [])

    one_more : (j : ℕ) → first (owns U.dir a) i (many - i) ≡ Some j → j < many → From j → ToEnd m ev ss
    unfolding next_told
    one_more j f l rest =
        let here = st ∙ one_left P a phase (U.house_number ∷ n ∷ P ∷ U.shown ∷ []) U.header U.counting U.coming U.dir m M i j f in
        let fit = up_fit P n (house_at s c) v enough few U in
        let M' = to_phase P phase (U.house_number ∷ n ∷ P ∷ U.shown ∷ []) U.header U.counting U.coming U.dir m M (ShowBoxes a (j + 1)) (small_phase a (j + 1) small (omega (arith, fit.boxes_fit, directory_pages_most P))) in
        let r = rest M' (step_next P n U.house_number U.shown (ShowBoxes a (j + 1)) U.header U.counting U.coming U.dir (in_phase (ShowBoxes a (j + 1)) m) M' fit)
        (e ∙ ap (λ r. ss ++ r) (rows_some many U.dir a i j q f) ∙ sym (append_assoc ss (box_row (box_of U.dir j) ∷ []) (rows_from many U.dir a (j + 1)))) in (
          r.0,
          showing (box_row (box_of U.dir j)) (safe ss (rows_from many U.dir a i) e) (ap (λ z. z.act) here)
              (subst (λ z. Course own (SafeAt P n s c text) (in_memory v r.0) all 0 (in_memory v z) next (ss ++ box_row (box_of U.dir j) ∷ [])) (sym (ap (λ z. z.memory) here)) r.1),
          r.2,
        )

    one_step : ((j : ℕ) → i ≤ j → j < many → From j) → ToEnd m ev ss
    one_step rest = by (first (owns U.dir a) i (many - i)) refl
      where
        by : (o : Option ℕ) → first (owns U.dir a) i (many - i) ≡ o → ToEnd m ev ss
        by None f = no_more f
        by (Some j) f = let r = first_some (owns U.dir a) (many - i) i j f in one_more j f (omega arith) (rest j r.not_before (omega arith))

  shows_on : (k i : ℕ) (ev : Event) (phase : Phase) (m : List ℕ) (ss : List (List ℕ)) → many ≤ i + k → i ≤ many → In phase m
      → own.step m ev ≡ shows_boxes P a i m → all ≡ ss ++ rows_from many U.dir a i → ToEnd m ev ss
  shows_on zero i ev phase m ss p q M st e = one_step i ev phase m ss q M st e (λ j l u. absurd (omega arith))
  shows_on (suc k) i ev phase m ss p q M st e =
      one_step i ev phase m ss q M st e
      (λ j l u M' st' e'. shows_on k (j + 1) next (ShowBoxes a (j + 1)) (in_phase (ShowBoxes a (j + 1)) m) (ss ++ box_row (box_of U.dir j) ∷ []) (omega arith) (omega arith) M' st' e')

-- at rest again, with the memory in the phase Idle
pub still_up : (P n : ℕ) (h : House) (v : World) (m : List ℕ) (U : Up P n h v) → Mem P Idle (U.house_number ∷ n ∷ P ∷ U.shown ∷ []) U.header U.counting U.coming U.dir m → Up P n h (in_memory v m)
still_up P n h v m U M = record {
  powered_up = U.powered_up;
  down = U.down;
  house_number = U.house_number;
  shown = U.shown;
  header = U.header;
  counting = U.counting;
  coming = U.coming;
  dir = U.dir;
  memory_is = M;
  beside = U.beside;
  area_is = U.area_is;
  version_one = U.version_one;
  stands = U.stands;
}

fits_boxes : (text : List ℕ) (a : ℕ) → Said text (boxes a) → a < 64
unfolding Said fits
fits_boxes text a e = ltb-true a 64 e.1

-- the command boxes
module _ (P n : ℕ) (s : Plain) (c : ℕ) (text : List ℕ) (ls : ℕ) (up : Bool) (v : World) (enough : 256 ≤ P) (few : n ≤ 16) (U : Up P n (house_at s c) v)
    (a : ℕ) (e : command_of text ≡ Some (boxes a)) (is_said : Said text (boxes a)) where
  nobody : ltb a (length (house_at s c).people) ≡ false → Does P n s c text ls up v
  unfolding obeys turn also nothing
  nobody t = turned_down P n s c text ls up v enough few U (boxes a) e is_said refl 3 refl (rw (people_is P n (house_at s c) v U, t)) (rw t)

  abbrev rows : List (List ℕ)
  rows = each box_row (person_at (house_at s c).people a).boxes

  the_turn : ltb a (length (house_at s c).people) ≡ true → turn (length s) c (house_at s c) (boxes a) ≡ yes rows (house_at s c)
  unfolding turn
  the_turn t = rw t

  the_rows : ltb a (length (house_at s c).people) ≡ true → rows ≡ rows_from (get_or U.header 3 0) U.dir a 0
  the_rows t =
      let z : get_or U.header 3 0 ≡ get_or U.header 3 0 - 0 = omega arith in
      ap (each box_row) (own_boxes P n (house_at s c) v U a (ltb-true a (length (house_at s c).people) t))
      ∙ ap (λ k. each box_row (each (box_of U.dir) (those (owns U.dir a) (count_up 0 k)))) z

  begins : ltb a (length (house_at s c).people) ≡ true → own.step v.memory (said text) ≡ shows_boxes P a 0 v.memory
  unfolding obeys
  begins t = obeys_said P n s c text ls up v enough few U (boxes a) (shows_boxes P a 0 v.memory) e (rw (people_is P n (house_at s c) v U, t))

  may_show : turn (length s) c (house_at s c) (boxes a) ≡ yes rows (house_at s c) → May known P s c text ls up rows 0 (set_house s c (house_at s c))
  unfolding May TurnMay also nothing
  may_show t = inl (boxes a, is_said, refl, inl (known_no_push (boxes a) refl, inl (sym (ap (λ z. z.reply) t), sym (ap (λ z. z.shows) t), sym (ap (λ z. set_house s c z.next) t))))

  somebody_there : ltb a (length (house_at s c).people) ≡ true → Does P n s c text ls up v
  somebody_there t =
      let shown = shows_on P n s c text v enough few U a (fits_boxes text a is_said) is_said rows (ap (λ z. z.shows) (the_turn t))
      (get_or U.header 3 0) 0 (said text) Idle v.memory [] (omega arith) (omega arith) U.memory_is (begins t) (the_rows t) in
      (house_at s c, in_memory v shown.0, rows, 0, may_show (the_turn t), shown.1, still_up P n (house_at s c) v shown.0 U shown.2)

  pub does_boxes : Does P n s c text ls up v
  does_boxes = elim (cases_Bool (ltb a (length (house_at s c).people))) [ inl t ↦ somebody_there t | inr t ↦ nobody t ]
