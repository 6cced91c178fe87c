-- Commands that a house refuses: bytes that are no command, commands that it does not know, and those that its people and boxes do not allow. Nothing changes.
use Rattle.std.proofs.Common.{◌≡◌, ℕ, ◌*◌, ◌<◌, ◌≤◌, Bool, true, false, List, [], length, Some, None, sym, refl, ap, ◌∙◌, subst, inl, inr}
use mathlib.Core.Bool.{false≢true}
use Rattle.model.specs.House.{Command, join, hand_in, boxes, new_box, drop_box, list, get, set_mark, to_box, clear, rules, find, push, House, Plain, turn, no, weight, house_at, set_house}
use Rattle.model.specs.Device.{Device, left, stopped}
use Rattle.model.specs.Run.{said, Step, World, in_memory, refusal_end}
use Rattle.model.specs.Promise.{May, Mid, TurnMay, Said, Never, NoPush}
use Rattle.model.specs.Known.{also, nothing}
use Rattle.commands.specs.Reader.{command_of}
use Rattle.house.specs.declared.phase.Phase.TheVariants.{Idle}
use Rattle.house.specs.Machine.{own, refuse, obeys, said_told}
use Rattle.house.proofs.Course.{refuses}
use Rattle.house.proofs.Places.{house_back}
use Rattle.house.proofs.Rest.{Down, Up}
use Rattle.house.proofs.Steps.{step_said, up_fit}
use Rattle.house.specs.Knows.{known}
use Rattle.house.proofs.Does.{SafeAt, Does}

-- a stop while nothing waits to be written leaves the pages as they are
left_still : (d : Device) (cs : List ℕ) → d.queue ≡ [] → left d.pages d.queue cs ≡ d.pages
unfolding left
left_still d cs e = rw e

pub stays_down : (P n : ℕ) (h : House) (d : Device) (cs : List ℕ) → Down P n h d → Down P n h (stopped d cs)
stays_down P n h d cs D =
    let e = left_still d cs D.still in
    record { image = D.image; kept = rw e D.kept; whole_pages = rw e D.whole_pages; still = refl; stored = D.stored }

-- nothing is written: a stop leaves the house as it was
pub unchanged : (P n : ℕ) (s : Plain) (c : ℕ) (text : List ℕ) (v : World) (U : Up P n (house_at s c) v) (rs : List (List ℕ)) → Mid known s c text rs s → SafeAt P n s c text v.device rs
unchanged P n s c text v U rs m cs =
    (house_at s c, subst (λ z. Mid known s c text rs z) (sym (house_back s c)) m, stays_down P n (house_at s c) v.device cs U.down)

pub known_no_push : (a : Command) → known a ≡ true → NoPush a
unfolding NoPush also nothing
known_no_push a k d e = absurd (false≢true (subst (λ z. known z ≡ true) e k))

-- what a house does not know it refuses with 2
unknown_refused : (P : ℕ) (a : Command) (m : List ℕ) → known a ≡ false → obeys P (Some a) m ≡ refuse 2 m
unfolding obeys also nothing
unknown_refused P (join nm) m k = absurd (false≢true (sym k))
unknown_refused P (hand_in d a bs) m k = refl
unknown_refused P (boxes a) m k = absurd (false≢true (sym k))
unknown_refused P (new_box a nm) m k = absurd (false≢true (sym k))
unknown_refused P (drop_box a nm) m k = refl
unknown_refused P (list a nm i j) m k = refl
unknown_refused P (get a nm i j l) m k = refl
unknown_refused P (set_mark a nm i j v) m k = refl
unknown_refused P (to_box a nm i o) m k = refl
unknown_refused P (clear a nm) m k = refl
unknown_refused P (rules a rs) m k = refl
unknown_refused P (find a nm t) m k = refl
unknown_refused P (push d) m k = refl

module _ (P n : ℕ) (s : Plain) (c : ℕ) (text : List ℕ) (ls : ℕ) (up : Bool) (v : World) (enough : 256 ≤ P) (few : n ≤ 16) (U : Up P n (house_at s c) v) where
  nothing_shown : Mid known s c text [] s
  unfolding Mid
  nothing_shown = inl (refl, inl refl)

  -- refused, and nothing changes
  pub refused_so : (k : ℕ) → refusal_end k ≡ k → own.step v.memory (said text) ≡ refuse k v.memory → May known P s c text ls up [] k s → Does P n s c text ls up v
  refused_so k small e may = (
    house_at s c,
    v,
    [],
    k,
    subst (λ z. May known P s c text ls up [] k z) (sym (house_back s c)) may,
    refuses k (unchanged P n s c text v U [] nothing_shown) (ap (λ z. z.act) e) (ap (λ z. in_memory v z.memory) e) (sym small),
    U,
  )

  pub obeyed : own.step v.memory (said text) ≡ obeys P (command_of text) v.memory
  unfolding said_told
  obeyed = step_said P n U.house_number U.shown Idle U.header U.counting U.coming U.dir v.memory U.memory_is (up_fit P n (house_at s c) v enough few U) text

  pub obeys_said : (a : Command) (z : Step) → command_of text ≡ Some a → obeys P (Some a) v.memory ≡ z → own.step v.memory (said text) ≡ z
  obeys_said a z e o = obeyed ∙ ap (λ r. obeys P r v.memory) e ∙ o

  -- bytes that are no command
  pub no_command : command_of text ≡ None → ((a : Command) → Said text a → Never) → Does P n s c text ls up v
  unfolding May obeys
  no_command e none = refused_so 1 refl (obeyed ∙ ap (λ r. obeys P r v.memory) e) (inr (inr (none, refl, refl, refl)))

  -- a command that is not known
  pub unknown_command : (a : Command) → command_of text ≡ Some a → Said text a → known a ≡ false → Does P n s c text ls up v
  unfolding May
  unknown_command a e is_said k = refused_so 2 refl (obeys_said a (refuse 2 v.memory) e (unknown_refused P a v.memory k)) (inr (inl (a, is_said, k, refl, refl, refl)))

  -- a command that is known
  module _ (a : Command) (e : command_of text ≡ Some a) (is_said : Said text a) (k : known a ≡ true) where
    -- one that the plain house refuses, too
    pub turned_down : (r : ℕ) → refusal_end r ≡ r → obeys P (Some a) v.memory ≡ refuse r v.memory → turn (length s) c (house_at s c) a ≡ no r (house_at s c) → Does P n s c text ls up v
    unfolding May TurnMay
    turned_down r small o t =
        refused_so r small (obeys_said a (refuse r v.memory) e o)
        (inl (a, is_said, k, inl (known_no_push a k, inl (sym (ap (λ z. z.reply) t), sym (ap (λ z. z.shows) t), sym (ap (λ z. set_house s c z.next) t ∙ house_back s c)))))

    -- one that there is no room for
    pub too_heavy : obeys P (Some a) v.memory ≡ refuse 8 v.memory → (turn (length s) c (house_at s c) a).reply ≡ 0
        → weight (house_at s c) < weight (turn (length s) c (house_at s c) a).next → 128 * P < weight (turn (length s) c (house_at s c) a).next → Does P n s c text ls up v
    unfolding May TurnMay
    too_heavy o t more heavy =
        refused_so 8 refl (obeys_said a (refuse 8 v.memory) e o) (inl (a, is_said, k, inl (known_no_push a k, inr (refl, refl, refl, t, more, heavy))))
