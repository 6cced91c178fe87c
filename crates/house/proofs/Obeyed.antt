-- Every command at a house at rest, given that join and new box are kept where there is room.
use Rattle.std.proofs.Common.{◌≡◌, ℕ, ◌≤◌, Bool, false, List, Some, refl, inl, inr}
use Rattle.model.specs.House.{Command, join, hand_in, boxes, new_box, drop_box, list, get, set_mark, to_box, clear, rules, find, push, Plain, house_at}
use Rattle.model.specs.Run.{World}
use Rattle.model.specs.Promise.{Said}
use Rattle.model.specs.Known.{also, nothing}
use Rattle.commands.specs.Reader.{command_of}
use Rattle.commands.proofs.Commands.{said_or_not}
use Rattle.house.proofs.Rest.{Up}
use Rattle.house.specs.Knows.{known}
use Rattle.house.proofs.Does.{Does}
use Rattle.house.proofs.Refusals.{no_command, unknown_command}
use Rattle.house.proofs.Shows.{does_boxes}
use Rattle.house.proofs.Asked.{CanJoin, CanMakeBox, join_asked, new_box_asked}

module _ (P n : ℕ) (s : Plain) (c : ℕ) (text : List ℕ) (ls : ℕ) (up : Bool) (v : World) (enough : 256 ≤ P) (few : n ≤ 16) (U : Up P n (house_at s c) v)
    (joins : (nm : List ℕ) → Said text (join nm) → CanJoin P n s c text v U nm → Does P n s c text ls up v)
    (makes_box : (a : ℕ) (nm : List ℕ) → Said text (new_box a nm) → CanMakeBox P n s c text v U a nm → Does P n s c text ls up v) where
  unknown : (a : Command) → command_of text ≡ Some a → Said text a → known a ≡ false → Does P n s c text ls up v
  unknown = unknown_command P n s c text ls up v enough few U

  obeyed_one : (a : Command) → command_of text ≡ Some a → Said text a → Does P n s c text ls up v
  unfolding also nothing
  obeyed_one (join nm) e t = elim (join_asked P n s c text ls up v enough few U nm e t) [ inl d ↦ d | inr r ↦ joins nm t r ]
  obeyed_one (hand_in d a bs) e t = unknown (hand_in d a bs) e t refl
  obeyed_one (boxes a) e t = does_boxes P n s c text ls up v enough few U a e t
  obeyed_one (new_box a nm) e t = elim (new_box_asked P n s c text ls up v enough few U a nm e t) [ inl d ↦ d | inr r ↦ makes_box a nm t r ]
  obeyed_one (drop_box a nm) e t = unknown (drop_box a nm) e t refl
  obeyed_one (list a nm i k) e t = unknown (list a nm i k) e t refl
  obeyed_one (get a nm i j k) e t = unknown (get a nm i j k) e t refl
  obeyed_one (set_mark a nm i k b) e t = unknown (set_mark a nm i k b) e t refl
  obeyed_one (to_box a nm i o) e t = unknown (to_box a nm i o) e t refl
  obeyed_one (clear a nm) e t = unknown (clear a nm) e t refl
  obeyed_one (rules a rs) e t = unknown (rules a rs) e t refl
  obeyed_one (find a nm q) e t = unknown (find a nm q) e t refl
  obeyed_one (push d) e t = unknown (push d) e t refl

  pub does_any : Does P n s c text ls up v
  does_any = elim (said_or_not text) [ inl r ↦ obeyed_one r.0 r.1 r.2 | inr r ↦ no_command P n s c text ls up v enough few U r.0 r.1 ]
