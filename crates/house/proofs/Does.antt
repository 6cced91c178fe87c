-- What is owed of one command at one house that has power: how it ends, the acts on the way, and that the house is at rest again.
use Rattle.std.proofs.Common.{ℕ, Bool, List, []}
use Rattle.model.specs.House.{House, Plain, set_house}
use Rattle.model.specs.Device.{Device, stopped}
use Rattle.model.specs.Run.{said, World}
use Rattle.model.specs.Promise.{May, Mid}
use Rattle.house.specs.Knows.{known}
use Rattle.house.specs.Machine.{own}
use Rattle.house.proofs.Course.{Course}
use Rattle.house.proofs.Rest.{Down, Up}

-- what is left if power stops: pages that stand for a house as it may be then
abbrev pub SafeAt : (P n : ℕ) → Plain → ℕ → List ℕ → Device → List (List ℕ) → Type 0
SafeAt P n s c text d rs = (cs : List ℕ) → (g : House) × Mid known s c text rs (set_house s c g) × Down P n g (stopped d cs)

abbrev pub Does : (P n : ℕ) → Plain → ℕ → List ℕ → ℕ → Bool → World → Type 0
Does P n s c text ls up v =
    (g : House) × (w : World) × (ss : List (List ℕ)) × (end : ℕ)
    × May known P s c text ls up ss end (set_house s c g)
    × Course own (SafeAt P n s c text) w ss end v (said text) []
    × Up P n g w
