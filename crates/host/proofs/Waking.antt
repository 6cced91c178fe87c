-- The memory of a house that gets power.
use Rattle.std.proofs.Common.{◌≡◌, ℕ, List, replicate, ap, ◌∙◌, subst}
use Rattle.model.specs.Device.{zeros}
use Rattle.model.specs.Run.{Event}
use Rattle.house.specs.declared.Told.{Told}
use Rattle.house.specs.Machine.{own}
use Rattle.house.proofs.Writes.{replicate_zeros}
use Rattle.host.specs.Goes.{ToldBy}

-- so many zeros as the memory has numbers are the memory of a house without power
pub at_start : (m : List ℕ) (n : ℕ) → m ≡ replicate n 0 → n ≡ 262144 → m ≡ own.start
unfolding own
at_start m n e k = e ∙ replicate_zeros n ∙ ap zeros k

-- told where the memory is that one
pub woken : (m row : List ℕ) (ev : Event) (told : Told) (m₁ row₁ : List ℕ) → m ≡ own.start → ToldBy m row ev told m₁ row₁ → ToldBy own.start row ev told m₁ row₁
woken m row ev told m₁ row₁ e t = subst (λ x. ToldBy x row ev told m₁ row₁) e t
