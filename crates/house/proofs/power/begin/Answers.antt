-- Each test that fails is one of those that the definition asks for.
use Rattle.std.proofs.Common.{[], ◌∷◌, sym, refl, ap, ◌∙◌, arith}
use Rattle.pages.specs.Words.{patched}
use Rattle.pages.proofs.Words.{patched_next}
use Rattle.house.proofs.Acts.{quietly_as, refused_quietly, told_read}
use Rattle.house.proofs.Powers.{power_taken, power_no_house, power_no_size}
use Rattle.house.proofs.Registers.{identity_registers}
use Rattle.house.proofs.power.begin.Goals as goal

pub returns-then-house-houses : goal.returns-then-house-houses
returns-then-house-houses c =
    refused_quietly c.args.memory.now 1 1 refl (power_no_house c.args.identity.house c.args.identity.houses c.args.identity.pages c.args.memory.now (omega arith) c.then-house-houses.either)

pub returns-then-is_none : goal.returns-then-is_none
returns-then-is_none c =
    refused_quietly c.args.memory.now 1 1 refl
    (power_no_size c.args.identity.house c.args.identity.houses c.args.identity.pages c.args.memory.now (omega arith) (omega arith) (omega arith) (sym c.of.ensures.known ∙ c.if-is_none.ensures))

pub returns : goal.returns
returns c =
    let m = c.args.memory.now in
    let told = c.args.identity.house ∷ c.args.identity.houses ∷ c.args.identity.pages ∷ 0 ∷ [] in
    quietly_as _ _ (power_taken c.args.identity.house c.args.identity.houses c.args.identity.pages m (omega arith) (omega arith) (omega arith) (sym c.of.ensures.known ∙ c.if-is_none.ensures)) (
      identity_registers c.store.new.memory c.args.identity.house c.args.identity.houses c.args.identity.pages 0 (omega arith)
          ∙ ap (λ l. patched l 3 told) c.store.ensures ∙ patched_next m 0 (1 ∷ 0 ∷ 0 ∷ []) told (omega arith),
      told_read 0 0 refl,
    )
