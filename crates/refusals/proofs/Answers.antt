-- What the number of a refusal says of the call that answers it. Assumes nothing.
use mathlib.Core.Path.{◌≡◌}
use native.Mathlib.Omega.{arith}
use Rattle.std.proofs.lemmas.Grind.{common_steps}
use Rattle.refusals.specs.Numbers.{number_of}
use Rattle.refusals.specs.declared.Refusal.{Refusal}

-- no refusal has the number of none
pub refuses : (e : Refusal) → number_of e ≡ 0 → ⊥
refuses e h = grind (arith, common_steps)
