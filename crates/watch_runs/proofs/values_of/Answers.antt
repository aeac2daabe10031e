-- `watch_runs::values_of`: fifteen hops of 512 channels are the most. Assumes nothing.
use Rattle.std.proofs.Common.{◌≡◌, ◌*◌, ◌≤◌, refl, arith}
use native.Mathlib.Nat.{mul-le-mul_left}
use Rattle.watch_runs.proofs.values_of.Goals as goal

pub overflow_mul-result : goal.overflow_mul-result
overflow_mul-result c = omega (arith, c.requires.0, mul-le-mul_left c.args.k c.requires.1)

pub returns : goal.returns
returns c = (refl, omega (arith, c.requires.0, mul-le-mul_left c.args.k c.requires.1))
