use lib.Ieee.{Float}
use Rattle.std.proofs.Common.{ℕ, ◌+◌, ◌*◌, List}
use Rattle.laws.proofs.Fills.{Filled}
use Rattle.low_first.specs.LowFirst.{single_at}
use Rattle.watch_recording.proofs.fill_power.Given as goal

abbrev pub power_of : List ℕ → ℕ → ℕ → Float
power_of hop n k = single_at hop (1 + 8 * n + 4 * k)

abbrev pub invariant-loop-k : goal.invariant-loop-k
invariant-loop-k l = Filled l.initial.power (power_of l.hop l.n) l.k l.power
