use lib.Ieee.{Float}
use Rattle.std.proofs.Common.{ℕ, ◌+◌, ◌*◌, List}
use Rattle.laws.proofs.Fills.{Filled}
use Rattle.low_first.specs.LowFirst.{double_at}
use Rattle.watch_recording.proofs.fill_db.Given as goal

abbrev pub db_of : List ℕ → ℕ → Float
db_of hop k = double_at hop (1 + 8 * k)

abbrev pub invariant-loop-k : goal.invariant-loop-k
invariant-loop-k l = Filled l.initial.db (db_of l.hop) l.k l.db
