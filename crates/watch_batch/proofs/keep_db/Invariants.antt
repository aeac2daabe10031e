-- `watch_batch::keep_db` meets its contract. Assumes nothing.
use Rattle.std.proofs.Common.{List, ℕ, get_or}
use Rattle.std.specs.Float.{Float}
use Rattle.model.specs.Numbers.{f0}
use Rattle.laws.proofs.Fills.{Filled}
use Rattle.watch_batch.proofs.keep_db.Given as goal

abbrev pub entry : List Float → ℕ → Float
entry f k = get_or f k f0

abbrev pub invariant-loop-k : goal.invariant-loop-k
invariant-loop-k l = Filled l.initial.smooth (entry l.gate_f) l.k l.smooth
