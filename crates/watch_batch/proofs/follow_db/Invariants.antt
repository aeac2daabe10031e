-- `watch_batch::follow_db` meets its contract. Assumes nothing.
use Rattle.std.proofs.Common.{List, ℕ, get_or}
use Rattle.std.specs.Float.{Float}
use Rattle.model.specs.Numbers.{f0}
use Rattle.model.specs.Gate.{db_after}
use Rattle.laws.proofs.Fills.{Filled}
use Rattle.watch_batch.proofs.follow_db.Given as goal

abbrev pub entry : ℕ → List Float → List Float → ℕ → Float
entry started s db k = db_after started (get_or s k f0) (get_or db k f0)

abbrev pub invariant-loop-k : goal.invariant-loop-k
invariant-loop-k l = Filled l.initial.smooth (entry l.started l.initial.smooth l.db) l.k l.smooth
