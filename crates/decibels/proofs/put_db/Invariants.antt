-- The first k entries are written.
use Rattle.std.proofs.Common.{get_or}
use Rattle.laws.proofs.Fills.{Filled}
use Rattle.model.specs.Numbers.{f0}
use Rattle.model.specs.Decibels.{power_db}
use Rattle.decibels.proofs.put_db.Given as goal

abbrev pub invariant-loop-k : goal.invariant-loop-k
invariant-loop-k l = Filled l.fn.db (λ k. power_db (get_or l.power k f0)) l.k l.db
