-- `watch_log::fill` meets its contract. Assumes nothing.
use Rattle.std.proofs.Common.{get_or}
use Rattle.laws.proofs.Fills.{Filled}
use Rattle.watch_log.proofs.fill.Given as goal

abbrev pub invariant-loop-k : goal.invariant-loop-k
invariant-loop-k g l = Filled l.initial.values (λ k. g.of (get_or l.bits k l.zero)) l.k l.values
