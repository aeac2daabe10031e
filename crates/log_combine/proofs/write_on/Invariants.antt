-- The first `j` hops are written, and both logs stand behind them.
use Rattle.std.proofs.Common.{◌≡◌}
use Rattle.laws.specs.Lists.{tab, joined}
use Rattle.log_hops.specs.Put.{put}
use Rattle.log_combine.proofs.InStep.{Walk, chosen_hop}
use Rattle.log_combine.proofs.write_on.Given as goal

abbrev pub invariant-loop : goal.invariant-loop
invariant-loop l =
    (l.log ≡ put 2 (joined (tab l.counter (chosen_hop l.first l.second))) l.initial.log)
    × Walk l.first l.second l.hops l.at.first l.at.second l.len l.counter l.d l.p l.e l.q l.db l.power
