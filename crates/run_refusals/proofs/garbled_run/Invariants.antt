use Rattle.std.proofs.Common.{◌≡◌, ◌<◌}
use Rattle.model.specs.Layout.{decimation_hops}
use Rattle.run_refusals.proofs.Refuses.{left_of}
use Rattle.run_refusals.proofs.garbled_run.Given as goal

-- the hops are cut by n, the phase of the next one, and what is left to ask
abbrev pub invariant-loop-hop : goal.invariant-loop-hop
invariant-loop-hop l = record {
  by_n : l.hop-iterator.size ≡ l.n;
  phased : l.p < decimation_hops;
  left : left_of l.n l.phase l.power_db ≡ left_of l.n l.p l.hop-iterator.rest.now;
}
