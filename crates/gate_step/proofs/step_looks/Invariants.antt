-- `gate_step::step_looks`: the first j lengths have had their hop, and `at` is where length j begins.
use Rattle.std.proofs.Common.{◌≡◌}
use Rattle.model.proofs.GateStores.{start_at}
use Rattle.gate_step.proofs.Looks.{looks_u, looks_f}
use Rattle.gate_step.proofs.Turns.{hop_of}
use Rattle.gate_step.proofs.step_looks.Given as goal

abbrev pub invariant-loop-j : goal.invariant-loop-j
invariant-loop-j l = record {
  place : l.at ≡ start_at l.fn.gate l.j;
  u16s : l.gate ≡ looks_u l.fn.gate l.fn.gate_f (hop_of l.fn.gate l.samples) l.j;
  floats : l.gate_f ≡ looks_f l.fn.gate l.fn.gate_f (hop_of l.fn.gate l.samples) l.j;
}
