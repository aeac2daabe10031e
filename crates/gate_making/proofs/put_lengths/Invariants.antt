use Rattle.std.proofs.Common.{◌≡◌}
use Rattle.gate_lengths.specs.Makes.{with_lengths}
use Rattle.gate_lengths.proofs.Distinct.{first_of}
use Rattle.gate_making.proofs.put_lengths.Given as goal

abbrev pub invariant-loop-i : goal.invariant-loop-i
invariant-loop-i l = l.gate ≡ with_lengths l.fn.gate (first_of l.lengths l.i)
