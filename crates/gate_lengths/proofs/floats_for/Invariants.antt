-- `gate_lengths::floats_for`: the floats of the first i lengths, which are few enough for the sum to fit.
use Rattle.std.proofs.Common.{◌≡◌, ◌≤◌, ◌+◌, ◌*◌}
use Rattle.gate_lengths.specs.Makes.{floats_before}
use Rattle.gate_lengths.proofs.Distinct.{first_of}
use Rattle.gate_lengths.proofs.floats_for.Given as goal

abbrev pub invariant-loop-i : goal.invariant-loop-i
invariant-loop-i l = record {
  so_far : l.floats ≡ floats_before l.n (first_of l.lengths l.i);
  fits : l.floats ≤ 512 + 385024 * l.i;
}
