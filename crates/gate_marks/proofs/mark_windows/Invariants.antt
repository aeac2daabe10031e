-- `gate_marks::mark_windows`: the first j lengths are tested, and `at` is where length j begins.
use Rattle.std.proofs.Common.{◌≡◌, length}
use Rattle.laws.specs.Lists.{tab}
use Rattle.model.proofs.GateStores.{start_at}
use Rattle.gate_marks.proofs.Marks.{mark_after}
use Rattle.gate_marks.proofs.mark_windows.Given as goal

abbrev pub invariant-loop-j : goal.invariant-loop-j
invariant-loop-j l = record {
  place : l.at ≡ start_at l.gate l.j;
  as_long : length l.rise ≡ length l.fn.rise;
  tested : l.rise ≡ tab (length l.fn.rise) (mark_after l.gate l.gate_f l.fn.rise l.j);
}
