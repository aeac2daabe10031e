-- `windows::push_look`: the first k channels have taken their samples.
use Rattle.std.proofs.Common.{◌≡◌, length}
use Rattle.windows.specs.Looks.{looks_in, sample_at}
use Rattle.windows.proofs.Loops.{pushed_to}
use Rattle.windows.proofs.push_look.Given as goal

abbrev pub invariant-loop-k : goal.invariant-loop-k
invariant-loop-k l = record {
  taken : l.look ≡ pushed_to (sample_at l.samples) (looks_in l.fn.look l.fn.c (length l.samples)) l.k;
  as_long : length l.look ≡ length l.fn.look;
}
