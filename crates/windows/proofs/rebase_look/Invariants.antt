-- `windows::rebase_look`: the first k channels' sums are taken afresh.
use Rattle.std.proofs.Common.{◌≡◌, length}
use Rattle.windows.specs.Looks.{looks_in}
use Rattle.windows.proofs.Loops.{rebased_to}
use Rattle.windows.proofs.rebase_look.Given as goal

abbrev pub invariant-loop-k : goal.invariant-loop-k
invariant-loop-k l = record {
  afresh : l.look ≡ rebased_to (looks_in l.fn.look l.fn.c l.n) l.k;
  as_long : length l.look ≡ length l.fn.look;
}
