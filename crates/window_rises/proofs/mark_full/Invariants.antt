-- `window_rises::mark_full`: the first k channels are tested.
use Rattle.std.proofs.Common.{List, ℕ, get_or}
use lib.Ieee.{Float, binary64, mul}
use Rattle.laws.proofs.Fills.{Filled}
use Rattle.model.specs.Numbers.{f0}
use Rattle.window_rises.specs.Marking.{marked, sums_rise}
use Rattle.window_rises.proofs.mark_full.Given as goal

-- the mark of channel k
abbrev pub mark_of : List Float → List Float → List Float → Float → List ℕ → ℕ → ℕ
mark_of recent previous thresholds m rise k = marked (get_or rise k 0) (sums_rise recent previous k (mul binary64 (get_or thresholds k f0) m))

abbrev pub invariant-loop-k : goal.invariant-loop-k
invariant-loop-k l = Filled l.fn.rise (mark_of l.recent l.previous l.thresholds l.m l.fn.rise) l.k l.rise
