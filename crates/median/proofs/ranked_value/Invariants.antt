-- None of the entries before x stands at the rank.
use Rattle.median.proofs.Ranks.{Search}
use Rattle.median.proofs.ranked_value.Given as goal

abbrev pub invariant-loop-x : goal.invariant-loop-x
invariant-loop-x l = Search l.rank l.l l.x-index
