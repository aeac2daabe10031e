use Rattle.bank_sixteens.specs.Rows.{front_of, behind_of, Added}
use Rattle.bank_sixteens.proofs.count_rows.Given as goal

abbrev pub invariant-loop-i : goal.invariant-loop-i
invariant-loop-i l = Added l.one l.i (front_of l.eight) l.initial.t.front l.t.front × Added l.one l.i (behind_of l.eight) l.initial.t.behind l.t.behind
