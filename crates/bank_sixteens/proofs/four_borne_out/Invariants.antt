use Rattle.std.proofs.Common.{◌≡◌}
use Rattle.laws.specs.Tests.{all_below}
use Rattle.bank_sixteens.specs.Rows.{row_borne_out, ClearedTo}
use Rattle.bank_sixteens.proofs.four_borne_out.Given as goal

abbrev pub invariant-loop-b : goal.invariant-loop-b
invariant-loop-b l = (l.all ≡ all_below l.b (row_borne_out l.first l.second l.initial.t)) × ClearedTo l.b l.initial.t l.t
