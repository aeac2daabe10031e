-- `gate_marks::mark_levels`: the first k marks are written.
use Rattle.std.proofs.Common.{List, ℕ}
use lib.Ieee.{Float}
use Rattle.laws.specs.Lists.{one}
use Rattle.laws.proofs.Fills.{Filled}
use Rattle.model.specs.Stores.{bank_of}
use Rattle.model.specs.Gate.{early_rise, is_drop_at}
use Rattle.model.specs.GateStores.{gate_of}
use Rattle.gate_marks.proofs.mark_levels.Given as goal

-- the marks of channel k
abbrev pub rise_of : List ℕ → List Float → List ℕ → List Float → ℕ → ℕ
rise_of bu bf gu gf k = one (early_rise (gate_of gu gf) (bank_of bu bf) k)

abbrev pub drop_of : List ℕ → List Float → List ℕ → List Float → ℕ → ℕ
drop_of bu bf gu gf k = one (is_drop_at (gate_of gu gf) (bank_of bu bf) k)

abbrev pub invariant-loop-k : goal.invariant-loop-k
invariant-loop-k l = record {
  rises : Filled l.fn.rise (rise_of l.bank l.bank_f l.gate l.gate_f) l.k l.rise;
  drops : Filled l.fn.drop (drop_of l.bank l.bank_f l.gate l.gate_f) l.k l.drop;
}
