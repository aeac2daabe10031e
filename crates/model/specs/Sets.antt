-- Two more claims on sets that have heard a list of calls: their stores are sound, and the conditions of demand 3 can be met.
-- The proofs are `stay-sound` and `can-be-met` in proofs/Sets.antt.
use Rattle.std.specs.Prelude.{◌≡◌, true, List, get_or}
use Rattle.model.specs.Refusals.{bank_refusal}
use Rattle.model.specs.Gate.{Gate}
use Rattle.model.specs.GateStores.{gate_of}
use Rattle.model.specs.GateCalls.{absent, gate_refusal}
use Rattle.model.specs.MapCalls.{map_refusal}
use Rattle.model.specs.GoodBank.{Good}
use Rattle.model.specs.GoodGate.{GoodGate}
use Rattle.model.specs.Worst.{Worst, worst_of}
use Rattle.model.specs.WorstCalls.{worst_refusal}
use Rattle.model.specs.GoodWorst.{GoodWorst}
use Rattle.model.specs.Demand3.{Call, Stores, Lent, left_by, bank_in, Making, made, Made, Enough}

abbrev pub gate_in : Stores → Gate
gate_in s = gate_of s.gu s.gf

abbrev pub worst_in : Stores → Worst
worst_in s = worst_of s.wu s.wf

-- no store is refused, with 2 or with 9, and all hold what is sound; R-6: the bank's n is that of the store beside it, so no call that carries it
-- is refused with 8; R-12: the map is one for the gate's n
pub record Sound (s : Stores) : Type 0 where
  pub bank_passes : bank_refusal s.bu s.bf ≡ 0
  pub bank_good : Good (bank_in s)
  pub gate_passes : gate_refusal s.gu s.gf ≡ 0
  pub gate_good : GoodGate (gate_in s)
  pub worst_passes : worst_refusal s.wu s.wf ≡ 0
  pub worst_good : GoodWorst (worst_in s)
  pub worst_n : (worst_in s).n ≡ (bank_in s).n
  pub map_passes : map_refusal (get_or s.gu 0 0) s.map ≡ 0

-- whatever the calls, refused or not, a set that was fresh is sound
abbrev pub StaySound : Type 0
StaySound = (k : Making) (p : Lent) → Made k p → (cs : List Call) → Sound (left_by (made k p) cs)

-- there is a set, early rise absent, and a list of calls after which demand 3 speaks of its floors and its rises
abbrev pub CanBeMet : Type 0
CanBeMet = (k : Making) × (p : Lent) × (fs : List Call) × Made k p × (absent k.early ≡ true) × Enough k.n 0 (made k p) fs
