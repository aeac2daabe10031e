-- What a hop makes of a bank and a gate: the bank takes it, the reference held where static is heard, and then the gate, which holds instead. The
-- bank's update carries the store of the worst floor of late (document 02, R-6), if it is kept.
use Rattle.std.specs.Prelude.{Bool, true, false, List, ℕ, zero, suc, Float}
use Rattle.model.specs.Bank.{hop}
use Rattle.model.specs.GateCalls.{GateHop, gate_update_call, gate_hold_call}
use Rattle.model.specs.WorstCalls.{update_if}

-- the gate's answer, its two stores, rise and drop
abbrev pub Gated : Type 0
Gated = ℕ × List ℕ × List Float × List ℕ × List ℕ

-- with static heard it holds, and its u16 store stays
unfoldable pub gate_judged : Bool → List ℕ → List Float → List ℕ → List Float → GateHop → List ℕ → List ℕ → Gated
gate_judged true bu bf gu gf h rise drop = let a = gate_hold_call bu bf gu gf rise drop in (a.0, gu, a.1, a.2, a.3)
gate_judged false bu bf gu gf h rise drop = gate_update_call bu bf gu gf h rise drop

-- the answer, the bank's two stores, those of the worst floor, the gate's, rise and drop
abbrev pub Judged : Type 0
Judged = ℕ × List ℕ × List Float × List ℕ × List Float × List ℕ × List Float × List ℕ × List ℕ

abbrev pub beside : List ℕ → List Float → List ℕ → List Float → Gated → Judged
beside bu bf wu wf g = (g.0, bu, bf, wu, wf, g.1, g.2, g.3, g.4)

-- by the bank's answer: a hop that it refuses does not come to the gate
abbrev pub after : Bool → ℕ → List ℕ → List Float → List ℕ → List Float → List ℕ → List Float → GateHop → List ℕ → List ℕ → Judged
after heard zero bu bf wu wf gu gf h rise drop = beside bu bf wu wf (gate_judged heard bu bf gu gf h rise drop)
after heard (suc r) bu bf wu wf gu gf h rise drop = (suc r, bu, bf, wu, wf, gu, gf, rise, drop)

unfoldable pub judged : Bool → Bool → List ℕ → List Float → List ℕ → List Float → List ℕ → List Float → GateHop → List ℕ → List ℕ → Judged
judged carries heard bu bf wu wf gu gf h rise drop =
    let b = update_if carries bu bf wu wf (hop heard h.db h.power) in
    after heard b.0 b.1 b.2 b.3 b.4 gu gf h rise drop
