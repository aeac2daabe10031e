-- The gate as it was before R-3: it remembers nothing, and works the ladder out at each judgement. The pairs in its stores are neither read
-- nor written. It carries no map (R-12): each call is to it as one without, and the map beside it stays as it was made. Only the theorem
-- `AsAnew` (Remembered) speaks of it.
use Rattle.std.specs.Prelude.{Bool, not, ◌&&◌, ◌||◌, List, [], ◌∷◌, ℕ, zero, suc, eqb, length, Float}
use Rattle.laws.specs.Lists.{tab, one}
use Rattle.model.specs.Bank.{FloorBank}
use Rattle.model.specs.Readings.{rise_at}
use Rattle.model.specs.Stores.{bank_of}
use Rattle.model.specs.Windows.{any_rises}
use Rattle.model.specs.Gate.{Gate, threshold_of, gate_step, early_rise, drop_bytes}
use Rattle.model.specs.GateStores.{gate_of}
use Rattle.model.specs.GateCalls.{GateHop, gate_update_refusal, hold_refusal, gate_leaves}
use Rattle.model.specs.MapCalls.{map_write_call}
use Rattle.model.specs.WorstCalls.{update_if}
use Rattle.model.specs.Demand3.{Asked, Call, bank, gate, hold, write, Stores, unless_stopped, marks_before}

unfoldable pub window_rise_anew : Gate → FloorBank → ℕ → Bool
window_rise_anew g b k = any_rises g.n (threshold_of g (rise_at b k)) k g.looks

unfoldable pub rise_bytes_anew : Gate → FloorBank → List ℕ
rise_bytes_anew g b = tab g.n (λ k. one (not (eqb g.started 0) && (early_rise g b k || window_rise_anew g b k)))

abbrev pub marks_anew : ℕ → Gate → FloorBank → List ℕ → List ℕ → List ℕ × List ℕ
marks_anew zero g b rise drop = (rise_bytes_anew g b, drop_bytes g b)
marks_anew (suc r) g b rise drop = (rise, drop)

-- a gate update: the answer, the gate's two stores, rise and drop
unfoldable pub gate_update_anew : List ℕ → List Float → List ℕ → List Float → GateHop → List ℕ → List ℕ
    → ℕ × List ℕ × List Float × List ℕ × List ℕ
gate_update_anew bu bf gu gf h rise drop =
    let r = gate_update_refusal bu bf gu gf (length h.db) (length h.power) (length rise) (length drop) in
    let g = gate_step (gate_of gu gf) h.db h.power in
    let left = gate_leaves r g gu gf in
    let marks = marks_anew r g (bank_of bu bf) rise drop in
    (left.0, left.1, left.2, marks.0, marks.1)

-- a hold: the answer, rise and drop; all stores stay
unfoldable pub gate_hold_anew : List ℕ → List Float → List ℕ → List Float → List ℕ → List ℕ → ℕ × List ℕ × List ℕ
gate_hold_anew bu bf gu gf rise drop =
    let r = hold_refusal bu bf gu gf (length rise) (length drop) in
    let marks = marks_anew r (gate_of gu gf) (bank_of bu bf) rise drop in
    (r, marks.0, marks.1)

-- the stores that a call leaves
unfoldable pub done_anew : Stores → Asked → Stores
done_anew s (bank c h) =
    let a = update_if c s.bu s.bf s.wu s.wf h in
    record { bu = a.1; bf = a.2; gu = s.gu; gf = s.gf; wu = a.3; wf = a.4; map = s.map }
done_anew s (gate c h rise drop) =
    let a = gate_update_anew s.bu s.bf s.gu s.gf h rise drop in
    record { bu = s.bu; bf = s.bf; gu = a.1; gf = a.2; wu = s.wu; wf = s.wf; map = s.map }
done_anew s (hold c rise drop) = s
done_anew s (write i v) = s

unfoldable pub left_anew : Stores → Call → Stores
left_anew s c = unless_stopped c (λ _. s) (done_anew s c.asked)

-- a call's answer, and what its output slices, rise and drop, hold after it
unfoldable pub shown_anew : Stores → Asked → ℕ × List ℕ × List ℕ
shown_anew s (bank c h) = ((update_if c s.bu s.bf s.wu s.wf h).0, [], [])
shown_anew s (gate c h rise drop) =
    let a = gate_update_anew s.bu s.bf s.gu s.gf h rise drop in
    (a.0, a.3, a.4)
shown_anew s (hold c rise drop) = gate_hold_anew s.bu s.bf s.gu s.gf rise drop
shown_anew s (write i v) = ((map_write_call s.gu s.gf s.map i v).0, [], [])

unfoldable pub seen_anew : Stores → Call → ℕ × List ℕ × List ℕ
seen_anew s c = unless_stopped c (λ r. (r, (marks_before c.asked).0, (marks_before c.asked).1)) (shown_anew s c.asked)

abbrev pub all_seen_anew : Stores → List Call → List (ℕ × List ℕ × List ℕ)
all_seen_anew s [] = []
all_seen_anew s (c ∷ cs) = seen_anew s c ∷ all_seen_anew (left_anew s c) cs
