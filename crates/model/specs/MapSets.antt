-- Document 02, R-12, of a whole set: "a lent map starts fresh beside its gate, made for the same n, and stays with it, written only by the calls".
-- What the calls of a set do to its map is a list of calls on the map alone, so that what MapReach says of those holds of the set's map. The
-- proofs are `map-hears` and `none-lost-in-set` in proofs/MapSets.antt.
use Rattle.std.specs.Prelude.{◌≡◌, true, false, List, [], ◌∷◌, ◌++◌, ℕ, zero, suc, ◌<◌}
use Rattle.model.specs.Map.{fresh_map}
use Rattle.model.specs.MapCalls.{gate_update_if, gate_hold_if}
use Rattle.model.specs.MapReach.{MapCall, marks, writes, map_left_by, Kind, flag_of, MarkedSince, Exactly}
use Rattle.model.specs.Demand3.{Asked, Call, bank, gate, hold, write, Stores, unless_stopped, Lent, left, left_by, Making, made, Made}

-- a call that was accepted
abbrev pub accepted : ℕ → MapCall → List MapCall
accepted zero c = c ∷ []
accepted (suc r) c = []

-- what a call does to the map: one that carries it, if accepted, sets the flags of the marks that it writes; a write is a write; the others do
-- nothing
unfoldable pub done_on_map : Stores → Asked → List MapCall
done_on_map s (bank c h) = []
done_on_map s (gate false h rise drop) = []
done_on_map s (gate true h rise drop) =
    let a = gate_update_if true s.bu s.bf s.gu s.gf s.map h rise drop in
    accepted a.0 (marks a.4 a.5)
done_on_map s (hold false rise drop) = []
done_on_map s (hold true rise drop) =
    let a = gate_hold_if true s.bu s.bf s.gu s.gf s.map rise drop in
    accepted a.0 (marks a.3 a.4)
done_on_map s (write i v) = writes i v ∷ []

-- R-14: a call that is stopped does nothing
unfoldable pub on_map : Stores → Call → List MapCall
on_map s c = unless_stopped c (λ _. []) (done_on_map s c.asked)

abbrev pub all_on_map : Stores → List Call → List MapCall
all_on_map s [] = []
all_on_map s (c ∷ cs) = on_map s c ++ all_on_map (left s c) cs

-- the map of a set is a fresh one after these
abbrev pub MapHears : Type 0
MapHears =
    (k : Making) (p : Lent) → Made k p → (cs : List Call)
    → (left_by (made k p) cs).map ≡ map_left_by k.gate_n (fresh_map k.gate_n) (all_on_map (made k p) cs)

-- "no mark is lost": a flag of the set's map is up exactly if some accepted call that carried the map marked it since it was last cleared
abbrev pub NoneLostInSet : Type 0
NoneLostInSet =
    (k : Making) (p : Lent) → Made k p → (cs : List Call) (g : Kind) (c : ℕ) → c < k.gate_n
    → Exactly (flag_of g k.gate_n (left_by (made k p) cs).map c ≡ true)
    (MarkedSince g k.gate_n c (fresh_map k.gate_n) (all_on_map (made k p) cs))
