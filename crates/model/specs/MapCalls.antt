-- Document 02, R-12: the calls on a lent map, and the gate updates and holds that carry it: the refusals in their order, what the calls answer and
-- leave. A refusal changes nothing.
use Rattle.std.specs.Prelude.{Bool, true, false, not, cond, ◌||◌, List, ℕ, zero, suc, ltb, length, get_or, Float}
use Rattle.laws.specs.Lists.{one}
use Rattle.laws.specs.Tests.{within, differ, first}
use Rattle.model.specs.Stores.{bank_of}
use Rattle.model.specs.Refusals.{bank_refusal}
use Rattle.model.specs.Gate.{update_step, hold_step}
use Rattle.model.specs.GateStores.{gate_of}
use Rattle.model.specs.GateCalls.{GateHop, gate_refusal, or_else, gate_leaves, marks_of, gate_update_call, gate_hold_call}
use Rattle.model.specs.Map.{map_long, sound_map, wire, fresh_map, marks_set, written}

-- how long a map must be: 0 where n is outside 1..512
unfoldable pub map_len : ℕ → ℕ
map_len n = cond (within 1 512 n) (map_long n) 0

-- ---- refusals: "n is that of the lent gate. The map is tested after that gate's store"

-- a map for n channels: "another length gives 2 and, except at making, a bit past n set gives 9"
unfoldable pub map_make_refusal : ℕ → List ℕ → ℕ
map_make_refusal n m = first (differ (length m) (map_long n)) 2 0

unfoldable pub map_refusal : ℕ → List ℕ → ℕ
map_refusal n m = first (differ (length m) (map_long n)) 2 (first (not (sound_map n m)) 9 0)

-- "15 for an address of 3w or more, after the store checks"
unfoldable pub address_refusal : ℕ → List ℕ → ℕ → ℕ
address_refusal n m a = or_else (map_refusal n m) (first (not (ltb a (map_long n))) 15 0)

-- the gate, then the map for its n, by any of these tests
abbrev pub after_gate : List ℕ → List Float → (ℕ → ℕ) → ℕ
after_gate gu gf test = or_else (gate_refusal gu gf) (test (get_or gu 0 0))

-- the bank, the gate and its map, then 8: bank and gate differ in n
unfoldable pub pair_map_refusal : List ℕ → List Float → List ℕ → List Float → List ℕ → ℕ
pair_map_refusal bu bf gu gf m =
    or_else (bank_refusal bu bf)
    (or_else (after_gate gu gf (λ n. map_refusal n m))
    (first (differ (get_or bu 0 0) (get_or gu 0 0)) 8 0))

-- then 5: a hop or output slice isn't n long
unfoldable pub update_map_refusal : List ℕ → List Float → List ℕ → List Float → List ℕ → ℕ → ℕ → ℕ → ℕ → ℕ
update_map_refusal bu bf gu gf m db power rise drop = let n = get_or gu 0 0 in
    or_else (pair_map_refusal bu bf gu gf m) (first (differ db n || differ power n || differ rise n || differ drop n) 5 0)

unfoldable pub hold_map_refusal : List ℕ → List Float → List ℕ → List Float → List ℕ → ℕ → ℕ → ℕ
hold_map_refusal bu bf gu gf m rise drop = let n = get_or gu 0 0 in
    or_else (pair_map_refusal bu bf gu gf m) (first (differ rise n || differ drop n) 5 0)

-- ---- what the calls answer and leave

-- a refusal leaves what was there
abbrev pub unless_refused : {A : Type 0} → ℕ → A → A → ℕ × A
unless_refused zero new old = (0, new)
unless_refused (suc r) new old = (suc r, old)

-- a fresh map: the answer and the map
unfoldable pub map_new_call : List ℕ → List Float → List ℕ → ℕ × List ℕ
map_new_call gu gf m = unless_refused (after_gate gu gf (λ n. map_make_refusal n m)) (fresh_map (get_or gu 0 0)) m

-- v written at address a
unfoldable pub map_write_call : List ℕ → List Float → List ℕ → ℕ → ℕ → ℕ × List ℕ
map_write_call gu gf m a v = unless_refused (after_gate gu gf (λ n. address_refusal n m a)) (written (get_or gu 0 0) m a v) m

-- the byte at address a, behind the caller's reference, which held old. The map is lent to read only, and so to the wire
unfoldable pub map_read_call : List ℕ → List Float → List ℕ → ℕ → ℕ → ℕ × ℕ
map_read_call gu gf m a old = unless_refused (after_gate gu gf (λ n. address_refusal n m a)) (get_or m a 0) old

-- the wire: 1 or 0
unfoldable pub map_wire_call : List ℕ → List Float → List ℕ → ℕ → ℕ × ℕ
map_wire_call gu gf m old = unless_refused (after_gate gu gf (λ n. map_refusal n m)) (one (wire (get_or gu 0 0) m)) old

-- ---- the gate updates and holds that carry the map

-- the map once the marks are written
abbrev pub map_after : ℕ → ℕ → List ℕ → List ℕ × List ℕ → List ℕ
map_after zero n m marks = marks_set n m marks.0 marks.1
map_after (suc r) n m marks = m

-- an update: the answer, the gate's two stores, the map, rise and drop
unfoldable pub gate_update_map_call : List ℕ → List Float → List ℕ → List Float → List ℕ → GateHop → List ℕ → List ℕ
    → ℕ × List ℕ × List Float × List ℕ × List ℕ × List ℕ
gate_update_map_call bu bf gu gf m h rise drop =
    let r = update_map_refusal bu bf gu gf m (length h.db) (length h.power) (length rise) (length drop) in
    let b = bank_of bu bf in
    let g = update_step (gate_of gu gf) b h.db h.power in
    let left = gate_leaves r g gu gf in
    let marks = marks_of r g b rise drop in
    (left.0, left.1, left.2, map_after r (get_or gu 0 0) m marks, marks.0, marks.1)

-- a hold: the answer, the gate's f64 store (R-3), the map, rise and drop
unfoldable pub gate_hold_map_call : List ℕ → List Float → List ℕ → List Float → List ℕ → List ℕ → List ℕ
    → ℕ × List Float × List ℕ × List ℕ × List ℕ
gate_hold_map_call bu bf gu gf m rise drop =
    let r = hold_map_refusal bu bf gu gf m (length rise) (length drop) in
    let b = bank_of bu bf in
    let g = hold_step (gate_of gu gf) b in
    let marks = marks_of r g b rise drop in
    (r, (gate_leaves r g gu gf).2, map_after r (get_or gu 0 0) m marks, marks.0, marks.1)

-- whether a call carries the map (true) or doesn't
abbrev pub gate_update_if : Bool → List ℕ → List Float → List ℕ → List Float → List ℕ → GateHop → List ℕ → List ℕ
    → ℕ × List ℕ × List Float × List ℕ × List ℕ × List ℕ
gate_update_if true bu bf gu gf m h rise drop = gate_update_map_call bu bf gu gf m h rise drop
gate_update_if false bu bf gu gf m h rise drop = let a = gate_update_call bu bf gu gf h rise drop in (a.0, a.1, a.2, m, a.3, a.4)

abbrev pub gate_hold_if : Bool → List ℕ → List Float → List ℕ → List Float → List ℕ → List ℕ → List ℕ → ℕ × List Float × List ℕ × List ℕ × List ℕ
gate_hold_if true bu bf gu gf m rise drop = gate_hold_map_call bu bf gu gf m rise drop
gate_hold_if false bu bf gu gf m rise drop = let a = gate_hold_call bu bf gu gf rise drop in (a.0, a.1, m, a.2, a.3)
