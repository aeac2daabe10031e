-- The gate's calls: their refusals in document 01's order, what they answer and leave. A refusal changes nothing.
use Rattle.std.specs.Prelude.{Bool, true, false, not, cond, ◌&&◌, ◌||◌, List, [], ◌∷◌, ℕ, zero, suc, ◌+◌, ◌-◌, eqb, ltb, leb, length, get_or, ℤ, pos, negsuc, Float, Result}
use Rattle.std.specs.Float.Ieee.{of_int}
use Rattle.std.specs.Float.{binary64}
use Rattle.laws.specs.Lists.{one}
use Rattle.laws.specs.Tests.{within, differ, first}
use Rattle.model.specs.Numbers.{f0}
use Rattle.model.specs.Bank.{FloorBank}
use Rattle.model.specs.Stores.{bank_of}
use Rattle.model.specs.Refusals.{bank_refusal}
use Rattle.refusals.specs.Readings.{reading}
use Rattle.model.specs.Gate.{Gate, Settings, distinct, fresh_gate, update_step, hold_step, early_rise, rise_bytes, drop_bytes}
use Rattle.model.specs.GateStores.{gate_u16s, gate_floats, gate_of, floats, gate_f_len, sound_gate}

-- ---- making: 1, 3, 4, 2

-- 3: list empty, over 8 entries before doubles are dropped, or an entry outside 1..375
abbrev pub all_within : List ℕ → Bool
all_within [] = true
all_within (m ∷ ms) = within 1 375 m && all_within ms

unfoldable pub good_lengths : List ℕ → Bool
good_lengths ms = within 1 8 (length ms) && all_within ms

-- a level handed over signed, as the store has it: 800 is added. 65535 stands for one that is out of range, as it does for an absent early
unfoldable pub stored : ℤ → ℕ
stored (pos x) = cond (leb x 800) (x + 800) 65535
stored (negsuc x) = cond (ltb x 800) (799 - x) 65535

-- a level from -800 to 800
abbrev pub good_level : ℤ → Bool
good_level x = leb (stored x) 1600

-- an early of 65535 is "absent"
abbrev pub absent : ℤ → Bool
absent (pos x) = eqb x 65535
absent (negsuc x) = false

-- the floats of a gate of n channels and these distinct lengths
abbrev pub floats_for : ℕ → List ℕ → ℕ
floats_for n ms = floats n (λ j. get_or ms j 0) (length ms)

unfoldable pub gate_make_refusal : ℕ → ℕ → ℕ → ℤ → ℤ → ℤ → List ℕ → ℕ
gate_make_refusal uLen fLen n on off early lengths =
    first (not (within 1 512 n)) 1
    (first (not (good_lengths lengths)) 3
    (first (not (good_level on && good_level off && (absent early || good_level early))) 4
    (first (differ uLen 30 || differ fLen (floats_for n (distinct [] lengths))) 2
    0)))

unfoldable pub settings_of : ℕ → ℤ → ℤ → ℤ → List ℕ → Settings
settings_of k a b e ms = record { n = k; on = stored a; off = stored b; early = stored e; lengths = ms }

-- how long the gate's f64 store must be: 0 where making refuses n or the lengths
unfoldable pub gate_f_len_for : ℕ → List ℕ → ℕ
gate_f_len_for n lengths = cond (within 1 512 n && good_lengths lengths) (floats_for n (distinct [] lengths)) 0

-- ---- other calls: the bank store before the gate store, then 8, 5, 7 as they apply

-- u16 length 2, contents 9, f64 length 2
unfoldable pub gate_refusal : List ℕ → List Float → ℕ
gate_refusal u f = first (differ (length u) 30) 2 (first (not (sound_gate u)) 9 (first (differ (length f) (gate_f_len u)) 2 0))

-- a refusal if there is one, else what comes after it
abbrev pub or_else : ℕ → ℕ → ℕ
or_else a rest = first (not (eqb a 0)) a rest

-- both stores, then 8: bank and gate differ in n
unfoldable pub pair_refusal : List ℕ → List Float → List ℕ → List Float → ℕ
pair_refusal bu bf gu gf = or_else (bank_refusal bu bf) (or_else (gate_refusal gu gf) (first (differ (get_or bu 0 0) (get_or gu 0 0)) 8 0))

-- 5: a hop or output slice isn't n long
unfoldable pub gate_update_refusal : List ℕ → List Float → List ℕ → List Float → ℕ → ℕ → ℕ → ℕ → ℕ
gate_update_refusal bu bf gu gf db power rise drop =
    let n = get_or gu 0 0 in
    or_else (pair_refusal bu bf gu gf) (first (differ db n || differ power n || differ rise n || differ drop n) 5 0)

unfoldable pub hold_refusal : List ℕ → List Float → List ℕ → List Float → ℕ → ℕ → ℕ
hold_refusal bu bf gu gf rise drop =
    let n = get_or gu 0 0 in
    or_else (pair_refusal bu bf gu gf) (first (differ rise n || differ drop n) 5 0)

-- ---- what the calls answer and leave

-- a fresh gate: the answer, the u16 store, the f64 store
abbrev pub gate_leaves : ℕ → Gate → List ℕ → List Float → ℕ × List ℕ × List Float
gate_leaves zero g u f = (0, gate_u16s g, gate_floats g)
gate_leaves (suc r) g u f = (suc r, u, f)

unfoldable pub gate_new_call : List ℕ → List Float → ℕ → ℤ → ℤ → ℤ → List ℕ → ℕ × List ℕ × List Float
gate_new_call u f n on off early lengths =
    gate_leaves (gate_make_refusal (length u) (length f) n on off early lengths) (fresh_gate (settings_of n on off early lengths)) u f

-- a gate update: the answer, the gate's two stores, rise and drop. It judges with the gate that it leaves
abbrev pub marks_of : ℕ → Gate → FloorBank → List ℕ → List ℕ → List ℕ × List ℕ
marks_of zero g b rise drop = (rise_bytes g b, drop_bytes g b)
marks_of (suc r) g b rise drop = (rise, drop)

pub record GateHop : Type 0 where
  pub db : List Float
  pub power : List Float

unfoldable pub gate_update_call : List ℕ → List Float → List ℕ → List Float → GateHop → List ℕ → List ℕ
    → ℕ × List ℕ × List Float × List ℕ × List ℕ
gate_update_call bu bf gu gf h rise drop =
    let r = gate_update_refusal bu bf gu gf (length h.db) (length h.power) (length rise) (length drop) in
    let b = bank_of bu bf in
    let g = update_step (gate_of gu gf) b h.db h.power in
    let left = gate_leaves r g gu gf in
    let marks = marks_of r g b rise drop in
    (left.0, left.1, left.2, marks.0, marks.1)

-- a hold: the answer, the gate's f64 store (R-3), rise and drop. It judges without stepping
unfoldable pub gate_hold_call : List ℕ → List Float → List ℕ → List Float → List ℕ → List ℕ → ℕ × List Float × List ℕ × List ℕ
gate_hold_call bu bf gu gf rise drop =
    let r = hold_refusal bu bf gu gf (length rise) (length drop) in
    let b = bank_of bu bf in
    let g = hold_step (gate_of gu gf) b in
    let marks = marks_of r g b rise drop in
    (r, (gate_leaves r g gu gf).2, marks.0, marks.1)

-- ---- readings

-- the gate's smoothed dB: the gate, then 7
unfoldable pub smoothed_reading : List ℕ → List Float → ℕ → Result Float ℕ
smoothed_reading u f k =
    reading (or_else (gate_refusal u f) (first (not (ltb k (get_or u 0 0))) 7 0)) (get_or (gate_of u f).smooth k f0)

-- early rise alone as 1 or 0 (0 before the first gate update or with early absent): bank, gate, 8, then 7
unfoldable pub early_reading : List ℕ → List Float → List ℕ → List Float → ℕ → Result Float ℕ
early_reading bu bf gu gf k =
    let g = gate_of gu gf in
    reading (or_else (pair_refusal bu bf gu gf) (first (not (ltb k (get_or gu 0 0))) 7 0))
    (of_int binary64 (pos (one (not (eqb g.started 0) && early_rise g (bank_of bu bf) k))))
