-- R-12: with a map that is not refused a gate update or a hold that carries it does what the one without does, and sets the flags of the marks that
-- it writes. Assumes nothing.
use mathlib.Core.Path.{◌≡◌, refl, sym, ap, ◌∙◌}
use mathlib.Core.Bool.{Bool, true, false, not, ◌||◌}
use mathlib.Core.List.{List}
use Prim.Native.Nat.{ℕ, zero, suc}
use native.Mathlib.Omega.{arith}
use lib.Dec.{eqb}
use lib.ListN.{length, get_or}
use lib.Ieee.{Float}
use borrow.Author.Tests.{ne_eqb}
use Rattle.laws.specs.Tests.{differ, first}
use Rattle.laws.proofs.Tabs.{length-tab}
use Rattle.model.specs.Bank.{FloorBank}
use Rattle.model.specs.Stores.{bank_of}
use Rattle.model.specs.Refusals.{bank_refusal}
use Rattle.model.specs.Gate.{Gate, gate_step, refresh, update_step, hold_step, rise_bytes, drop_bytes}
use Rattle.model.specs.GateStores.{gate_of}
use Rattle.model.specs.GateCalls.{GateHop, gate_refusal, or_else, pair_refusal, gate_update_refusal, hold_refusal, gate_leaves, marks_of, gate_update_call, gate_hold_call}
use Rattle.model.specs.MapCalls.{map_refusal, pair_map_refusal, update_map_refusal, hold_map_refusal, map_after, gate_update_map_call, gate_hold_map_call, gate_update_if, gate_hold_if}
use Rattle.model.specs.MapReach.{marks, map_left_by, IsMap}
use Rattle.model.specs.MapSets.{accepted}
use Rattle.model.proofs.GoodGates.{n-of}
use Rattle.model.proofs.Pairs.{bare-hold}
use Rattle.model.proofs.MapRefusals.{good-map}
use Rattle.model.proofs.MapReach.{marks-do}

-- ---- as without the map

or-none : (r : ℕ) → or_else r 0 ≡ r
or-none zero = refl
or-none (suc r) = rw (ne_eqb (suc r) 0 (λ q. omega arith))

module _ (bu : List ℕ) (bf : List Float) (gu : List ℕ) (gf : List Float) (m : List ℕ) (e : map_refusal (get_or gu 0 0) m ≡ 0) where
  same-pair : pair_map_refusal bu bf gu gf m ≡ pair_refusal bu bf gu gf
  unfolding pair_map_refusal pair_refusal
  same-pair =
      ap (λ (x : ℕ). or_else (bank_refusal bu bf) (or_else x (first (differ (get_or bu 0 0) (get_or gu 0 0)) 8 0)))
      (ap (or_else (gate_refusal gu gf)) e ∙ or-none (gate_refusal gu gf))

  pub hold-same : (c : Bool) (rise fall : List ℕ) → let a = gate_hold_if c bu bf gu gf m rise fall in (a.0, a.1, a.3, a.4) ≡ gate_hold_call bu bf gu gf rise fall
  unfolding gate_hold_map_call gate_hold_call hold_map_refusal hold_refusal
  hold-same true rise fall =
      ap (λ (x : ℕ).
      let r = first (not (eqb x 0)) x (first (differ (length rise) (get_or gu 0 0) || differ (length fall) (get_or gu 0 0)) 5 0) in
      let g = hold_step (gate_of gu gf) (bank_of bu bf) in
      let marks = marks_of r g (bank_of bu bf) rise fall in (r, (gate_leaves r g gu gf).2, marks.0, marks.1)) same-pair
  hold-same false rise fall = refl

  pub update_same : (c : Bool) (h : GateHop) (rise fall : List ℕ)
      → let a = gate_update_if c bu bf gu gf m h rise fall in (a.0, a.1, a.2, a.4, a.5) ≡ gate_update_call bu bf gu gf h rise fall
  unfolding gate_update_map_call gate_update_call update_map_refusal gate_update_refusal
  update_same true h rise fall =
      ap (λ (x : ℕ).
      let r = first (not (eqb x 0)) x
      (first (differ (length h.db) (get_or gu 0 0) || differ (length h.power) (get_or gu 0 0) || differ (length rise) (get_or gu 0 0) || differ (length fall) (get_or gu 0 0)) 5 0) in
      let g = update_step (gate_of gu gf) (bank_of bu bf) h.db h.power in
      let left = gate_leaves r g gu gf in
      let marks = marks_of r g (bank_of bu bf) rise fall in (left.0, left.1, left.2, marks.0, marks.1)) same-pair
  update_same false h rise fall = refl

-- ---- and the flags of its marks

module _ (n : ℕ) (m : List ℕ) (k : IsMap n m) (g : Gate) (b : FloorBank) (q : g.n ≡ n) where
  long-rises : length (rise_bytes g b) ≡ n
  unfolding rise_bytes
  long-rises = length-tab g.n _ ∙ q

  long-drops : length (drop_bytes g b) ≡ n
  unfolding drop_bytes
  long-drops = length-tab g.n _ ∙ q

  pub after-hears : (r : ℕ) (rise fall : List ℕ)
      → let w = marks_of r g b rise fall in map_after r n m w ≡ map_left_by n m (accepted r (marks w.0 w.1))
  after-hears zero rise fall = ap (λ (a : ℕ × List ℕ). a.1) (marks-do n m (rise_bytes g b) (drop_bytes g b) k long-rises long-drops)
  after-hears (suc r) rise fall = refl

-- what carries the map leaves one
module _ (bu : List ℕ) (bf : List Float) (gu : List ℕ) (gf : List Float) (m : List ℕ) (e : map_refusal (get_or gu 0 0) m ≡ 0) where
  abbrev kept : IsMap (get_or gu 0 0) m
  kept = record { long = (good-map (get_or gu 0 0) m e).0; sound = (good-map (get_or gu 0 0) m e).1 }

  update-n : (db power : List Float) → (update_step (gate_of gu gf) (bank_of bu bf) db power).n ≡ get_or gu 0 0
  unfolding update_step refresh gate_step
  update-n db power = n-of gu gf

  hold-n : (hold_step (gate_of gu gf) (bank_of bu bf)).n ≡ get_or gu 0 0
  hold-n = ap (λ (g : Gate). g.n) (bare-hold (gate_of gu gf) (bank_of bu bf)) ∙ n-of gu gf

  left-answer : (r : ℕ) (g : Gate) → (gate_leaves r g gu gf).0 ≡ r
  left-answer zero g = refl
  left-answer (suc r) g = refl

  pub update-hears : (h : GateHop) (rise fall : List ℕ)
      → let a = gate_update_map_call bu bf gu gf m h rise fall in a.3 ≡ map_left_by (get_or gu 0 0) m (accepted a.0 (marks a.4 a.5))
  unfolding gate_update_map_call
  update-hears h rise fall =
      let r = update_map_refusal bu bf gu gf m (length h.db) (length h.power) (length rise) (length fall) in
      let g = update_step (gate_of gu gf) (bank_of bu bf) h.db h.power in
      let w = marks_of r g (bank_of bu bf) rise fall in
      after-hears (get_or gu 0 0) m kept g (bank_of bu bf) (update-n h.db h.power) r rise fall
      ∙ sym (ap (λ (x : ℕ). map_left_by (get_or gu 0 0) m (accepted x (marks w.0 w.1))) (left-answer r g))

  pub hold-hears : (rise fall : List ℕ)
      → let a = gate_hold_map_call bu bf gu gf m rise fall in a.2 ≡ map_left_by (get_or gu 0 0) m (accepted a.0 (marks a.3 a.4))
  unfolding gate_hold_map_call
  hold-hears rise fall =
      after-hears (get_or gu 0 0) m kept (hold_step (gate_of gu gf) (bank_of bu bf)) (bank_of bu bf) hold-n
      (hold_map_refusal bu bf gu gf m (length rise) (length fall)) rise fall
