-- The refusals of the calls on a map, one by one. Assumes nothing.
use mathlib.Core.Path.{◌≡◌, sym, ◌∙◌}
use mathlib.Core.Bool.{true, not, ◌||◌}
use mathlib.Core.List.{List}
use Prim.Native.Nat.{ℕ, ◌<◌, ◌≤◌}
use native.Mathlib.Omega.{arith}
use lib.Dec.{ltb}
use lib.ListN.{length, get_or}
use lib.Ieee.{Float}
use borrow.Author.Tests.{eq-eqb, ltb-true, not-false}
use Rattle.laws.specs.Tests.{differ, first}
use Rattle.laws.proofs.Tests.{or_l, or_r, passed, same_of, goes_on, neither}
use Rattle.model.specs.Refusals.{bank_refusal}
use Rattle.model.specs.GateCalls.{gate_refusal}
use Rattle.model.proofs.GoodGates.{n-of, gate-ready}
use Rattle.model.specs.Map.{map_long, sound_map}
use Rattle.model.specs.MapCalls.{map_make_refusal, map_refusal, address_refusal, after_gate, pair_map_refusal}
use Rattle.model.specs.MapReach.{marks_refusal}

-- ---- the length

module _ (n : ℕ) (m : List ℕ) where
  pub can-be-made : length m ≡ map_long n → 0 ≡ map_make_refusal n m
  unfolding map_make_refusal
  can-be-made h = rw (eq-eqb (length m) (map_long n) h)

  -- ---- the map
  pub is-map : length m ≡ map_long n → sound_map n m ≡ true → 0 ≡ map_refusal n m
  unfolding map_refusal
  is-map h s = rw (eq-eqb (length m) (map_long n) h, s)

  -- what it means that there is none
  pub good-map : map_refusal n m ≡ 0 → (length m ≡ map_long n) × (sound_map n m ≡ true)
  unfolding map_refusal
  good-map e =
      let p = passed (differ (length m) (map_long n)) 2 (first (not (sound_map n m)) 9 0) (omega arith) e in
      (same_of (length m) (map_long n) p.0, not-false (sound_map n m) (passed (not (sound_map n m)) 9 0 (omega arith) p.1).0)

  -- ---- the address
  pub good-address : (a : ℕ) → address_refusal n m a ≡ 0 → (map_refusal n m ≡ 0) × (a < map_long n)
  unfolding address_refusal
  good-address a e =
      let p = neither (map_refusal n m) (first (not (ltb a (map_long n))) 15 0) e in
      (p.0, ltb-true a (map_long n) (not-false (ltb a (map_long n)) (passed (not (ltb a (map_long n))) 15 0 (omega arith) p.1).0))

  -- ---- the marks
  -- what it means that there is none
  pub taken-marks : (rise fall : ℕ) → marks_refusal n m rise fall ≡ 0 → (map_refusal n m ≡ 0) × (rise ≡ n) × (fall ≡ n)
  unfolding marks_refusal
  taken-marks rise fall e =
      let p = neither (map_refusal n m) (first (differ rise n || differ fall n) 5 0) e in
      let q = (passed (differ rise n || differ fall n) 5 0 (omega arith) p.1).0 in
      (p.0, same_of rise n (or_l (differ rise n) (differ fall n) q), same_of fall n (or_r (differ rise n) (differ fall n) q))

  module _ (rise fall r : ℕ) (e : r ≡ map_refusal n m) (z : r ≡ 0) where
    pub good-marks : rise ≡ n → fall ≡ n → 0 ≡ marks_refusal n m rise fall
    unfolding marks_refusal
    good-marks g h = goes_on (map_refusal n m) (first (differ rise n || differ fall n) 5 0) 0 (sym e ∙ z) (rw (eq-eqb rise n g, eq-eqb fall n h))

-- ---- the gate before it

-- the n of a gate that is not refused
pub n_within : (gu : List ℕ) (gf : List Float) → gate_refusal gu gf ≡ 0 → (1 ≤ get_or gu 0 0) × (get_or gu 0 0 ≤ 512)
n_within gu gf e = let g = gate-ready gu gf e in
    (omega (arith, g.good.low, n-of gu gf), omega (arith, g.good.high, n-of gu gf))

-- gate and map are not refused
module _ (gu : List ℕ) (gf : List Float) (m : List ℕ) where
  pub lent_map : after_gate gu gf (λ n. map_refusal n m) ≡ 0
      → (1 ≤ get_or gu 0 0) × (get_or gu 0 0 ≤ 512) × (length m ≡ map_long (get_or gu 0 0)) × (sound_map (get_or gu 0 0) m ≡ true)
  lent_map e =
      let p = neither (gate_refusal gu gf) _ e in
      let n = n_within gu gf p.0 in
      let g = good-map (get_or gu 0 0) m p.1 in
      (n.0, n.1, g.0, g.1)

  -- nor the address
  pub lent-address : (a : ℕ) → after_gate gu gf (λ n. address_refusal n m a) ≡ 0
      → (1 ≤ get_or gu 0 0) × (get_or gu 0 0 ≤ 512) × (length m ≡ map_long (get_or gu 0 0)) × (a < map_long (get_or gu 0 0))
  lent-address a e =
      let p = neither (gate_refusal gu gf) _ e in
      let n = n_within gu gf p.0 in
      let g = good-address (get_or gu 0 0) m a p.1 in
      (n.0, n.1, (good-map (get_or gu 0 0) m g.0).0, g.1)

  pub lent-room : after_gate gu gf (λ n. map_make_refusal n m) ≡ 0 → length m ≡ map_long (get_or gu 0 0)
  unfolding map_make_refusal
  lent-room e =
      let p = neither (gate_refusal gu gf) _ e in
      same_of (length m) (map_long (get_or gu 0 0)) (passed (differ (length m) (map_long (get_or gu 0 0))) 2 0 (omega arith) p.1).0

  pub lent-gate : (t : ℕ → ℕ) → after_gate gu gf t ≡ 0 → gate_refusal gu gf ≡ 0
  lent-gate t e = (neither (gate_refusal gu gf) (t (get_or gu 0 0)) e).0

-- bank, gate and map are not refused
module _ (bu : List ℕ) (bf : List Float) (gu : List ℕ) (gf : List Float) (m : List ℕ) (e : pair_map_refusal bu bf gu gf m ≡ 0) where
  pub pair-map : (bank_refusal bu bf ≡ 0) × (gate_refusal gu gf ≡ 0) × (map_refusal (get_or gu 0 0) m ≡ 0) × (get_or bu 0 0 ≡ get_or gu 0 0)
  unfolding pair_map_refusal
  pair-map =
      let a = neither (bank_refusal bu bf) _ e in
      let b = neither (after_gate gu gf (λ n. map_refusal n m)) _ a.1 in
      let g = neither (gate_refusal gu gf) _ b.0 in
      let c = passed (differ (get_or bu 0 0) (get_or gu 0 0)) 8 0 (omega arith) b.1 in
      (a.0, g.0, g.1, same_of (get_or bu 0 0) (get_or gu 0 0) c.0)

  pub pair-gate : gate_refusal gu gf ≡ 0
  pair-gate = pair-map.1
