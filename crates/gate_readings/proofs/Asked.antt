-- What a reading of a gate that is not refused has shown. Assumes nothing.
use mathlib.Core.Path.{◌≡◌}
use mathlib.Core.Bool.{not}
use mathlib.Core.List.{List}
use Prim.Native.Nat.{ℕ, ◌<◌}
use native.Mathlib.Omega.{arith}
use lib.Dec.{ltb}
use lib.ListN.{get_or}
use lib.Ieee.{Float}
use borrow.Author.Tests.{ltb-true, not-false}
use Rattle.laws.specs.Tests.{first}
use Rattle.laws.proofs.Tests.{neither, passed}
use Rattle.model.specs.GateCalls.{gate_refusal, pair_refusal}
use Rattle.model.specs.GoodGate.{GateReady}
use Rattle.model.proofs.GoodGates.{gate-ready}
use Rattle.gate_sound.specs.Checks.{smoothed_refusal, early_refusal}
use Rattle.gate_cursors.specs.Paired.{Paired}
use Rattle.gate_cursors.proofs.Pairs.{paired}

below-n : (k n : ℕ) → first (not (ltb k n)) 7 0 ≡ 0 → k < n
below-n k n e = ltb-true k n (not-false (ltb k n) (passed (not (ltb k n)) 7 0 (omega arith) e).0)

-- a smoothed dB that is not refused
pub readable-gate : (u : List ℕ) (f : List Float) (k : ℕ) → smoothed_refusal u f k ≡ 0 → GateReady u f × (k < get_or u 0 0)
readable-gate u f k e =
    let a = neither (gate_refusal u f) _ e in
    (gate-ready u f a.0, below-n k (get_or u 0 0) a.1)

module _ (bu : List ℕ) (bf : List Float) (gu : List ℕ) (gf : List Float) where
  pub readable-pair : (k : ℕ) → early_refusal bu bf gu gf k ≡ 0 → Paired bu bf gu gf × (k < get_or gu 0 0)
  readable-pair k e =
      let a = neither (pair_refusal bu bf gu gf) _ e in
      (paired bu bf gu gf a.0, below-n k (get_or gu 0 0) a.1)
