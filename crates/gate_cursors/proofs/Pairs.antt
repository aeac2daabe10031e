-- A bank and a gate that are not refused as a pair are both sound, and of as many channels. Assumes nothing.
use mathlib.Core.Path.{◌≡◌}
use mathlib.Core.List.{List}
use Prim.Native.Nat.{ℕ}
use native.Mathlib.Omega.{arith}
use lib.ListN.{get_or}
use lib.Ieee.{Float}
use Rattle.laws.specs.Tests.{differ}
use Rattle.laws.proofs.Tests.{neither, passed, same_of}
use Rattle.model.specs.Refusals.{bank_refusal}
use Rattle.model.specs.GateCalls.{gate_refusal, pair_refusal}
use Rattle.model.proofs.GoodBanks.{ready}
use Rattle.model.proofs.GoodGates.{gate-ready}
use Rattle.gate_cursors.specs.Paired.{Paired}

module _ (bu : List ℕ) (bf : List Float) (gu : List ℕ) (gf : List Float) where
  pub paired : pair_refusal bu bf gu gf ≡ 0 → Paired bu bf gu gf
  unfolding pair_refusal
  paired e =
      let a = neither (bank_refusal bu bf) _ e in
      let b = neither (gate_refusal gu gf) _ a.1 in
      let c = passed (differ (get_or bu 0 0) (get_or gu 0 0)) 8 0 (omega arith) b.1 in
      record { bank = ready bu bf a.0; gate = gate-ready gu gf b.0; same = same_of (get_or bu 0 0) (get_or gu 0 0) c.0 }
