-- The gate of a pair that is not refused has its length. Assumes nothing.
use mathlib.Core.Path.{◌≡◌}
use mathlib.Core.List.{List}
use Prim.Native.Nat.{ℕ}
use lib.ListN.{length}
use lib.Ieee.{Float}
use Rattle.laws.proofs.Tests.{neither}
use Rattle.model.specs.Refusals.{bank_refusal}
use Rattle.model.specs.GateCalls.{gate_refusal, pair_refusal}
use Rattle.gate_sound.proofs.Sizes.{thirty}

pub pair_thirty : (bu : List ℕ) (bf : List Float) (gu : List ℕ) (gf : List Float) → pair_refusal bu bf gu gf ≡ 0 → length gu ≡ 30
unfolding pair_refusal
pair_thirty bu bf gu gf e = thirty gu gf (neither (gate_refusal gu gf) _ (neither (bank_refusal bu bf) _ e).1).0
