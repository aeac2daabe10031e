-- What a gate, and a gate with its map, have that are not refused. Assumes nothing.
use mathlib.Core.Path.{◌≡◌}
use mathlib.Core.List.{List}
use Prim.Native.Nat.{ℕ, ◌≤◌}
use lib.ListN.{length, get_or}
use lib.Ieee.{Float}
use Rattle.model.specs.GateCalls.{gate_refusal}
use Rattle.model.specs.MapCalls.{map_refusal, after_gate, pair_map_refusal}
use Rattle.model.proofs.MapRefusals.{n_within, lent-gate, pair-gate}
use Rattle.gate_sound.proofs.Sizes.{thirty}

pub record Lent (gu : List ℕ) : Type 0 where
  pub thirty : length gu ≡ 30
  pub low : 1 ≤ get_or gu 0 0

pub lent_gate : (gu : List ℕ) (gf : List Float) → gate_refusal gu gf ≡ 0 → Lent gu
lent_gate gu gf e = let n = n_within gu gf e in
    record { thirty = thirty gu gf e; low = n.0 }

pub gate_of_map : (gu : List ℕ) (gf : List Float) (m : List ℕ) → after_gate gu gf (λ n. map_refusal n m) ≡ 0 → length gu ≡ 30
gate_of_map gu gf m e = thirty gu gf (lent-gate gu gf m (λ n. map_refusal n m) e)

pub gate_of_pair : (bu : List ℕ) (bf : List Float) (gu : List ℕ) (gf : List Float) (m : List ℕ) → pair_map_refusal bu bf gu gf m ≡ 0 → length gu ≡ 30
gate_of_pair bu bf gu gf m e = thirty gu gf (pair-gate bu bf gu gf m e)
