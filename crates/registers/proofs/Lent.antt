-- What a gate and its map have that are not refused. Assumes nothing.
use mathlib.Core.Path.{◌≡◌, ap}
use mathlib.Core.Bool.{true}
use mathlib.Core.List.{List}
use Prim.Native.Nat.{ℕ, ◌<◌}
use lib.ListN.{length, get_or, replicate}
use lib.Ieee.{Float}
use Rattle.model.specs.Map.{map_long, sound_map, fresh_map}
use Rattle.model.specs.MapCalls.{map_make_refusal, map_refusal, address_refusal, after_gate}
use Rattle.model.proofs.MapRefusals.{lent-gate, lent-room, lent-address, lent_map as gate_and_map}
use Rattle.gate_sound.proofs.Sizes.{thirty}

pub record Lent (gu m : List ℕ) : Type 0 where
  pub thirty : length gu ≡ 30
  pub long : length m ≡ map_long (get_or gu 0 0)

pub record At (a : ℕ) (gu m : List ℕ) : Type 0 where
  pub lent : Lent gu m
  pub within : a < map_long (get_or gu 0 0)

pub record Sound (gu m : List ℕ) : Type 0 where
  pub lent : Lent gu m
  pub sound : sound_map (get_or gu 0 0) m ≡ true

pub lent_address : (gu : List ℕ) (gf : List Float) (m : List ℕ) (a : ℕ) → after_gate gu gf (λ n. address_refusal n m a) ≡ 0 → At a gu m
lent_address gu gf m a e =
    let g = lent-address gu gf m a e in
    record {
      lent = record { thirty = thirty gu gf (lent-gate gu gf m (λ n. address_refusal n m a) e); long = g.2 };
      within = g.3;
    }

pub lent_map : (gu : List ℕ) (gf : List Float) (m : List ℕ) → after_gate gu gf (λ n. map_refusal n m) ≡ 0 → Sound gu m
lent_map gu gf m e =
    let g = gate_and_map gu gf m e in
    record {
      lent = record { thirty = thirty gu gf (lent-gate gu gf m (λ n. map_refusal n m) e); long = g.2 };
      sound = g.3;
    }

-- the length that a map has that is made
pub new_made : (gu : List ℕ) (gf : List Float) (m : List ℕ) → after_gate gu gf (λ n. map_make_refusal n m) ≡ 0
    → replicate (length m) 0 ≡ fresh_map (get_or gu 0 0)
unfolding fresh_map
new_made gu gf m e = ap (λ (k : ℕ). replicate k 0) (lent-room gu gf m e)
