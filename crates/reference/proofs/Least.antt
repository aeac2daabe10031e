-- The spectral reference as a fold over the six places. Assumes nothing.
use mathlib.Core.Path.{◌≡◌, refl, subst}
use mathlib.Core.Bool.{false}
use mathlib.Core.List.{List, [], ◌∷◌, foldl}
use Prim.Native.Nat.{ℕ, ◌+◌, ◌-◌, ◌*◌, ◌%◌}
use lib.ListN.{get_or}
use lib.Ieee.{Float, inf, binary64, div, of_bits}
use Rattle.laws.specs.Lists.{part}
use Rattle.model.specs.Numbers.{f0, fmin}
use Rattle.model.specs.Stores.{bank_of}
use Rattle.model.specs.Readings.{reference_at}

-- the lesser of x and the smoothed power at a place, of n channels, wrapping
abbrev pub lesser : ℕ → List Float → Float → ℕ → Float
lesser n f x place = fmin x (get_or (part (2 * n) n f) (place % n) f0)

-- 1.0 / 0.0
pub infinite : div binary64 (of_bits binary64 0x3ff0_0000_0000_0000) f0 ≡ inf false
unfolding div of_bits
infinite = refl

-- the reference, with n as it was read
pub reference_read : (u : List ℕ) (f : List Float) (k n : ℕ) (r : Float) → n ≡ get_or u 0 0
    → r
    ≡ foldl (lesser n f) (inf false) ((k + 4 * n - 4) ∷ (k + 4 * n - 3) ∷ (k + 4 * n - 2) ∷ (k + 2) ∷ (k + 3) ∷ (k + 4) ∷ [])
    → r ≡ reference_at (bank_of u f) k
unfolding reference_at bank_of
reference_read u f k n r d h =
    subst (λ (n : ℕ). r ≡ foldl (lesser n f) (inf false) ((k + 4 * n - 4) ∷ (k + 4 * n - 3) ∷ (k + 4 * n - 2) ∷ (k + 2) ∷ (k + 3) ∷ (k + 4) ∷ [])) d h
