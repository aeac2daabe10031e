-- Document 02, R-13, "Decibels worked out in the set": the dB of a linear power by the ladder, and the hops of the updates from linear power
-- alone. The words in quotes are document 02's. The proofs of what is stated are in proofs/Decibels.antt, under the same names in small letters.
use Rattle.std.specs.Prelude.{◌≡◌, Bool, true, false, cond, List, [], ◌∷◌, ◌⊎◌, ℕ, zero, suc, ◌+◌, ◌-◌, ◌≤◌, ◌<◌, length, get_or, pos, Float}
use Rattle.std.specs.Float.{nan, binary32, binary64}
use Rattle.std.specs.Float.Ieee.{add, div, le, of_int, of_bits}
use Rattle.laws.specs.Lists.{tab}
use Rattle.model.specs.Numbers.{f0, power_linear}
use Rattle.model.specs.Layout.{ladder_min, rungs_below, rungs_above, rung_count}
use Rattle.model.specs.Ladder.{f8, rung_value}
use Rattle.model.specs.Bank.{Hop, hop}
use Rattle.model.specs.Calls.{bank_update_call}
use Rattle.model.specs.GateCalls.{GateHop}

-- ---- the dB of a power

-- "the whole ladder, -260 to 400 dB in eighths, as one constant table of 5,281 values": the rungs' values in their order
unfoldable pub rung_values : List Float
rung_values = tab rung_count rung_value

-- of the rungs below n, "the highest rung whose value is at most" x; the lowest rung if none is
unfoldable pub highest_below : ℕ → Float → ℕ
highest_below zero x = 0
highest_below (suc n) x = cond (le (rung_value n) x) n (highest_below n x)

unfoldable pub highest_rung : Float → ℕ
highest_rung x = highest_below rung_count x

-- rung r in dB: -260 + r / 8
unfoldable pub rung_db : ℕ → Float
rung_db r = add binary64 ladder_min (div binary64 (of_int binary64 (pos r)) f8)

-- "The dB of power P is the highest rung whose value is at most P + 1e-20 (widened and added as in power_linear), or -260 if none is or P is
-- NaN": the lowest rung is that of -260, and no value is at most a NaN
unfoldable pub power_db : Float → Float
power_db p = rung_db (highest_rung (power_linear p))

-- ---- what it is, without the search

-- no rung is at most x
abbrev pub NoRung : Float → Type 0
NoRung x = (i : ℕ) → i < rung_count → le (rung_value i) x ≡ false

-- rung r and those below it are at most x, the next and those above it are not
pub record UpTo (r : ℕ) (x : Float) : Type 0 where
  pub on_the_ladder : r < rung_count
  pub at_most : (i : ℕ) → i ≤ r → le (rung_value i) x ≡ true
  pub above : (i : ℕ) → r < i → i < rung_count → le (rung_value i) x ≡ false

abbrev pub Named : Type 0
Named = (p : Float) → (NoRung (power_linear p) × (power_db p ≡ ladder_min)) ⊎ ((r : ℕ) × UpTo r (power_linear p) × (power_db p ≡ rung_db r))

-- a NaN is none's
abbrev pub NanLowest : Type 0
NanLowest = NoRung (power_linear nan) × (power_db nan ≡ ladder_min)

-- edges, each power by its f32 bits with its rung
abbrev pub edges : List (ℕ × ℕ)
edges =
    -- 0, -0.0 and the least f32 above 0: 1e-20 alone, -200 dB
    (0, rungs_below - 1600)
    ∷ (0x8000_0000, rungs_below - 1600)
    ∷ (1, rungs_below - 1600)
    -- the f32 nearest -1e-20: the sum is above 0 and under the lowest rung. Then -1, and the infinity below
    ∷ (0x9e3c_e508, 0)
    ∷ (0xbf80_0000, 0)
    ∷ (0xff80_0000, 0)
    -- 1 is 0 dB, and the next f32 below it the rung below
    ∷ (0x3f80_0000, rungs_below)
    ∷ (0x3f7f_ffff, rungs_below - 1)
    -- the greatest f32, at 385.318 dB, and infinity
    ∷ (0x7f7f_ffff, rungs_below + 3082)
    ∷ (0x7f80_0000, rungs_below + rungs_above)
    -- a NaN
    ∷ (0x7fc0_0000, 0)
    ∷ []

abbrev pub AllAt : List (ℕ × ℕ) → Type 0
AllAt [] = Unit {0}
AllAt (x ∷ l) = (power_db (of_bits binary32 x.0) ≡ rung_db x.1) × AllAt l

abbrev pub EdgesHold : Type 0
EdgesHold = AllAt edges

-- louder power, no lower dB: what R-10 says of louder dB holds of louder powers
abbrev pub LouderPower : Type 0
LouderPower = (p q : Float) → le p q ≡ true → le (power_db p) (power_db q) ≡ true

-- ---- the updates "from linear power alone do what the existing ones do with these dB values"

-- the dB of a hop's powers
unfoldable pub decibels : List Float → List Float
decibels power = tab (length power) (λ k. power_db (get_or power k f0))

abbrev pub linear_hop : Bool → List Float → Hop
linear_hop held power = hop held (decibels power) power

abbrev pub linear_gate_hop : List Float → GateHop
linear_gate_hop power = record { db = decibels power; power = power }

-- refusal 6 cannot occur: no dB that is worked out is a NaN
abbrev pub NeverGarbled : Type 0
NeverGarbled = (u : List ℕ) (f : List Float) (held : Bool) (power : List Float) → (bank_update_call u f (linear_hop held power)).0 ≡ 6 → ⊥
