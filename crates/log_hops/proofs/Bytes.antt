-- A byte put together from its lowest bit on. Assumes nothing.
use mathlib.Core.Path.{◌≡◌, ap, ◌∙◌}
use mathlib.Core.Bool.{Bool, true, false}
use Prim.Native.Nat.{ℕ, zero, suc, ◌+◌, ◌*◌, ◌%◌, ◌^◌, ◌<◌}
use native.Mathlib.Nat.{pow-suc}
use native.Mathlib.Numerals.{add-one}
use native.Mathlib.Omega.{arith}
use lib.Pow.{pow_mono}
use Rattle.laws.specs.Lists.{one}
use Rattle.laws.specs.Bits.{number}
use Rattle.laws.proofs.Bits.{number_lt}

-- one bit more
number-suc : (c : ℕ) (p : ℕ → Bool) (b : Bool) → p c ≡ b → number (suc c) p ≡ number c p + one b * 2 ^ c
unfolding number
number-suc zero p b e = omega (arith, ap one e)
number-suc (suc c) p true e = omega (arith, number-suc c (λ j. p (suc j)) true e, pow-suc 2 c)
number-suc (suc c) p false e = omega (arith, number-suc c (λ j. p (suc j)) false e)

number_more : (c : ℕ) (p : ℕ → Bool) (b : Bool) → p c ≡ b → number (c + 1) p ≡ number c p + one b * 2 ^ c
number_more c p b e = ap (λ (i : ℕ). number i p) (add-one c) ∙ number-suc c p b e

pub set_bit : (j b : ℕ) (p : ℕ → Bool) → b ≡ number j p → j < 8 → p j ≡ true → b + 1 * 2 ^ j % 256 ≡ number (j + 1) p
set_bit j b p e h t = omega (arith, number_more j p true t, pow_mono {i = j} {j = 7} (omega arith))

pub clear_bit : (j b : ℕ) (p : ℕ → Bool) → b ≡ number j p → p j ≡ false → b ≡ number (j + 1) p
clear_bit j b p e t = omega (arith, number_more j p false t)

-- fewer than eight bits leave room for one more
pub bit-fits : (j b : ℕ) (p : ℕ → Bool) → b ≡ number j p → j < 8 → b + 1 * 2 ^ j % 256 < 256
bit-fits j b p e h = omega (arith, number_lt j p, pow_mono {i = j} {j = 7} (omega arith))
