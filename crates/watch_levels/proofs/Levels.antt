-- Laws on words and levels. Assumes nothing.
use mathlib.Core.Path.{◌≡◌, refl}
use mathlib.Core.List.{List, [], ◌∷◌}
use Prim.Native.Nat.{ℕ, zero, suc, ◌-◌, ◌<◌}
use native.Mathlib.Omega.{arith}
use lib.ListN.{length, take, drop}
use lib.Seq.{take_all}
use lib.IntN.{pos, ◌-ℤ◌}
use borrow.Author.Tests.{lt-ltb}
use mir.Syntax.{w32}
use mir.Val.{SFits}

-- a small number, negated, fits
pub negated : (n : ℕ) → n < 65536 → SFits w32 (pos 0 -ℤ pos n)
negated zero h = record { sfits = omega arith }
negated (suc n) h = record { sfits = rw (lt-ltb 0 (suc n) (omega arith)) (omega arith) }

-- a list without its first entry, as `&w[1..]` lends it
pub all_but_first : (w : List ℕ) → take (length w - 1) (drop 1 w) ≡ drop 1 w
all_but_first [] = refl
all_but_first (b ∷ w) = take_all (length (b ∷ w) - 1) w (omega arith)
