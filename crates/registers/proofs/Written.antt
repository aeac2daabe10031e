-- What the code writes into a byte. Assumes nothing.
use mathlib.Core.Path.{◌≡◌, ap, ◌∙◌}
use mathlib.Core.Bool.{Bool, not, ◌&&◌, and_comm}
use mathlib.Core.List.{List}
use Prim.Native.Nat.{ℕ, ◌+◌, ◌-◌, ◌*◌, ◌<◌, ◌≤◌, min}
use native.Mathlib.Omega.{arith}
use lib.Dec.{ltb}
use lib.ListN.{get_or, set}
use lib.Bits.{bit_and, and_lt}
use borrow.Author.Tests.{lt-ltb, le-ltb}
use Rattle.laws.specs.Bits.{bit_at, byte, width}
use Rattle.laws.proofs.Bits.{number_lt, bits-number}
use Rattle.bits.proofs.Operators.{made_of, bits-and, bits-not}
use Rattle.laws.proofs.Tests.{ltb-same}
use Rattle.model.specs.Map.{cleared, replaced, written}

pub clear-is : (b v : ℕ) → b < 256 → v < 256 → bit_and b (255 - v) ≡ cleared b v
unfolding cleared
clear-is b v h k =
    made_of 8 (bit_and b (255 - v)) (λ j. bit_at b j && not (bit_at v j)) (and_lt 8 b (255 - v) h (omega arith))
    (λ j l. bits-and b (255 - v) j ∙ ap (λ (t : Bool). bit_at b j && t) (bits-not 8 v j k l))

-- low has the lowest bits that have channels
pub replace-is : (n i v used low : ℕ) → 8 * i ≤ n → used ≡ min 8 (n - 8 * i) → low ≡ byte (λ j. ltb j used) → v < 256 → bit_and v low ≡ replaced n i v
unfolding replaced
replace-is n i v used low h e f k =
    made_of 8 (bit_and v low) (λ j. ltb (8 * i + j) n && bit_at v j) (and_lt 8 v low k (omega (arith, f, number_lt 8 (λ j. ltb j used))))
    (λ j l.
    bits-and v low j
    ∙ ap (λ (t : Bool). bit_at v j && t)
    (ap (λ (x : ℕ). bit_at x j) f ∙ bits-number 8 (λ j. ltb j used) j l ∙ ltb-same j used (8 * i + j) n (λ z. omega arith) (λ z. omega arith))
    ∙ and_comm (bit_at v j) (ltb (8 * i + j) n))

pub written-flag : (n : ℕ) (m : List ℕ) (a v x : ℕ) → a < width n + width n → x ≡ cleared (get_or m a 0) v → set m a x ≡ written n m a v
unfolding written
written-flag n m a v x h e = rw (lt-ltb a (width n + width n) h) (ap (set m a) e)

pub written-mask : (n : ℕ) (m : List ℕ) (a v x : ℕ) → width n + width n ≤ a → x ≡ replaced n (a - (width n + width n)) v → set m a x ≡ written n m a v
unfolding written
written-mask n m a v x h e = rw (le-ltb a (width n + width n) h) (ap (set m a) e)
