-- `up` is whether one of the first i bytes of a group, which are w apart, has a flag with its mask bit.
use Rattle.std.proofs.Common.{◌≡◌, ◌+◌, List, ℕ, Bool, get_or, eqb, not}
use Rattle.std.specs.Int.Bits.{bit_and, bit_or}
use Rattle.laws.specs.Tests.{any_below}
use Rattle.registers.proofs.wire.Given as goal

abbrev pub calls_at : List ℕ → ℕ → ℕ → Bool
calls_at m w i = not (eqb (bit_and (bit_or (get_or m i 0) (get_or m (w + i) 0)) (get_or m (w + w + i) 0)) 0)

abbrev pub invariant-loop-i : goal.invariant-loop-i
invariant-loop-i l = l.up ≡ any_below l.i (calls_at l.map l.w)
