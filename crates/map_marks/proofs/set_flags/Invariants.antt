-- `map_marks::set_flags`: the first i bytes of flags are set.
use Rattle.std.proofs.Common.{◌+◌, ◌*◌, ◌<◌, ◌||◌, List, ℕ, get_or}
use Rattle.laws.specs.Bits.{byte, bit_of}
use Rattle.laws.proofs.Fills.{Filled}
use Rattle.model.specs.Map.{marked}
use Rattle.map_marks.proofs.set_flags.Given as goal

-- byte i of the flags once they are set
abbrev pub byte_of : List ℕ → List ℕ → ℕ → ℕ
byte_of l marks i = byte (λ j. bit_of l (8 * i + j) || marked marks (8 * i + j))

abbrev pub invariant-loop-i : goal.invariant-loop-i
invariant-loop-i l = record {
  set : Filled l.fn.flags (byte_of l.fn.flags l.marks) l.i l.flags;
  bytes : (k : ℕ) → get_or l.fn.flags k 0 < 256;
}
