-- The bytes below the index are written, and `rest` is what is left of x above them.
use Rattle.std.proofs.Common.{◌≡◌, ◌%◌}
use Rattle.laws.proofs.Fills.{Filled}
use Rattle.low_first.specs.LowFirst.{without}
use Rattle.log_hops.proofs.put_low.Given as goal

abbrev pub invariant-loop-byte : goal.invariant-loop-byte
invariant-loop-byte l = (l.rest ≡ without l.byte-index l.x) × Filled l.initial.byte-items (λ j. without j l.x % 256) l.byte-index l.byte-items
