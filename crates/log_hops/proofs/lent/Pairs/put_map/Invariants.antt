-- The bytes below `b` are written.
use Rattle.std.proofs.Common.{◌+◌, ◌*◌, ◌&&◌, ltb}
use Rattle.laws.specs.Bits.{byte}
use Rattle.laws.proofs.Fills.{Filled}
use Rattle.log_hops.specs.Hop.{marked}
use Rattle.log_hops.proofs.lent.Pairs.put_map.Given as goal

abbrev pub invariant-loop-b : goal.invariant-loop-b
invariant-loop-b l =
    Filled l.initial.byte-items (λ b. byte (λ j. ltb (8 * b + j) l.self.n && marked l.self l.from (8 * b + j))) l.b l.byte-items
