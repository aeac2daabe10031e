-- The byte has the bits below `j`.
use Rattle.std.proofs.Common.{◌≡◌, ◌+◌, ◌*◌, ◌&&◌, ltb}
use Rattle.laws.specs.Bits.{number}
use Rattle.log_hops.specs.Hop.{marked}
use Rattle.log_hops.proofs.lent.Pairs.map_byte.Given as goal

abbrev pub invariant-loop-j : goal.invariant-loop-j
invariant-loop-j l = l.byte ≡ number l.j (λ j. ltb (8 * l.b + j) l.self.n && marked l.self l.from (8 * l.b + j))
