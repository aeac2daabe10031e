use Rattle.std.proofs.Common.{◌*◌}
use Rattle.bank_sound.specs.Tallies.{Tallied}
use Rattle.bank_sound.proofs.count_all.Given as goal

abbrev pub invariant-loop-eight : goal.invariant-loop-eight
invariant-loop-eight l = Tallied (8 * l.eight) l.ring.chan.now l.t

abbrev pub invariant-loop-k : goal.invariant-loop-k
invariant-loop-k l = Tallied l.k l.ring.chan.now l.t
