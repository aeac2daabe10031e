use Rattle.std.proofs.Common.{◌≡◌, length}
use Rattle.laws.specs.Tests.{all_below}
use Rattle.bank_sound.specs.Fails.{is_tallied}
use Rattle.bank_sound.proofs.as_tallied.Given as goal

abbrev pub invariant-loop-count : goal.invariant-loop-count
invariant-loop-count l = l.all ≡ all_below (length l.yielded) (is_tallied l.chan l.sums)
