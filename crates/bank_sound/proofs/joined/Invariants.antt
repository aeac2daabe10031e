use Rattle.std.proofs.Common.{◌≡◌, ℕ, ◌<◌, get_or}
use Rattle.bank_sound.specs.Tallies.{lane_sum}
use Rattle.bank_sound.proofs.joined.Given as goal

abbrev pub invariant-loop-b : goal.invariant-loop-b
invariant-loop-b l = (k : ℕ) → k < l.b → get_or l.sum-items k 0 ≡ lane_sum l.t k
