-- The lower end is below the upper one: antt computes it. Assumes nothing.
use lib.Ieee.{le, of_bits}
use Rattle.ladder.proofs.held.Goals as goal

pub clamp-requires : goal.clamp-requires
unfolding le of_bits
clamp-requires c = tt
