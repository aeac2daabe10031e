-- The floor below 0 dB from one that is held to 0..rungs_above, and that the roots are exact as f64. Assumes nothing.
use Rattle.std.proofs.Common.{◌≡◌, ℕ, ◌<◌, min, true, false, ltb, refl, arith, ltb-true}
use lib.Ieee.{Float, nan, inf, fin}
use Rattle.laws.specs.Tests.{all_below}
use Rattle.laws.proofs.Tests.{all-at}
use Rattle.model.specs.Layout.{rungs_below, rungs_above}
use Rattle.model.specs.Ring.{floor_held}
use Rattle.model.specs.Ladder.{root_of}

-- held to less
pub held-less : (x : Float) → floor_held rungs_below x ≡ min (floor_held rungs_above x) rungs_below
unfolding floor_held
held-less nan = refl
held-less (inf true) = refl
held-less (inf false) = refl
held-less (fin true m e) = refl
held-less (fin false m e) = omega arith

small-test : all_below 80 (λ j. ltb (root_of j) 9716279516) ≡ true
unfolding all_below root_of
small-test = refl

pub root-small : (j : ℕ) → j < 80 → root_of j < 9716279516
root-small j h = ltb-true (root_of j) 9716279516 (all-at (λ i. ltb (root_of i) 9716279516) 80 j small-test h)
