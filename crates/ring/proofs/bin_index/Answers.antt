-- The three ways out are the three cases of the floor held to 0..last_bin. Assumes nothing.
use Rattle.std.proofs.Common.{sym, refl, ◌∙◌, arith, lit≤}
use lib.Ieee.{Float, div, add, binary64, of_bits}
use Rattle.model.specs.Numbers.{half}
use Rattle.model.specs.Layout.{depth, last_bin}
use Rattle.model.specs.Ring.{bin_of}
use Rattle.model.proofs.Bins.{Between, between, above, below}
use Rattle.ring.proofs.bin_index.Goals as goal
use Rattle.ring.proofs.bin_index.Goals.{Then-z-2}

abbrev z_of : Float → Float
z_of p = div binary64 (add binary64 p depth) half

-- the two blanks are what the float of `bins` is: m * 2 ^ j
here : (c : Then-z-2) → Between (z_of c.args.p) last_bin
unfolding of_bits
here c = between _ _ last_bin refl (lit≤ tt) _ c.if-z.true c.if-z-2.true

pub truncating_f64_to_u64-requires-clause-lower_bound : goal.truncating_f64_to_u64-requires-clause-lower_bound
truncating_f64_to_u64-requires-clause-lower_bound c = (here c).low

pub truncating_f64_to_u64-requires-clause-upper_bound : goal.truncating_f64_to_u64-requires-clause-upper_bound
truncating_f64_to_u64-requires-clause-upper_bound c = (here c).high

pub overflow_cast-result : goal.overflow_cast-result
overflow_cast-result c = omega (arith, (here (goal.at.overflow_cast-result c).Then-z-2).small)

pub returns-then-z-2 : goal.returns-then-z-2
unfolding bin_of
returns-then-z-2 c = c.truncating_f64_to_u64.ensures ∙ (here (goal.at.returns-then-z-2 c).Then-z-2).whole

pub returns-else-z-2 : goal.returns-else-z-2
unfolding bin_of of_bits
returns-else-z-2 c = sym (above _ _ last_bin refl (lit≤ tt) (z_of c.args.p) c.if-z.true c.if-z-2.false)

pub returns-else-z : goal.returns-else-z
unfolding bin_of of_bits
returns-else-z c = sym (below last_bin (z_of c.args.p) c.if-z.false)
