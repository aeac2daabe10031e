-- The three ways out are the three cases of the floor held to 0..rungs_above. Assumes nothing.
use Rattle.std.proofs.Common.{sym, refl, ◌∙◌, arith, lit≤}
use lib.Ieee.{of_bits}
use Rattle.model.specs.Layout.{rungs_above}
use Rattle.model.proofs.Bins.{Between, between, above, below}
use Rattle.ladder.proofs.floor_held.Goals as goal
use Rattle.ladder.proofs.floor_held.Goals.{Then-x-2}

here : (c : Then-x-2) → Between c.args.x rungs_above
unfolding of_bits
here c = between _ _ rungs_above refl (lit≤ tt) _ c.if-x.true c.if-x-2.true

pub truncating_f64_to_u64-requires-clause-lower_bound : goal.truncating_f64_to_u64-requires-clause-lower_bound
truncating_f64_to_u64-requires-clause-lower_bound c = (here c).low

pub truncating_f64_to_u64-requires-clause-upper_bound : goal.truncating_f64_to_u64-requires-clause-upper_bound
truncating_f64_to_u64-requires-clause-upper_bound c = (here c).high

pub overflow_cast-result : goal.overflow_cast-result
overflow_cast-result c = omega (arith, (here (goal.at.overflow_cast-result c).Then-x-2).small)

pub returns-then-x-2 : goal.returns-then-x-2
returns-then-x-2 c =
    let h = here (goal.at.returns-then-x-2 c).Then-x-2 in
    (c.truncating_f64_to_u64.ensures ∙ h.whole, omega (arith, h.small))

pub returns-else-x-2 : goal.returns-else-x-2
unfolding of_bits
returns-else-x-2 c = (sym (above _ _ rungs_above refl (lit≤ tt) c.args.x c.if-x.true c.if-x-2.false), omega arith)

pub returns-else-x : goal.returns-else-x
unfolding of_bits
returns-else-x c = (sym (below rungs_above c.args.x c.if-x.false), omega arith)
