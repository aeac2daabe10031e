-- R-5: at the top, a step up, and a whole number. Assumes nothing.
use Rattle.std.proofs.Common.{sym, ap, ◌∙◌, arith, lit≤}
use lib.Ieee.{Float, lt}
use Rattle.model.specs.Layout.{rungs_above}
use Rattle.model.proofs.Ceilings.{at_top, steps_up, stays}
use Rattle.ladder.proofs.ceil_held.Goals as goal

pub returns-then-t-ge-RUNGS_ABOVE_U16 : goal.returns-then-t-ge-RUNGS_ABOVE_U16
returns-then-t-ge-RUNGS_ABOVE_U16 c = (at_top rungs_above (lit≤ tt) c.args.x (omega (arith, c.floor_held-t.ensures.0)), omega arith)

pub returns-then-from-x : goal.returns-then-from-x
returns-then-from-x c =
    let up = sym (ap (λ (y : Float). lt y c.args.x) c.from.ensures) ∙ c.if-from-x.true in
    (steps_up rungs_above (lit≤ tt) c.args.x c.floor_held-t.result c.floor_held-t.ensures.0 (omega arith) up, omega arith)

pub returns-else-from-x : goal.returns-else-from-x
returns-else-from-x c =
    let whole = sym (ap (λ (y : Float). lt y c.args.x) c.from.ensures) ∙ c.if-from-x.false in
    (stays rungs_above (lit≤ tt) c.args.x c.floor_held-t.result c.floor_held-t.ensures.0 (omega arith) whole, omega arith)
