-- `windows::step_look`: the cursor has come round, or it has not.
use Rattle.windows.proofs.Steps.{still-fits, steps_on, steps-round}
use Rattle.windows.proofs.step_look.Goals as goal

pub rebase_look-requires : goal.rebase_look-requires
rebase_look-requires c =
    still-fits c.args.look.now c.args.c c.args.samples.now c.advance-next.result _ c.requires.0 c.advance-next.ensures c.push_look.ensures

pub returns-then-next-eq0 : goal.returns-then-next-eq0
returns-then-next-eq0 c =
    steps-round c.args.look.now c.args.c c.args.samples.now c.advance-next.result _ _ c.requires.0.long c.advance-next.ensures
    c.push_look.ensures c.if-next-eq0.true c.rebase_look.ensures

pub returns-else-next-eq0 : goal.returns-else-next-eq0
returns-else-next-eq0 c =
    steps_on c.args.look.now c.args.c c.args.samples.now c.advance-next.result _ c.advance-next.ensures c.push_look.ensures c.if-next-eq0.false
