use Rattle.std.proofs.Common.{refl, arith}
use Rattle.watch_text.specs.Text.{written, put_byte, put_all}
use Rattle.laws.proofs.Folds.{fold_next, fold_done}
use Rattle.watch_text.proofs.put_text.Goals as goal

pub loop-b-init : goal.loop-b-init
unfolding put_all
loop-b-init c = refl

pub loop-b-preserved : goal.loop-b-preserved
unfolding put_all
loop-b-preserved c =
    fold_next put_byte (written c.args.line.now) (written c.loop-b.line) _ c.args.text.now c.loop-b.b-index 0 (omega arith) c.loop-b.invariant c.put.ensures

pub returns : goal.returns
unfolding put_all
returns c = fold_done put_byte (written c.args.line.now) (written c.loop-b.line) c.args.text.now c.loop-b.b-index (omega arith) c.loop-b.invariant
