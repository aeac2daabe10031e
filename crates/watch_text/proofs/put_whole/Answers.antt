use Rattle.std.proofs.Common.{arith}
use Rattle.laws.proofs.Counts.{flag}
use Rattle.watch_text.proofs.Lines.{decimal-is, whole-put}
use Rattle.watch_text.specs.Text.{written}
use Rattle.watch_text.proofs.put_whole.Goals as goal

pub returns : goal.returns
returns c =
    whole-put (written c.args.line.now) _ _ _ c.args.width c.decimal-k.result _ c.args.is_below c.args.x _ c.decimal-k.ensures.in_bounds.1
    (decimal-is c.decimal-k.result c.args.x _ (omega arith) c.decimal-k.ensures.len c.decimal-k.ensures.digits)
    (omega (arith, flag c.args.is_below))
    c.put_spaces.ensures c.put_sign.ensures c.put_text.ensures
