use Rattle.std.proofs.Common.{refl}
use Rattle.watch_text.proofs.Lines.{ended}
use Rattle.watch_text.specs.Text.{written}
use Rattle.watch_text.proofs.put_parts.Goals as goal

pub returns : goal.returns
returns c =
    ended (written c.args.line.now) _ _ c.args.width _ _ _ _ _ c.saturating_sub.ensures refl c.put_whole.ensures c.put_text.ensures refl
