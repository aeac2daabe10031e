use Rattle.watch_lines.proofs.Texts.{both}
use Rattle.watch_lines.proofs.put_channel_line.Goals as goal

pub returns : goal.returns
returns c =
    both _ _ _ _ _ c.put_channel_floors.ensures
    (both _ _ _ _ _ c.put_worst_column.ensures
    (both _ _ _ _ _ c.put_origins.ensures
    c.put_channel_end.ensures))
