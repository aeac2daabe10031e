use Rattle.watch_lines.proofs.Texts.{right_0}
use Rattle.watch_lines.specs.Lines.{put_texts}
use Rattle.watch_fault_lines.proofs.put_room.Goals as goal

pub returns : goal.returns
unfolding put_texts
returns c = simp (c.put_text-3.ensures, c.put_number-3.ensures, c.put_text-2.ensures, c.put_number-2.ensures, c.put_text.ensures, c.put_number.ensures, c.from.ensures, right_0)
