use Rattle.std.proofs.Common.{refl, le-ltb, lt-ltb}
use Rattle.watch_text.proofs.Lines.{ended}
use Rattle.watch_text.specs.Text.{written}
use Rattle.watch_floats.specs.Floats.{scaled_text}
use Rattle.watch_floats.proofs.put_scaled.Goals as goal

pub returns-then-tens-lt100 : goal.returns-then-tens-lt100
unfolding scaled_text
returns-then-tens-lt100 c = rw (lt-ltb c.args.s.tens 100 c.if-tens-lt100.true) (ended (written c.args.line.now) _ _ c.args.width _ 4 _ _ _ c.saturating_sub.ensures refl c.put_db.ensures c.put_text.ensures (simp (c.glyph.ensures, c.glyph-then-tens-lt100.ensures)))

pub returns-else-tens-lt100 : goal.returns-else-tens-lt100
unfolding scaled_text
returns-else-tens-lt100 c = rw (le-ltb c.args.s.tens 100 c.if-tens-lt100.false) (ended (written c.args.line.now) _ _ c.args.width _ 5 _ _ _ c.saturating_sub-else-tens-lt100.ensures refl c.put_db-else-tens-lt100.ensures c.put_text-else-tens-lt100.ensures (simp (c.glyph-else-tens-lt100.ensures, c.glyph-else-tens-lt100-2.ensures, c.glyph-else-tens-lt100-3.ensures)))
