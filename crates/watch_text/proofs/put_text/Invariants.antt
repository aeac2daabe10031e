use Rattle.std.proofs.Common.{◌≡◌, take}
use Rattle.watch_text.specs.Text.{written, put_all}
use Rattle.watch_text.proofs.put_text.Given as goal

abbrev pub invariant-loop-b : goal.invariant-loop-b
invariant-loop-b l = written l.line ≡ put_all (written l.initial.line) (take l.b-index l.text)
