use Rattle.std.proofs.Common.{◌≡◌}
use Rattle.watch_text.specs.Text.{written, put_all, spaces}
use Rattle.watch_text.proofs.put_spaces.Given as goal

abbrev pub invariant-loop : goal.invariant-loop
invariant-loop l = written l.line ≡ put_all (written l.initial.line) (spaces l.counter)
