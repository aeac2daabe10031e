-- The marks that are left are the first ones, and those behind them are gathered.
use Rattle.std.proofs.Common.{◌≡◌, ◌+◌, ◌-◌, ◌≤◌, ◌<◌, ℕ, length, get_or}
use Rattle.laws.specs.Bits.{number}
use Rattle.bits.proofs.Operators.{mark}
use Rattle.bits.proofs.gathered.Given as goal

abbrev pub invariant-loop-mark : goal.invariant-loop-mark
invariant-loop-mark l = record {
  room : length l.mark-iterator.iter.rest.now ≤ length l.marks;
  first : (i : ℕ) → i < length l.mark-iterator.iter.rest.now → get_or l.mark-iterator.iter.rest.now i 0 ≡ get_or l.marks i 0;
  sum : l.b ≡ number (length l.marks - length l.mark-iterator.iter.rest.now) (λ j. mark l.marks (length l.mark-iterator.iter.rest.now + j));
}
