-- What the C interface answers and writes for a log: a value behind a reference is written only where the answer is 0. "End" is no refusal, and
-- its number stands outside their range: 100.
use Rattle.std.specs.Prelude.{List, ℕ, Option, Result}
use Rattle.refusals.specs.Readings.{number, value_or, number_with, some_or}

-- the answer, and what the length becomes that was v, beside what the output holds
abbrev pub write_answered : ℕ → Result ℕ ℕ × List ℕ → ℕ × ℕ × List ℕ
write_answered v w = (number w.0, value_or v w.0, w.1)

-- the answer, and what the position becomes, beside what the two slices hold
abbrev pub read_answered : ℕ → Result (Option ℕ) ℕ × List ℕ × List ℕ → ℕ × ℕ × List ℕ × List ℕ
read_answered at x = (number_with 100 x.0, some_or at x.0, x.1, x.2)
