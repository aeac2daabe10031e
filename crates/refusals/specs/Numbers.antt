-- This paper's number of each refusal (document 01's table, then document 02's), and of what a call answers: 0 is no refusal.
use Rattle.std.specs.Prelude.{ℕ, Result, Ok, Err}
use Rattle.refusals.specs.declared.Refusal.{Refusal}
use Rattle.refusals.specs.declared.Refusal.TheVariants as R

abbrev pub number_of : Refusal → ℕ
number_of R.Band = 1
number_of R.StoreSize = 2
number_of R.Lengths = 3
number_of R.Level = 4
number_of R.HopSize = 5
number_of R.Garbled = 6
number_of R.Channel = 7
number_of R.Mismatch = 8
number_of R.Unsound = 9
number_of R.Cut = 10
number_of R.Damaged = 11
number_of R.Span = 12
number_of R.Unlike = 13
number_of R.Segments = 14
number_of R.Address = 15
number_of R.Right = 16

-- of a call without a reading: 0, or the number of its refusal
abbrev pub answer : Result (Unit {0}) Refusal → ℕ
answer (Ok x) = 0
answer (Err e) = number_of e

-- the same of what has its numbers by `of`
abbrev pub answer_by : {E : Type 0} → (E → ℕ) → Result (Unit {0}) E → ℕ
answer_by of (Ok x) = 0
answer_by of (Err e) = of e

-- of a call with a reading: the value, or the number of its refusal
abbrev pub numbered_by : {A E : Type 0} → (E → ℕ) → Result A E → Result A ℕ
numbered_by of (Ok x) = Ok x
numbered_by of (Err e) = Err (of e)

abbrev pub numbered : {A : Type 0} → Result A Refusal → Result A ℕ
numbered = numbered_by number_of
