-- "A reading is either a value or a refusal number", whatever the value is: what is read, what this paper answers for it, and what C is given.
use Rattle.std.specs.Prelude.{ℕ, zero, suc, Option, Some, None, Result, Ok, Err}

-- the value x, or the refusal r
abbrev pub reading : {A : Type 0} → ℕ → A → Result A ℕ
reading zero x = Ok x
reading (suc r) x = Err (suc r)

-- this paper's number of a reading, and its value; d where it has none
abbrev pub number : {A : Type 0} → Result A ℕ → ℕ
number (Ok x) = 0
number (Err r) = r

abbrev pub value_or : {A : Type 0} → A → Result A ℕ → A
value_or d (Ok x) = x
value_or d (Err r) = d

-- for C: the answer, and what the value behind a reference becomes that was d: it is written only where the answer is 0
abbrev pub answered : {A : Type 0} → A → Result A ℕ → ℕ × A
answered d x = (number x, value_or d x)

-- of a reading that may be none, which is no refusal and has a number outside their range
abbrev pub number_with : {A : Type 0} → ℕ → Result (Option A) ℕ → ℕ
number_with none (Ok (Some x)) = 0
number_with none (Ok None) = none
number_with none (Err r) = r

abbrev pub some_or : {A : Type 0} → A → Result (Option A) ℕ → A
some_or d (Ok (Some x)) = x
some_or d (Ok None) = d
some_or d (Err r) = d

abbrev pub some_answered : {A : Type 0} → ℕ → A → Result (Option A) ℕ → ℕ × A
some_answered none d x = (number_with none x, some_or d x)
