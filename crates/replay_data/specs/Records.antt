-- The list of records: places in it, what the next record makes of the sizes and of the hop's place, and what stands there.
use Rattle.std.specs.Prelude.{Bool, not, cond, ◌&&◌, ◌||◌, List, ℕ, ◌+◌, ◌*◌, ◌%◌, ◌^◌, eqb, leb, Float, Result, Ok, Err}
use mathlib.Core.List.{foldl}
use Rattle.std.specs.Float.Ieee.{eq, is_nan}
use Rattle.laws.specs.Lists.{one}
use Rattle.laws.specs.Tests.{differ}
use Rattle.low_first.specs.LowFirst.{byte_at, low_two, low_eight, double_at}

-- a sum in 64 bits; a list is far shorter than one that wraps
abbrev pub after : ℕ → ℕ → ℕ
after at bytes = (at + bytes) % 2 ^ 64

-- the record at this place is of this kind
abbrev pub is_kind : ℕ → List ℕ → ℕ → Bool
is_kind kind l at = eqb (byte_at l (at + 0)) kind

-- the bank's n behind a record: that of a fresh bank stands in it
abbrev pub channels : List ℕ → ℕ → ℕ → ℕ
channels l at n = cond (is_kind 1 l at) (byte_at l (at + 1)) n

-- how long the gate's f64 store is: for a fresh gate it stands in the record
abbrev pub floats : List ℕ → ℕ → ℕ → ℕ
floats l at old = cond (is_kind 6 l at) (low_two l (after at 2)) old

-- where the hop of the last single bank update stands
abbrev pub hop : List ℕ → ℕ → ℕ → ℕ
hop l at old = cond (is_kind 2 l at) (after at 2) old

-- a replay has room for a bank and a gate of such sizes
abbrev pub has_room : ℕ → ℕ → Bool
has_room n floats = leb n 33 && leb floats 2314

-- the value stands at this place: floats by what they are as numbers, where NaNs are equal
abbrev pub byte_stands : ℕ → List ℕ → ℕ → Bool
byte_stands x l at = eqb x (byte_at l (at + 0))

abbrev pub double_stands : Float → List ℕ → ℕ → Bool
double_stands x l at = eq x (double_at l at) || is_nan x && is_nan (double_at l at)

-- one value more: how many so far are not the ones that stand there, and where the next one stands
abbrev pub next_value : {A : Type 0} → (A → List ℕ → ℕ → Bool) → ℕ → List ℕ → ℕ × ℕ → A → ℕ × ℕ
next_value stands bytes l (count, at) x = ((count + one (not (stands x l at))) % 2 ^ 64, after at bytes)

-- how many values, of so many bytes each, are not the ones that stand from this place on
abbrev pub differing : {A : Type 0} → (A → List ℕ → ℕ → Bool) → ℕ → List ℕ → ℕ → List A → ℕ
differing stands bytes l at values = (foldl (next_value stands bytes l) (0, at) values).0

-- a store's words as one number: each place has a weight of its own
abbrev pub next_word : ℕ → ℕ → ℕ
next_word sum word = (3 * sum + word) % 2 ^ 64

abbrev pub sum_of : List ℕ → ℕ
sum_of words = foldl next_word 0 words

-- how many differences a record of a store has: its sum stands behind the first byte, its floats behind the sum
abbrev pub stores_differ : List ℕ → ℕ → List ℕ → List Float → ℕ
stores_differ l at words floats =
    (one (differ (sum_of words) (low_eight l (after at 1))) + differing double_stands 8 l (after at 9) floats) % 2 ^ 64

-- a call's reading, or the number of its refusal, is not what is due: the number of a refusal, or 0 and the value that stands at this place
abbrev pub reading_differs : Result Float ℕ → ℕ → List ℕ → ℕ → Bool
reading_differs (Ok x) due l at = differ due 0 || not (double_stands x l at)
reading_differs (Err e) due l at = differ e due
