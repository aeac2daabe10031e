-- Window lengths as a word: up to eight numbers from 1 to 375, with commas between them.
use Rattle.std.specs.Prelude.{cond, ◌&&◌, ℕ, ◌+◌, ◌*◌, ◌-◌, eqb, ltb, leb, set, Option, Some, None}
use mathlib.Core.List.{List, [], ◌∷◌, foldl}
use Rattle.laws.specs.Tests.{within}
use Rattle.watch_lengths.specs.declared.Lengths.{Lengths}
use Rattle.watch_lengths.specs.declared.Listed.{Listed}

-- eight places, of which the first so many are given
abbrev pub no_lengths : Lengths
no_lengths = record { list = 0 ∷ 0 ∷ 0 ∷ 0 ∷ 0 ∷ 0 ∷ 0 ∷ 0 ∷ []; count = 0 }

-- nothing read yet
abbrev pub begun : Listed
begun = record { lengths = no_lengths; number = 0 }

-- one length more
abbrev pub with_length : Lengths → ℕ → Lengths
with_length l n = record { list = set l.list l.count n; count = l.count + 1 }

-- what was read: None of a word that is no such list. A number ends: it is from 1 to 375, and one of at most eight
unfoldable pub ended : Option Listed → Option Listed
ended (Some s) =
    cond (within 1 375 s.number && ltb s.lengths.count 8) (Some (record { lengths = with_length s.lengths s.number; number = 0 })) None
ended None = None

-- a digit of a number: beyond 375 it only grows
unfoldable pub digit : Option Listed → ℕ → Option Listed
digit (Some s) b =
    cond (within 48 57 b && leb s.number 375) (Some (record { lengths = s.lengths; number = s.number * 10 + (b - 48) })) None
digit None b = None

-- one byte more; 44 is the comma
unfoldable pub step : Option Listed → ℕ → Option Listed
step s b = cond (eqb b 44) (ended s) (digit s b)

-- the lengths that the word lists: none where it is no such list
abbrev pub given : Option Listed → Option Lengths
given (Some s) = Some s.lengths
given None = None

abbrev pub lengths_of : List ℕ → Option Lengths
lengths_of w = given (ended (foldl step (Some begun) w))
