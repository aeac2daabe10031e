-- Numbers as words of the command line, digits alone: a channel, 511 at most, and a span of slow hops (document 02, R-6), 1 to 600. None
-- stands for a word that is none.
use Rattle.std.specs.Prelude.{cond, ◌&&◌, ℕ, ◌+◌, ◌*◌, ◌-◌, eqb, leb, length, Option, Some, None}
use mathlib.Core.List.{List, foldl}
use Rattle.laws.specs.Tests.{within}

-- one byte more: 48 is the digit 0. Nothing that follows makes a number of what is none, or above 600
unfoldable pub step : Option ℕ → ℕ → Option ℕ
step (Some v) b = cond (leb v 600 && within 48 57 b) (Some (10 * v + (b - 48))) None
step None b = None

-- a number from a to b
abbrev pub from_to : ℕ → ℕ → Option ℕ → Option ℕ
from_to a b (Some v) = cond (within a b v) (Some v) None
from_to a b None = None

unfoldable pub channel_of : List ℕ → Option ℕ
channel_of w = cond (eqb (length w) 0) None (from_to 0 511 (foldl step (Some 0) w))

unfoldable pub span_of : List ℕ → Option ℕ
span_of w = from_to 1 600 (foldl step (Some 0) w)
