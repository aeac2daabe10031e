-- n is the count in the entries before x, whichever test the closure computes.
use Rattle.std.proofs.Common.{◌≡◌, ◌≤◌, Bool, take}
use lib.Ieee.{Float}
use Rattle.laws.specs.Lists.{count}
use Rattle.median.proofs.count_of.Given as goal

abbrev pub invariant-loop-x : goal.invariant-loop-x
invariant-loop-x g l =
    goal.F-IsAlwaysCallable g l.passes
    × (l.n ≤ l.x-index)
    × ((p : Float → Bool) → ((x : Float) (r : Bool) → goal.F-post g l.passes x r → r ≡ p x) → l.n ≡ count p (take l.x-index l.l))
