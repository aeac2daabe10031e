-- n is how many of the entries before x pass, whichever test the closure computes.
use Rattle.std.proofs.Common.{◌≡◌, ◌≤◌, ◌<◌, ℕ, Bool, not, get_or}
use Rattle.bank_sound.specs.Fails.{fails}
use Rattle.bank_sound.proofs.count_of.Given as goal

abbrev pub invariant-loop-x : goal.invariant-loop-x
invariant-loop-x g l =
    goal.F-IsAlwaysCallable g l.passes
    × (l.n ≤ l.x-index)
    × ((p : ℕ → Bool) → ((x : ℕ) (r : Bool) → x < 65536 → goal.F-post g l.passes x r → r ≡ not (p x)) → l.n ≡ fails l.x-index (λ i. p (get_or l.part i 0)))
