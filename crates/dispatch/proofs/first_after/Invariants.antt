-- The first of all is the first of those that are left, from `i` on.
use Rattle.std.proofs.Common.{◌≡◌, ◌<◌, ◌-◌}
use Rattle.dispatch.specs.Dispatch.{first_of, first_after}
use Rattle.dispatch.proofs.first_after.Given as goal

abbrev pub invariant-loop : goal.invariant-loop
invariant-loop l = (l.i < l.count) × (first_after l.count l.waiting l.last ≡ first_of (l.count - l.counter) l.count l.waiting l.i)
