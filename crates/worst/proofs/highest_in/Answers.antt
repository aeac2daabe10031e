-- `worst::highest_in`: a ring that is full is taken in two parts, one that isn't in one.
use Rattle.std.proofs.Common.{◌≡◌, ◌-◌, ◌∙◌, ap, ℕ, get_or, arith}
use mathlib.Core.List.{foldl}
use native.Mathlib.Nat.{le_antisymm}
use lib.Ieee.{nan}
use Rattle.laws.specs.Lists.{part}
use Rattle.model.specs.Numbers.{fmax}
use Rattle.worst.proofs.Highs.{full, partly}
use Rattle.worst.proofs.highest_in.Goals as goal

pub returns-then-next-filled : goal.returns-then-next-filled
returns-then-next-filled c =
    let a = c.args in
    let high = c.highest_from-high.result in
    let z : a.next - 0 ≡ a.next = omega arith in
    full a.ring.now a.next a.filled c.requires.2 c.if-next-filled.true high c.highest_from.result c.highest_from-high.ensures
    (c.highest_from.ensures ∙ ap (λ (k : ℕ). foldl fmax high (part 0 k a.ring.now)) z)

pub returns-else-next-filled : goal.returns-else-next-filled
returns-else-next-filled c =
    let a = c.args in
    let z : a.next - 0 ≡ a.next = omega arith in
    partly a.ring.now a.next a.filled c.requires.2 c.requires.1 (le_antisymm c.requires.0 c.if-next-filled.false) c.highest_from-else-next-filled.result
    (c.highest_from-else-next-filled.ensures ∙ ap (λ (k : ℕ). foldl fmax (get_or a.ring.now 0 nan) (part 0 k a.ring.now)) z)
