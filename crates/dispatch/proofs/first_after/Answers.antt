-- One that is not waiting is passed, and one less is left.
use Rattle.std.proofs.Common.{◌≡◌, sym, ◌∙◌, ◌-◌, ◌+◌, ℕ, arith}
use mathlib.Core.Path.{ap₂}
use Rattle.dispatch.specs.Dispatch.{first_of}
use Rattle.dispatch.proofs.Steps.{after-below, first-stop, first_more, first-none}
use Rattle.dispatch.proofs.first_after.Goals as goal

pub loop-init : goal.loop-init
loop-init c =
    let a = c.args in (
      omega (arith, after-below a.count a.last (omega arith), c.next-i.ensures),
      ap₂ (λ (k i : ℕ). first_of k a.count a.waiting i) (let z : a.count ≡ a.count - 0 = omega arith in z) (sym c.next-i.ensures),
    )

pub returns-then-is_waiting : goal.returns-then-is_waiting
returns-then-is_waiting c =
    let a = c.args in
    let l = c.loop in
    first-stop (a.count - l.counter) a.count a.waiting l.i (omega arith) (sym c.is_waiting.ensures ∙ c.if-is_waiting.true) ∙ sym l.invariant.1

pub loop-preserved : goal.loop-preserved
loop-preserved c =
    let a = c.args in
    let l = c.loop in (
      omega (arith, after-below a.count l.i (omega arith), c.next-i-in-loop.ensures),
      l.invariant.1
          ∙ first_more (a.count - l.counter) a.count a.waiting l.i (omega arith) (sym c.is_waiting.ensures ∙ c.if-is_waiting.false)
          ∙ ap₂ (λ (k i : ℕ). first_of k a.count a.waiting i) (let z : a.count - l.counter - 1 ≡ a.count - (l.counter + 1) = omega arith in z) (sym c.next-i-in-loop.ensures),
    )

pub returns : goal.returns
returns c =
    let a = c.args in
    let l = c.loop in
    first-none (a.count - l.counter) a.count a.waiting l.i (omega arith) ∙ sym l.invariant.1
