use Rattle.std.proofs.Common.{◌≡◌, ◌-◌, sym, refl, ap, ◌∙◌, ℕ, arith}
use Rattle.watch_floats.proofs.Scales.{scale-next, scale-stays, scale-ends}
use Rattle.watch_floats.specs.Floats.{scale_of}
use Rattle.watch_floats.proofs.scale.Goals as goal

pub loop-tens-init : goal.loop-tens-init
unfolding scale_of
loop-tens-init c = refl

pub loop-tens-preserved : goal.loop-tens-preserved
loop-tens-preserved c = c.loop-tens.invariant ∙ scale-next (record { x = c.loop-tens.size; tens = c.loop-tens.tens }) (omega arith) c.if-not-size.false

pub returns-then-not-size : goal.returns-then-not-size
returns-then-not-size c = sym (c.loop-tens.invariant ∙ scale-stays (330 - c.loop-tens.tens) _ c.if-not-size.true)

pub returns : goal.returns
returns c =
    let k = c.loop-tens in
    let e : 330 ≡ k.tens = omega arith in
    ap (λ (n : ℕ). record { x = k.size; tens = n }) e ∙ sym (k.invariant ∙ scale-ends (330 - k.tens) _ (omega arith))
