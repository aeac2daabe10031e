-- One pair more: the tally of one more is whether it changed, as a number, more.
use Rattle.std.proofs.Common.{◌≡◌, ℕ, Bool, refl, ap, ◌∙◌, arith}
use Rattle.laws.specs.Lists.{one}
use Rattle.laws.specs.Tests.{tally}
use Rattle.laws.proofs.Counting.{one-le}
use Rattle.laws.proofs.Counts.{flag}
use Rattle.laws.proofs.Tallies.{tally-more}
use Rattle.log_hops.specs.Hop.{marked}
use Rattle.log_hops.proofs.lent.Pairs.count_changed.Goals as goal

pub loop-k-init : goal.loop-k-init
unfolding tally
loop-k-init c = (refl, omega arith)

pub overflow_add-changed : goal.overflow_add-changed
overflow_add-changed c = omega (arith, c.loop-k.invariant.1, c.from-changed.ensures ∙ flag c.is_changed.result, one-le c.is_changed.result)

pub loop-k-preserved : goal.loop-k-preserved
loop-k-preserved c =
    let p : ℕ → Bool = marked c.args.self.now c.args.from in
    let e = c.from-changed.ensures ∙ flag c.is_changed.result ∙ ap one c.is_changed.ensures in
    (omega (arith, c.loop-k.invariant.0, tally-more c.loop-k.k p, e), omega (arith, c.loop-k.invariant.1, e, one-le (p c.loop-k.k)))

pub returns : goal.returns
returns c =
    let e : c.loop-k.k ≡ c.args.count = omega arith in
    (c.loop-k.invariant.0 ∙ ap (λ (i : ℕ). tally i (marked c.args.self.now c.args.from)) e, omega (arith, c.loop-k.invariant.1))
