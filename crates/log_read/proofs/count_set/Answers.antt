-- One bit more: the tally of one more is that bit as a number more.
use Rattle.std.proofs.Common.{◌≡◌, ℕ, Bool, refl, ap, ◌∙◌, arith}
use Rattle.laws.specs.Lists.{one}
use Rattle.laws.specs.Tests.{tally}
use Rattle.laws.proofs.Counting.{one-le}
use Rattle.laws.proofs.Counts.{flag}
use Rattle.laws.proofs.Tallies.{tally-more}
use Rattle.log_model.specs.Read.{is_set}
use Rattle.log_read.proofs.count_set.Goals as goal

pub loop-k-init : goal.loop-k-init
unfolding tally
loop-k-init c = (refl, omega arith)

pub overflow_add-count : goal.overflow_add-count
overflow_add-count c = omega (arith, c.loop-k.invariant.1, c.from-count.ensures ∙ flag c.is_set.result, one-le c.is_set.result)

pub loop-k-preserved : goal.loop-k-preserved
loop-k-preserved c =
    let p : ℕ → Bool = is_set c.args.log.now c.args.at in
    let e = c.from-count.ensures ∙ flag c.is_set.result ∙ ap one c.is_set.ensures in
    (omega (arith, c.loop-k.invariant.0, tally-more c.loop-k.k p, e), omega (arith, c.loop-k.invariant.1, e, one-le (p c.loop-k.k)))

pub returns : goal.returns
returns c =
    let e : c.loop-k.k ≡ c.args.n = omega arith in
    (c.loop-k.invariant.0 ∙ ap (λ (i : ℕ). tally i (is_set c.args.log.now c.args.at)) e, omega (arith, c.loop-k.invariant.1))
