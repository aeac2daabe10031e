use Rattle.std.proofs.Common.{ℕ, ◌+◌, ◌%◌, ◌^◌, ap, ◌∙◌, arith}
use Rattle.laws.specs.Lists.{one}
use Rattle.laws.proofs.Fills.{unwritten, turns, done}
use Rattle.laws.proofs.Counts.{flag}
use Rattle.watch_states.specs.States.{counts_after}
use Rattle.watch_states.proofs.count_set.Invariants.{count_of}
use Rattle.watch_states.proofs.count_set.Goals as goal

pub loop-k-preserved : goal.loop-k-preserved
loop-k-preserved c =
    let e : ℕ → ℕ = count_of c.args.counts.now c.args.marks.now in
    let now-k = unwritten c.args.counts.now e c.loop-k.k c.loop-k.counts 0 0 c.loop-k.invariant (omega arith) in
    turns c.args.counts.now e c.loop-k.k c.loop-k.counts _ c.loop-k.invariant (omega arith)
    (λ i. (now-k i + (c.from.ensures ∙ flag c.is_set.result ∙ ap one c.is_set.ensures) i) % 2 ^ 64)

pub returns : goal.returns
unfolding counts_after
returns c =
    done c.args.counts.now (count_of c.args.counts.now c.args.marks.now) c.loop-k.k c.loop-k.counts c.loop-k.invariant (omega arith)
