use Rattle.std.proofs.Common.{ℕ, eqb, ap, ◌∙◌, arith}
use Rattle.laws.specs.Lists.{one}
use Rattle.laws.proofs.Fills.{unwritten, turns, done}
use Rattle.laws.proofs.Counts.{flag}
use Rattle.watch_states.specs.States.{state_after, states_after}
use Rattle.watch_states.proofs.step_states.Invariants.{state_of}
use Rattle.watch_states.proofs.step_states.Goals as goal

pub loop-k-preserved : goal.loop-k-preserved
loop-k-preserved c =
    let e : ℕ → ℕ = state_of c.args.alive.now c.args.rise.now c.args.drop.now in
    let now-k = unwritten c.args.alive.now e c.loop-k.k c.loop-k.alive 0 0 c.loop-k.invariant (omega arith) in
    turns c.args.alive.now e c.loop-k.k c.loop-k.alive c.from.result c.loop-k.invariant (omega arith)
    (c.from.ensures ∙ flag c.state_after.result ∙ ap one (c.state_after.ensures ∙ (λ i. state_after (eqb (now-k i) 1) (c.is_set.ensures i) (c.is_set-in-loop-k.ensures i))))

pub returns : goal.returns
unfolding states_after
returns c =
    done c.args.alive.now (state_of c.args.alive.now c.args.rise.now c.args.drop.now) c.loop-k.k c.loop-k.alive c.loop-k.invariant (omega arith)
