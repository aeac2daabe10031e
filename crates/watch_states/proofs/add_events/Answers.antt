use Rattle.std.proofs.Common.{ℕ, ◌∙◌, arith}
use lib.Bits.{bit_or}
use Rattle.laws.proofs.Fills.{unwritten, turns, done}
use Rattle.watch_states.specs.States.{events_after}
use Rattle.watch_states.proofs.add_events.Invariants.{event_of}
use Rattle.watch_states.proofs.add_events.Goals as goal

pub loop-k-preserved : goal.loop-k-preserved
loop-k-preserved c =
    let e : ℕ → ℕ = event_of c.args.events.now c.args.alive.now c.args.rise.now c.args.drop.now in
    let now-k = unwritten c.args.events.now e c.loop-k.k c.loop-k.events 0 0 c.loop-k.invariant (omega arith) in
    turns c.args.events.now e c.loop-k.k c.loop-k.events _ c.loop-k.invariant (omega arith) (λ i. bit_or (now-k i) ((c.noted.ensures ∙ c.change_at.ensures) i))

pub returns : goal.returns
unfolding events_after
returns c =
    done c.args.events.now (event_of c.args.events.now c.args.alive.now c.args.rise.now c.args.drop.now) c.loop-k.k c.loop-k.events c.loop-k.invariant (omega arith)
