use Rattle.std.proofs.Common.{ℕ, ◌+◌, ◌*◌, ap, ◌∙◌, arith}
use Rattle.laws.proofs.Fills.{turns}
use Rattle.low_first.specs.LowFirst.{single_at}
use Rattle.watch_recording.proofs.fill_power.Invariants.{power_of}
use Rattle.watch_recording.proofs.fill_power.Goals as goal

pub loop-k-preserved : goal.loop-k-preserved
loop-k-preserved c = turns c.args.power.now (power_of c.args.hop.now c.args.n) c.loop-k.k c.loop-k.power c.single_at.result c.loop-k.invariant (omega arith) (c.single_at.ensures ∙ ap (λ (a : ℕ). single_at c.args.hop.now (1 + 8 * a + 4 * c.loop-k.k)) c.from.ensures)
