use Rattle.std.proofs.Common.{◌∙◌, sym}
use Rattle.gate_making.proofs.Makes.{put-seen, put-new}
use Rattle.gate_making.proofs.put_length.Goals as goal

pub returns-then-seen : goal.returns-then-seen
returns-then-seen c = put-seen c.args.gate.now c.args.lengths.now c.args.i (sym c.seen.ensures ∙ c.if-seen.true)

pub returns : goal.returns
returns c = put-new c.args.gate.now c.args.lengths.now c.args.i c.from.result (sym c.seen.ensures ∙ c.if-seen.false) c.from.ensures
