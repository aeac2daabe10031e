-- `gate_lengths::floats_more`: nothing for a length that was seen.
use Rattle.std.proofs.Common.{◌≡◌, get_or, sym, ap, ◌∙◌, arith}
use Rattle.model.specs.GateStores.{look_size}
use Rattle.gate_lengths.specs.Makes.{floats_more}
use Rattle.gate_lengths.proofs.Distinct.{short}
use Rattle.gate_lengths.proofs.floats_more.Goals as goal

pub look_size-requires : goal.look_size-requires
look_size-requires c = (omega arith, omega (arith, short c.args.lengths.now c.args.i (omega arith) c.requires.1))

pub returns-then-seen : goal.returns-then-seen
unfolding floats_more
returns-then-seen c = (simp (sym c.seen.ensures ∙ c.if-seen.true), omega arith)

pub returns-else-seen : goal.returns-else-seen
unfolding floats_more
returns-else-seen c =
    let e : c.from.result ≡ get_or c.args.lengths.now c.args.i 0 = omega arith in
    (simp (sym c.seen.ensures ∙ c.if-seen.false) (c.look_size.ensures.0 ∙ ap (look_size c.args.n) e), omega arith)
