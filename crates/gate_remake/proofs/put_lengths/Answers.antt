use Rattle.std.proofs.Common.{refl, arith}
use Rattle.laws.proofs.Fills.{begins, turns, done}
use Rattle.model.specs.GateStores.{m_at}
use Rattle.gate_remake.proofs.put_lengths.Goals as goal

pub loop-j-init : goal.loop-j-init
loop-j-init c = begins _ _

pub loop-j-preserved : goal.loop-j-preserved
loop-j-preserved c =
    let m = m_at c.args.gate.now in
    turns c.args.lengths.now m c.loop-j.j c.loop-j.lengths (m c.loop-j.j) c.loop-j.invariant (omega arith) refl

pub returns : goal.returns
returns c = done c.args.lengths.now (m_at c.args.gate.now) c.loop-j.j c.loop-j.lengths c.loop-j.invariant (omega arith)
