use Rattle.laws.proofs.Fills.{Filled}
use Rattle.model.specs.GateStores.{m_at}
use Rattle.gate_remake.proofs.put_lengths.Given as goal

abbrev pub invariant-loop-j : goal.invariant-loop-j
invariant-loop-j l = Filled l.fn.lengths (m_at l.gate) l.j l.lengths
