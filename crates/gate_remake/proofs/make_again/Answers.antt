-- `gate_remake::make_again` meets its contract: it makes the gate with the lengths that it has put. Assumes nothing.
use Rattle.std.proofs.Common.{rules}
use mathlib.Core.Path.{◌≡◌, ap₂, ◌∙◌}
use mathlib.Core.List.{List}
use Prim.Native.Nat.{ℕ}
use native.Mathlib.Omega.{arith}
use lib.IntN.{ℤ}
use Rattle.laws.specs.Lists.{tab}
use Rattle.model.specs.GateStores.{m_at}
use Rattle.model.specs.GateCalls.{gate_new_call}
use Rattle.model.proofs.GoodGates.{gate-ready, sizes}
use Rattle.gate_making.proofs.Levels.{three-read}
use Rattle.gate_remake.proofs.make_again.Goals as goal

pub put_lengths-requires : goal.put_lengths-requires
put_lengths-requires c =
    let r = gate-ready c.args.gate.now c.args.gate_f.now c.requires.0 in
    omega (arith, c.requires.1, (sizes c.args.gate.now c.args.gate_f.now r).few)

pub bounds-gate-0 : goal.bounds-gate-0
bounds-gate-0 c = omega (arith, (gate-ready c.args.gate.now c.args.gate_f.now c.requires.0).long)

pub returns : goal.returns
returns c =
    let u = c.args.gate.now in
    let f = c.args.gate_f.now in
    let same : c.unwrap.result.now ≡ u = search rules in
    c.gate_new.ensures
    ∙ three-read (λ (x y z : ℤ). gate_new_call u f c.from-n.result x y z c.put_lengths.new.lengths) c.args.on c.args.off c.args.early
    c.ranges.on c.ranges.off c.ranges.early
    ∙ ap₂ (λ (n : ℕ) (l : List ℕ). gate_new_call u f n c.args.on c.args.off c.args.early l) c.from-n.ensures
    (c.put_lengths.ensures ∙ ap₂ (λ (k : ℕ) (v : List ℕ). tab k (m_at v)) c.requires.1 same)
