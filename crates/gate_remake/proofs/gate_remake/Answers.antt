use Rattle.std.proofs.Common.{◌∙◌, sym, get_or, [], ◌∷◌, arith}
use Rattle.std.proofs.lemmas.List.{length-take-le}
use lib.IntN.{ℤ}
use Rattle.model.specs.GateCalls.{gate_new_call}
use Rattle.model.proofs.GoodGates.{gate-ready, sizes}
use Rattle.gate_making.proofs.Levels.{three-read}
use Rattle.model.specs.Remake.{lengths_in}
use Rattle.model.proofs.Remake.{remade}
use Rattle.gate_remake.proofs.gate_remake.Goals as goal

pub bounds-gate-5 : goal.bounds-gate-5
bounds-gate-5 c = omega (arith, (gate-ready c.args.gate.now c.args.gate_f.now (sym c.in_ok-gate_refusal.ensures)).long)

pub slice_bounds-lengths-end : goal.slice_bounds-lengths-end
slice_bounds-lengths-end c =
    let g = gate-ready c.args.gate.now c.args.gate_f.now (sym c.in_ok-gate_refusal.ensures) in
    omega (arith, c.from-count.ensures, (sizes c.args.gate.now c.args.gate_f.now g).few)

pub make_again-requires : goal.make_again-requires
make_again-requires c =
    let g = gate-ready c.args.gate.now c.args.gate_f.now (sym c.in_ok-gate_refusal.ensures) in (
      sym c.in_ok-gate_refusal.ensures,
      length-take-le c.from-count.result (0 ∷ 0 ∷ 0 ∷ 0 ∷ 0 ∷ 0 ∷ 0 ∷ 0 ∷ []) (omega (arith, c.from-count.ensures, (sizes c.args.gate.now c.args.gate_f.now g).few)) ∙ c.from-count.ensures,
    )

pub returns : goal.returns
returns c =
    let u = c.args.gate.now in
    let f = c.args.gate_f.now in
    c.make_again.ensures
    ∙ three-read (λ (x y z : ℤ). gate_new_call u f (get_or u 0 0) x y z (lengths_in u)) c.args.on c.args.off c.args.early
    c.ranges.on c.ranges.off c.ranges.early
    ∙ sym (remade u f c.args.on c.args.off c.args.early (sym c.in_ok-gate_refusal.ensures))

pub slice_bounds-make_again-end : goal.slice_bounds-make_again-end
slice_bounds-make_again-end c =
    let g = gate-ready c.args.gate.now c.args.gate_f.now (sym c.in_ok-gate_refusal.ensures) in
    sym (length-take-le c.from-count.result (0 ∷ 0 ∷ 0 ∷ 0 ∷ 0 ∷ 0 ∷ 0 ∷ 0 ∷ []) (omega (arith, c.from-count.ensures, (sizes c.args.gate.now c.args.gate_f.now g).few)))
