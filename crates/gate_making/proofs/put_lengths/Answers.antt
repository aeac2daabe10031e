use Rattle.std.proofs.Common.{◌∙◌, ap, ℕ, List, get_or, arith}
use Rattle.model.specs.Gate.{distinct}
use Rattle.gate_lengths.proofs.Distinct.{few, first_of, first-le}
use Rattle.gate_making.proofs.Makes.{fresh-count, put-turn}
use Rattle.gate_making.proofs.put_lengths.Goals as goal

pub loop-i-init : goal.loop-i-init
unfolding distinct
loop-i-init c = c.requires.0

pub put_length-requires : goal.put_length-requires
put_length-requires c =
    let ms = c.args.lengths.now in
    let i = c.loop-i.i in
    let e = c.loop-i.invariant in (
      omega (arith, ap (λ (w : List ℕ). get_or w 5 0) e ∙ fresh-count _ _ _ _ (first_of ms i), few ms c.requires.1, first-le ms i (omega arith)),
      omega arith,
    )

pub loop-i-preserved : goal.loop-i-preserved
loop-i-preserved c =
    let ms = c.args.lengths.now in
    c.put_length.ensures ∙ put-turn c.args.gate.now c.loop-i.gate ms c.loop-i.i (omega arith) (few ms c.requires.1) c.loop-i.invariant
