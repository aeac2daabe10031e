-- `gate_lengths::floats_for`: length after length.
use Rattle.std.proofs.Common.{[], List, ℕ, ◌+◌, ◌*◌, refl, ap, ◌∙◌, arith}
use lib.Seq.{take_all}
use Rattle.model.specs.Gate.{distinct}
use Rattle.gate_lengths.specs.Makes.{floats_before}
use Rattle.gate_lengths.proofs.Distinct.{few, floats-turn}
use Rattle.gate_lengths.proofs.floats_for.Goals as goal

pub loop-i-init : goal.loop-i-init
unfolding distinct
loop-i-init c = record { so_far = refl; fits = omega arith }

pub overflow_add-floats : goal.overflow_add-floats
overflow_add-floats c = omega (arith, few c.args.lengths.now c.requires.1)

pub loop-i-preserved : goal.loop-i-preserved
loop-i-preserved c = record {
  so_far = floats-turn c.args.n c.args.lengths.now c.loop-i.i _ _ (omega arith) c.loop-i.invariant.so_far c.floats_more-floats.ensures.0;
  fits = omega arith;
}

pub overflow_add-result : goal.overflow_add-result
overflow_add-result c = omega (arith, few c.args.lengths.now c.requires.1)

pub returns : goal.returns
returns c =
    ap (λ (x : ℕ). x + 2 * c.args.n)
    (c.loop-i.invariant.so_far
    ∙ ap (λ (ms : List ℕ). floats_before c.args.n (distinct [] ms)) (take_all c.loop-i.i c.args.lengths.now (omega arith)))
