use Rattle.std.proofs.Common.{refl, ap, sym, ◌∙◌, ◌<◌, length, length-append, [], ◌∷◌, arith, ℕ}
use Rattle.std.proofs.lemmas.Slice.Zip.{zip_turn}
use Rattle.laws.specs.Lists.{part}
use Rattle.laws.specs.Tests.{all_below}
use Rattle.laws.proofs.Lists.{get_d_part, length_part}
use Rattle.model.specs.Layout.{bins, at_counts}
use Rattle.bank_sound.specs.Fails.{is_tallied}
use Rattle.bank_sound.proofs.Checks.{tallied_turn}
use Rattle.bank_sound.proofs.as_tallied.Goals as goal

pub loop-count-init : goal.loop-count-init
unfolding all_below
loop-count-init c = refl

pub loop-count-preserved : goal.loop-count-preserved
loop-count-preserved c =
    let l = c.args.chan.now in
    let t = c.args.sums.now in
    let i = length c.loop-count.yielded in
    let z = zip_turn (part at_counts bins l) t c.loop-count.yielded c.into_iter-count-iterator.result c.loop-count.count-iterator c.next.new.self c.next.result (cc) (cc) c.loop-count.yielded_by _ c.in-Some.is c.next.ensures.steps in
    let h : i < bins = omega (arith, z.0, length_part at_counts bins l (omega arith)) in
    tallied_turn l t i c.in-Some.count.now c.from.result c.loop-count.all c.loop-count.invariant (z.2 0 ∙ get_d_part at_counts bins l i 0 h) (c.from.ensures ∙ z.3 0)
    ∙ sym (ap (λ (k : ℕ). all_below k (is_tallied l t)) (length-append c.loop-count.yielded ((c.in-Some.count, c.in-Some.sum) ∷ [])))
