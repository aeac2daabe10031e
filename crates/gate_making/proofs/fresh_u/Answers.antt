use Rattle.std.proofs.Common.{◌≡◌, ◌∙◌, sym, ap, ℕ, [], length, replicate, rules, arith}
use Rattle.model.specs.Gate.{distinct}
use Rattle.gate_making.proofs.Makes.{settings-put, settings-read}
use Rattle.gate_making.proofs.fresh_u.Goals as goal

pub put_lengths-requires : goal.put_lengths-requires
put_lengths-requires c =
    let z = c.args in
    let s = settings-put z.n z.on z.off z.early c.fill.new.self (c.fill.ensures.after (λ y k. search rules) ∙ ap (λ (j : ℕ). replicate j 0) (let e : length z.gate.now ≡ 30 = omega arith in e)) in
    (s ∙ sym (settings-read z.n z.on z.off z.early _ [] s), c.requires)

pub returns : goal.returns
returns c =
    let z = c.args in
    let s = settings-put z.n z.on z.off z.early c.fill.new.self (c.fill.ensures.after (λ y k. search rules) ∙ ap (λ (j : ℕ). replicate j 0) (let e : length z.gate.now ≡ 30 = omega arith in e)) in
    c.put_lengths.ensures ∙ settings-read z.n z.on z.off z.early _ (distinct [] z.lengths.now) s
