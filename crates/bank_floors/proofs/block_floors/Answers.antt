use Rattle.std.proofs.Common.{List, ℕ, ◌+◌, ◌*◌, ◌≤◌, ap, refl, ◌∙◌, ◌≡◌, length, arith}
use lib.Ieee.{Float}
use Rattle.laws.specs.Lists.{part, splice, tab}
use Rattle.laws.proofs.Lists.{length-splice}
use Rattle.laws.proofs.Tabs.{fill-next, length-tab}
use Rattle.model.specs.Bank.{block, blocks, median}
use Rattle.bank_stages.proofs.Loops.{fits, block-done, usable-lent}
use Rattle.bank_floors.proofs.block_floors.Goals as goal

abbrev floor_of : List Float → ℕ → ℕ → Float
floor_of f n i = median (block i (part n n f))

pub loop-i-preserved : goal.loop-i-preserved
loop-i-preserved c =
    let u = c.args.bank.now in
    let f = c.args.bank_f.now in
    let n = c.from-n.result in
    let i = c.loop-i.i in
    let s = fits u f n c.requires c.from-n.ensures in
    let h : i + 1 ≤ blocks n = omega (arith, c.div_ceil-i-end.ensures) in
    let same = usable-lent u f c.requires n c.from-n.ensures c.loop-i.bank_f (tab i (floor_of f n)) i (omega arith) (length-tab i (floor_of f n)) c.loop-i.invariant in
    fill-next (4 * n) i (4 * n + i) f c.loop-i.bank_f (floor_of f n) c.block_median-med.result refl (omega (arith, s.long_f)) c.loop-i.invariant
    (c.block_median-med.ensures ∙ ap (λ (x : List Float). median (block i x)) same)

pub shape_of-bank_f : goal.shape_of-bank_f
shape_of-bank_f c =
    let f = c.args.bank_f.now in
    let n = c.from-n.result in
    let s = fits c.args.bank.now f n c.requires c.from-n.ensures in
    ap length c.loop-i.invariant
    ∙ length-splice (4 * n) c.loop-i.i f (tab c.loop-i.i (floor_of f n)) (omega (arith, s.long_f, c.div_ceil-i-end.ensures)) (length-tab c.loop-i.i (floor_of f n))

pub returns : goal.returns
returns c =
    let u = c.args.bank.now in
    let f = c.args.bank_f.now in
    let n = c.from-n.result in
    let e : c.loop-i.i ≡ blocks n = omega (arith, c.div_ceil-i-end.ensures) in
    block-done u f c.requires n c.from-n.ensures c.loop-i.bank_f
    (c.loop-i.invariant ∙ ap (λ (j : ℕ). splice (4 * n) j f (tab j (floor_of f n))) e)
