use Rattle.std.proofs.Common.{◌∙◌, ap, arith}
use mathlib.Core.Bool.{false}
use lib.Ieee.{inf}
use Rattle.laws.proofs.Folds.{fold_next, fold_done}
use Rattle.model.specs.Numbers.{fmin}
use Rattle.reference.proofs.Least.{lesser, infinite, reference_read}
use Rattle.reference.proofs.reference_at.Goals as goal

pub loop-place-init : goal.loop-place-init
loop-place-init c = infinite

pub loop-place-preserved : goal.loop-place-preserved
loop-place-preserved c =
    let l = c.loop-place in
    fold_next (lesser c.from-n.result c.args.channel.now.bank_f.now) (inf false) l.least _ _ l.place-index 0 (omega arith) l.invariant
    (c.least-least.ensures ∙ ap (fmin l.least) c.power_at.ensures)

pub returns : goal.returns
returns c =
    let l = c.loop-place in
    reference_read c.args.channel.now.bank.now c.args.channel.now.bank_f.now c.args.channel.now.k c.from-n.result l.least c.from-n.ensures
    (fold_done (lesser c.from-n.result c.args.channel.now.bank_f.now) (inf false) l.least _ l.place-index (omega arith) l.invariant)
