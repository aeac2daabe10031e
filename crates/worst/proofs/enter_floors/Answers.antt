use Rattle.std.proofs.Common.{◌+◌, ◌*◌, ◌∙◌, refl, ap, get_or, arith, length-set}
use lib.ListN.{set}
use lib.Ieee.{Float}
use Rattle.laws.proofs.Lists.{row}
use Rattle.laws.proofs.Tabs.{parts-begin}
use Rattle.model.specs.Stores.{bank_of}
use Rattle.model.specs.Readings.{effective_at}
use Rattle.channel_readings.proofs.Places.{from_ready}
use Rattle.worst.specs.Floors.{floor_at}
use Rattle.worst.proofs.Carries.{enters, entered_all}
use Rattle.worst.proofs.enter_floors.Goals as goal

pub loop-k-init : goal.loop-k-init
loop-k-init c =
    let a = c.args in
    (parts-begin 0 a.w a.worst_f.now (floor_at a.w a.next (effective_at (bank_of a.bank.now a.bank_f.now)) a.worst_f.now), refl)

pub invariant_of-effective : goal.invariant_of-effective
invariant_of-effective c = record { readable = from_ready c.args.bank.now c.args.bank_f.now c.loop-k.k c.requires.0 (omega (arith, c.from-n.ensures)) }

pub overflow_mul-worst_f : goal.overflow_mul-worst_f
overflow_mul-worst_f c =
    omega (arith, c.from-n.ensures, c.requires.1, row c.args.w c.loop-k.k (get_or c.args.bank.now 0 0) (omega (arith, c.from-n.ensures)))

pub overflow_add-worst_f : goal.overflow_add-worst_f
overflow_add-worst_f c =
    omega (arith, c.from-n.ensures, c.requires.1, c.requires.2, row c.args.w c.loop-k.k (get_or c.args.bank.now 0 0) (omega (arith, c.from-n.ensures)))

pub bounds-worst_f-w : goal.bounds-worst_f-w
bounds-worst_f-w c =
    omega (arith, c.from-n.ensures, c.requires.1, c.requires.2, c.loop-k.invariant.1, row c.args.w c.loop-k.k (get_or c.args.bank.now 0 0) (omega (arith, c.from-n.ensures)))

pub loop-k-preserved : goal.loop-k-preserved
loop-k-preserved c =
    let a = c.args in
    let l = c.loop-k in
    let n = get_or a.bank.now 0 0 in (
      ap (λ (x : Float). set l.worst_f (a.w * l.k + a.next) x) c.effective-floor.ensures
          ∙ enters n a.w a.next (effective_at (bank_of a.bank.now a.bank_f.now)) a.worst_f.now c.requires.1 c.requires.2 l.k l.worst_f (omega (arith, c.from-n.ensures)) l.invariant.0,
      length-set l.worst_f _ _ ∙ l.invariant.1,
    )

pub returns : goal.returns
returns c =
    let a = c.args in
    let l = c.loop-k in
    entered_all (get_or a.bank.now 0 0) a.w a.next (effective_at (bank_of a.bank.now a.bank_f.now)) a.worst_f.now c.requires.1 c.requires.2 l.k l.worst_f
    (omega (arith, c.from-n.ensures)) l.invariant.0
