-- The powers are started, left or smoothed, in the part that holds them. Assumes nothing.
use Rattle.std.proofs.Common.{◌≡◌, ◌+◌, ◌-◌, ◌*◌, Bool, false, length, sym, ap, ◌∙◌, arith}
use Rattle.laws.specs.Lists.{part}
use Rattle.laws.proofs.Lists.{width, length_part}
use Rattle.model.specs.Stores.{bank_floats, bank_of}
use Rattle.bank_stages.specs.Steps.{smooth_step}
use Rattle.bank_stages.proofs.Loops.{fits, smooth-done, starts, goes_on, held_stays}
use Rattle.bank_step.proofs.smooth_all.Goals as goal

pub returns-then-bank-eq0 : goal.returns-then-bank-eq0
returns-then-bank-eq0 c =
    let u = c.args.bank.now in
    let f = c.args.bank_f.now in
    let p = c.args.power.now in
    let n = length p in
    let r = c.requires.0 in
    let e = c.requires.1 in
    let long : length (part (2 * n) (2 * n + n - 2 * n) f) ≡ n =
    rw (width (2 * n) n) (length_part (2 * n) n f (omega (arith, (fits u f n r e).long_f))) in
    smooth-done u f r n e c.args.hold_reference p c.start_powers.new.smooth _
    (c.start_powers.ensures ∙ starts u f r n e c.args.hold_reference p c.if-bank-eq0.true _ long) (rw (width (2 * n) n))

pub returns-then-hold_reference : goal.returns-then-hold_reference
returns-then-hold_reference c =
    let u = c.args.bank.now in
    let f = c.args.bank_f.now in
    let p = c.args.power.now in
    held_stays u f c.requires.0 (length p) c.requires.1 p c.if-bank-eq0.false
    ∙ ap (λ (h : Bool). bank_floats (smooth_step h p (bank_of u f))) (sym c.if-hold_reference.true)

pub returns : goal.returns
returns c =
    let u = c.args.bank.now in
    let f = c.args.bank_f.now in
    let p = c.args.power.now in
    let n = length p in
    let r = c.requires.0 in
    let e = c.requires.1 in
    smooth-done u f r n e false p c.smooth_powers.new.smooth _
    ((rw (width (2 * n) n) at c.smooth_powers.ensures)
    ∙ goes_on u f r n e p c.if-bank-eq0.false _ (length_part (2 * n) n f (omega (arith, (fits u f n r e).long_f))))
    (rw (width (2 * n) n))
    ∙ ap (λ (h : Bool). bank_floats (smooth_step h p (bank_of u f))) (sym c.if-hold_reference.false)
