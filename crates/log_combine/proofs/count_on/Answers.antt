-- What each answer of the reader tells of the count.
use Rattle.std.proofs.Common.{◌≡◌, sym, ap, ℕ, Ok, Err, arith, rules}
use Rattle.refusals.specs.Numbers.{number_of}
use Rattle.combine_model.specs.Combined.{hop_count}
use Rattle.log_combine.proofs.Counts.{begins, told, onto, next-counts, end-counts, refused-counts}
use Rattle.log_combine.proofs.count_on.Goals as goal

pub loop-next-init : goal.loop-next-init
loop-next-init c = begins c.args.log.now c.args.db.now c.args.power.now c.requires.0 c.requires.1

pub overflow_add-hops_read : goal.overflow_add-hops_read
overflow_add-hops_read c =
    let l = c.loop-next in
    let o = onto c.args.log.now l.at l.db l.power c.in-Some.next _ _ (told _ _ _ _ _ c.in_ok-next.ensures (ap Ok c.in-Some.is)) in
    omega (arith, o.0, o.1, l.invariant.few)

pub loop-next-smaller : goal.loop-next-smaller
loop-next-smaller c =
    let l = c.loop-next in
    let o = onto c.args.log.now l.at l.db l.power c.in-Some.next _ _ (told _ _ _ _ _ c.in_ok-next.ensures (ap Ok c.in-Some.is)) in
    omega (arith, o.0, o.1)

pub loop-next-preserved : goal.loop-next-preserved
loop-next-preserved c =
    let l = c.loop-next in
    next-counts c.args.log.now l.db l.power l.at l.hops_read l.invariant c.in-Some.next _ _ (told _ _ _ _ _ c.in_ok-next.ensures (ap Ok c.in-Some.is))

pub returns : goal.returns
returns c =
    let l = c.loop-next in
    end-counts c.args.log.now l.db l.power l.at l.hops_read l.invariant _ _ (told _ _ _ _ _ c.in_ok-next.ensures (ap Ok c.in_default.is))

pub returns-in_err-next : goal.returns-in_err-next
returns-in_err-next c =
    let l = c.loop-next in
    let r : ℕ = number_of c.in_err-next.field-0.0 in
    let h : Err r ≡ hop_count c.args.log.now = refused-counts c.args.log.now l.db l.power l.at l.hops_read l.invariant r _ _ (sym c.in_err-next.ensures) in
    search (rules, h)
