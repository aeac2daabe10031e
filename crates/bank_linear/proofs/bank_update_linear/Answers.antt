-- Past the refusals the hop is taken with the dB that were worked out. Assumes nothing.
use Rattle.std.proofs.Common.{◌≡◌, sym, subst, ◌∙◌, List, arith}
use Rattle.std.proofs.lemmas.Result.{err_from_is_err_and}
use lib.Ieee.{Float}
use Rattle.model.specs.Bank.{hop, bank_step}
use Rattle.model.specs.Stores.{bank_of}
use Rattle.model.specs.Decibels.{decibels, linear_hop}
use Rattle.decibels.proofs.Hops.{in-front-long, in-the-array}
use Rattle.bank_stages.specs.Steps.{Holds}
use Rattle.bank_stages.proofs.Stages.{refused, accepted, asked}
use Rattle.bank_linear.proofs.bank_update_linear.Goals as goal
use Rattle.refusals.proofs.Answers.{refuses}

pub returns-in_err-linear_refusal : goal.returns-in_err-linear_refusal
returns-in_err-linear_refusal c =
    let a = c.args in
    let p = err_from_is_err_and c.from_residual.result c.from_residual.ensures.1 in
    rw (p.1, p.2) (refused a.bank.now a.bank_f.now (linear_hop a.hold_reference a.power.now) _ c.in_err-linear_refusal.ensures (refuses _))

pub hop_db-db-requires : goal.hop_db-db-requires
unfolding bank_of
hop_db-db-requires c =
    let a = c.args in
    let s = asked a.bank.now a.bank_f.now (decibels a.power.now) a.power.now (sym c.in_ok-linear_refusal.ensures) in
    omega (arith, s.2, s.0.good.high)

pub slice_bounds-db-end : goal.slice_bounds-db-end
slice_bounds-db-end c = in-the-array c.args.power.now c.hop_db-db.result c.hop_db-db.ensures

pub slice_bounds-take_hop-end : goal.slice_bounds-take_hop-end
slice_bounds-take_hop-end c = sym (in-front-long c.args.power.now c.hop_db-db.result c.hop_db-db.ensures)

pub take_hop-requires : goal.take_hop-requires
take_hop-requires c =
    let a = c.args in
    let s = asked a.bank.now a.bank_f.now (decibels a.power.now) a.power.now (sym c.in_ok-linear_refusal.ensures) in
    (s.0, in-front-long a.power.now c.hop_db-db.result c.hop_db-db.ensures ∙ s.2, s.2)

pub returns : goal.returns
returns c =
    let a = c.args in
    accepted a.bank.now c.take_hop.new.bank a.bank_f.now c.take_hop.new.bank_f (linear_hop a.hold_reference a.power.now)
    (sym c.in_ok-linear_refusal.ensures)
    (subst (λ (db : List Float). Holds (bank_step (bank_of a.bank.now a.bank_f.now) (hop a.hold_reference db a.power.now)) c.take_hop.new.bank c.take_hop.new.bank_f)
    c.hop_db-db.ensures c.take_hop.ensures)
