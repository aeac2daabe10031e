use Rattle.std.proofs.Common.{length, ap, sym, ◌∙◌}
use Rattle.model.specs.Stores.{bank_of}
use Rattle.bank_stages.specs.Steps.{advanced}
use Rattle.bank_stages.proofs.Stages.{ready_at, headed, done, slow-step, fast-step, phase-of}
use Rattle.bank_step.proofs.Floors.{smoothed, floored}
use Rattle.bank_step.proofs.take_hop.Goals as goal
use Rattle.bank_step.proofs.take_hop.Goals.{then-bank-eq0, else-bank-eq0}

pub floor_hop-requires : goal.floor_hop-requires
floor_hop-requires c = ready_at _ _ _ _ (smoothed (length c.args.power_db.now) c.args.bank.now c.args.bank_f.now c.requires.0 c.requires.1 c.args.hold_reference c.args.power.now c.smooth_all.new.bank_f c.smooth_all.ensures)

pub advance-requires : goal.advance-requires
advance-requires c =
    elim c.if-bank-eq0.branch [
      | then-bank-eq0 w ↦ rw w.bank-is (headed _ _ _ _ (floored (length c.args.power_db.now) c.args.bank.now c.args.bank_f.now c.requires.0 c.requires.1 c.args.hold_reference c.args.power.now c.smooth_all.new.bank_f c.smooth_all.ensures c.args.power_db.now w.floor_hop.new.bank w.floor_hop.new.bank_f w.floor_hop.ensures))
      | else-bank-eq0 w ↦ rw w.bank-is (headed _ _ _ _ (smoothed (length c.args.power_db.now) c.args.bank.now c.args.bank_f.now c.requires.0 c.requires.1 c.args.hold_reference c.args.power.now c.smooth_all.new.bank_f c.smooth_all.ensures))
    ]

pub returns : goal.returns
returns c =
    let u = c.args.bank.now in
    let f = c.args.bank_f.now in
    let slow = slow-step (bank_of u f) c.args.hold_reference c.args.power_db.now c.args.power.now in
    let fast = fast-step (bank_of u f) c.args.hold_reference c.args.power_db.now c.args.power.now in
    elim c.if-bank-eq0.branch [
      | then-bank-eq0 w ↦ rw w.bank_f-is (done _ _ _ _ _ _ (floored (length c.args.power_db.now) c.args.bank.now c.args.bank_f.now c.requires.0 c.requires.1 c.args.hold_reference c.args.power.now c.smooth_all.new.bank_f c.smooth_all.ensures c.args.power_db.now w.floor_hop.new.bank w.floor_hop.new.bank_f w.floor_hop.ensures) (slow (phase-of u f ∙ w.if-bank-eq0.true)) (c.advance.ensures ∙ ap advanced w.bank-is))
      | else-bank-eq0 w ↦ rw w.bank_f-is (done _ _ _ _ _ _ (smoothed (length c.args.power_db.now) c.args.bank.now c.args.bank_f.now c.requires.0 c.requires.1 c.args.hold_reference c.args.power.now c.smooth_all.new.bank_f c.smooth_all.ensures) (fast (λ h. w.if-bank-eq0.false (sym (phase-of u f) ∙ h))) (c.advance.ensures ∙ ap advanced w.bank-is))
    ]
