use Rattle.std.proofs.Common.{sym, arith}
use Rattle.std.proofs.lemmas.Result.{err_from_is_err_and}
use Rattle.model.specs.GateCalls.{smoothed_reading}
use Rattle.channel_readings.proofs.Readings.{refused, valued}
use Rattle.gate_cursors.proofs.Lengths.{smooth-within}
use Rattle.gate_marks.proofs.Marks.{smooth-at}
use Rattle.gate_readings.proofs.Asked.{readable-gate}
use Rattle.gate_readings.proofs.smoothed_db.Goals as goal

pub bounds-gate_f-k : goal.bounds-gate_f-k
bounds-gate_f-k c =
    let ok = readable-gate c.args.gate.now c.args.gate_f.now c.args.k (sym c.in_ok-smoothed_refusal.ensures) in
    omega (arith, ok.1, smooth-within c.args.gate.now c.args.gate_f.now ok.0)

pub returns-in_err-smoothed_refusal : goal.returns-in_err-smoothed_refusal
unfolding smoothed_reading
returns-in_err-smoothed_refusal c =
    let p = err_from_is_err_and c.from_residual.result c.from_residual.ensures.1 in
    rw (p.1, p.2) (refused _ _ _ c.in_err-smoothed_refusal.ensures)

pub returns : goal.returns
unfolding smoothed_reading
returns c =
    let ok = readable-gate c.args.gate.now c.args.gate_f.now c.args.k (sym c.in_ok-smoothed_refusal.ensures) in
    valued _ _ _ c.in_ok-smoothed_refusal.ensures (smooth-at c.args.gate.now c.args.gate_f.now c.args.k ok.0 ok.1)
