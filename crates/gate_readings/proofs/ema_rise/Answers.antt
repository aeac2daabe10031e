use Rattle.std.proofs.Common.{◌∙◌, sym, ap, ℕ, not, ◌&&◌, arith}
use Rattle.std.proofs.lemmas.Result.{err_from_is_err_and}
use Rattle.std.specs.Prelude.{eqb, pos}
use Rattle.std.specs.Float.{binary64}
use Rattle.std.specs.Float.Ieee.{of_int}
use Rattle.laws.specs.Lists.{one}
use Rattle.model.specs.Stores.{bank_of}
use Rattle.model.specs.Gate.{early_rise}
use Rattle.model.specs.GateStores.{gate_of}
use Rattle.model.specs.GateCalls.{early_reading}
use Rattle.model.proofs.GoodGates.{started_of}
use Rattle.channel_readings.proofs.Places.{from_ready}
use Rattle.channel_readings.proofs.Readings.{refused, valued}
use Rattle.gate_readings.proofs.Asked.{readable-pair}
use Rattle.gate_readings.proofs.ema_rise.Goals as goal

pub returns-in_err-early_refusal : goal.returns-in_err-early_refusal
unfolding early_reading
returns-in_err-early_refusal c =
    let p = err_from_is_err_and c.from_residual.result c.from_residual.ensures.1 in
    rw (p.1, p.2) (refused _ _ _ c.in_err-early_refusal.ensures)

pub invariant_of-early_mark : goal.invariant_of-early_mark
invariant_of-early_mark c =
    let r = readable-pair c.args.bank.now c.args.bank_f.now c.args.gate.now c.args.gate_f.now c.args.k (sym c.in_ok-early_refusal.ensures) in
    record { readable = from_ready c.args.bank.now c.args.bank_f.now c.args.k r.0.bank (omega (arith, r.0.same, r.1)) }

pub early_mark-requires : goal.early_mark-requires
early_mark-requires c =
    let r = readable-pair c.args.bank.now c.args.bank_f.now c.args.gate.now c.args.gate_f.now c.args.k (sym c.in_ok-early_refusal.ensures) in
    (r.0.gate, r.1)

pub returns : goal.returns
unfolding early_reading
returns c =
    let E = early_rise (gate_of c.args.gate.now c.args.gate_f.now) (bank_of c.args.bank.now c.args.bank_f.now) c.args.k in
    valued _ _ _ c.in_ok-early_refusal.ensures
    (c.early_mark.ensures ∙ ap (λ (t : ℕ). of_int binary64 (pos (one (not (eqb t 0) && E)))) (sym (started_of c.args.gate.now c.args.gate_f.now)))
