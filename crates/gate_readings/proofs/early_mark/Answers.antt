-- `gate_readings::early_mark`: before the first update nothing rises; after it the test is that of early rise.
use Rattle.std.proofs.Common.{◌≡◌, not, ◌&&◌, eqb, get_or, pos, ℕ, ap, ◌∙◌}
use borrow.Author.Tests.{eq-eqb}
use Rattle.std.specs.Float.{binary64}
use Rattle.std.specs.Float.Ieee.{of_int}
use Rattle.laws.specs.Lists.{one}
use Rattle.laws.proofs.Counts.{flag}
use Rattle.model.specs.Stores.{bank_of}
use Rattle.model.specs.Gate.{early_rise}
use Rattle.model.specs.GateStores.{gate_of}
use Rattle.gate_marks.proofs.Marks.{early-is, before-first, after_first}
use Rattle.gate_readings.proofs.early_mark.Goals as goal
use Rattle.gate_readings.proofs.early_mark.Goals.{then-gate-ne0, else-gate-ne0}

pub returns : goal.returns
returns c =
    let x = c.args.channel.now in
    let gu = c.args.gate.now in
    let gf = c.args.gate_f.now in
    let b = bank_of x.bank.now x.bank_f.now in
    let rises : c.if-gate-ne0.rises ≡ (not (eqb (get_or gu 1 0) 0) && early_rise (gate_of gu gf) b x.k) =
    elim c.if-gate-ne0.branch [
      | then-gate-ne0 w ↦ w.rises-is
          ∙ after_first _ _ _ w.if-gate-ne0.true
          (w.early_rise-rises.ensures ∙ early-is gu gf b x.k c.requires.0 c.requires.1 w.effective.result w.effective.ensures)
      | else-gate-ne0 w ↦ w.rises-is ∙ ap not (eq-eqb _ 0 w.if-gate-ne0.false) ∙ before-first _ _ w.if-gate-ne0.false
    ] in
    c.from-2.ensures ∙ ap (λ (n : ℕ). of_int binary64 (pos n)) (c.from.ensures ∙ flag c.if-gate-ne0.rises ∙ ap one rises)
