-- `gate_marks::judge`: before the first update both are cleared.
use Rattle.std.proofs.Common.{◌≡◌, length, sym, ◌∙◌}
use Rattle.model.specs.Stores.{bank_of}
use Rattle.model.specs.GateStores.{gate_of}
use Rattle.model.proofs.GoodGates.{n-of, started_of}
use Rattle.gate_marks.proofs.Marks.{both-tested, rises-marked, drops-marked, rises-cleared, drops-cleared}
use Rattle.gate_marks.proofs.judge.Goals as goal

pub returns-then-gate-eq0 : goal.returns-then-gate-eq0
returns-then-gate-eq0 c =
    let gu = c.args.gate.now in
    let gf = c.args.gate_f.now in
    let b = bank_of c.args.bank.now c.args.bank_f.now in
    let z : (gate_of gu gf).started ≡ 0 = started_of gu gf ∙ c.if-gate-eq0.true in
    record {
      rises = rises-cleared (gate_of gu gf) b (length c.args.rise.now) c.clear.new.marks (c.requires.1 ∙ sym (n-of gu gf)) z c.clear.ensures;
      drops =
          drops-cleared (gate_of gu gf) b (length c.args.drop.now) c.clear-then-gate-eq0.new.marks (c.requires.2 ∙ sym (n-of gu gf)) z
          c.clear-then-gate-eq0.ensures;
    }

pub returns-else-gate-eq0 : goal.returns-else-gate-eq0
returns-else-gate-eq0 c =
    let gu = c.args.gate.now in
    let gf = c.args.gate_f.now in
    let g = gate_of gu gf in
    let b = bank_of c.args.bank.now c.args.bank_f.now in
    let n = length c.args.rise.now in
    let z : g.started ≡ 0 → ⊥ = λ q. c.if-gate-eq0.false (sym (started_of gu gf) ∙ q) in
    record {
      rises =
          rises-marked g b n c.mark_windows.new.rise (c.requires.1 ∙ sym (n-of gu gf)) z
          (both-tested g b n c.mark_levels.new.rise c.mark_windows.new.rise c.mark_levels.ensures.0 c.mark_windows.ensures);
      drops = drops-marked g b (length c.args.drop.now) c.mark_levels.new.drop (c.requires.2 ∙ sym (n-of gu gf)) z c.mark_levels.ensures.1;
    }
