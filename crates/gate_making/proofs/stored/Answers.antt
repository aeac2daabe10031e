use Rattle.std.proofs.Common.{◌∙◌, sym, ap}
use lib.IntN.{ℤ, pos, negsuc, nat_abs}
use lib.Signed.{lt_z}
use Rattle.gate_making.proofs.Levels.{too-low, too-high, read_back, sum_is}
use Rattle.gate_making.proofs.stored.Goals as goal
use Rattle.gate_making.proofs.stored.Goals.{then-level-ltminus800-via-then-level-ltminus800, then-level-ltminus800-via-else-level-ltminus800+then-level-gt800}

pub returns-then-level-ltminus800 : goal.returns-then-level-ltminus800
returns-then-level-ltminus800 c =
    let z = c.args.level in
    let back = read_back z c.ranges.level in
    elim c.then-level-ltminus800.branch [
      | then-level-ltminus800-via-then-level-ltminus800 w ↦ too-low z (sym (ap (λ (x : ℤ). lt_z x (negsuc 799)) back) ∙ w.if-level-ltminus800.true)
      | then-level-ltminus800-via-else-level-ltminus800+then-level-gt800 w ↦ too-high z (sym (ap (lt_z (pos 800)) back) ∙ w.if-level-gt800.true)
    ]

pub returns : goal.returns
returns c =
    let z = c.args.level in
    let back = read_back z c.ranges.level in
    ap nat_abs
    (sum_is z c.ranges.level (sym (ap (λ (x : ℤ). lt_z x (negsuc 799)) back) ∙ c.if-level-ltminus800.false)
    (sym (ap (lt_z (pos 800)) back) ∙ c.if-level-gt800.false))
