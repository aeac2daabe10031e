use Rattle.std.proofs.Common.{◌+◌, refl, sym, ap₂, subst, ◌∙◌, ◌&&◌, arith}
use Rattle.laws.specs.Tests.{all_below}
use Rattle.bank_sound.proofs.Checks.{all-step}
use Rattle.bank_sixteens.specs.Rows.{row_borne_out, ClearedTo}
use Rattle.bank_sixteens.proofs.Rows.{cleared-none, cleared_more, row_same}
use Rattle.bank_sixteens.proofs.four_borne_out.Goals as goal

pub loop-b-init : goal.loop-b-init
unfolding all_below
loop-b-init c = (refl, cleared-none c.args.t.now c.told-t)

pub loop-b-preserved : goal.loop-b-preserved
loop-b-preserved c =
    let b = c.loop-b.b in
    let t = c.args.t.now in
    let first = c.args.first.now in
    let second = c.args.second.now in
    let r = c.loop-b.invariant.1 in (
      ap₂ ◌&&◌ c.loop-b.invariant.0 (c.row_borne_out-all.ensures ∙ row_same first second t c.loop-b.t b (omega arith) r) ∙ sym (all-step b (row_borne_out first second t)),
      subst (ClearedTo (b + 1) t) (sym c.clear_row.ensures) (cleared_more b c.loop-b.t (omega arith) r.long t r),
    )
