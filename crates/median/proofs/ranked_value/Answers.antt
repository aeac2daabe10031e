-- None of those before stands at the rank, so what is left decides. Assumes nothing.
use Rattle.std.proofs.Common.{sym, ◌∙◌, arith}
use lib.Ieee.{nan}
use Rattle.model.specs.Numbers.{f0}
use Rattle.laws.proofs.Defaults.{get_d_any}
use Rattle.median.proofs.Ranks.{begins, found, goes_on, ends}
use Rattle.median.proofs.ranked_value.Goals as goal

pub loop-x-init : goal.loop-x-init
loop-x-init c = begins _ _

pub returns-then-stands_at : goal.returns-then-stands_at
returns-then-stands_at c = found _ _ c.loop-x.x-index nan c.loop-x.invariant c.loop-x-test.true (sym c.stands_at.ensures ∙ c.if-stands_at.true)

pub loop-x-preserved : goal.loop-x-preserved
loop-x-preserved c = goes_on _ _ c.loop-x.x-index nan c.loop-x.invariant c.loop-x-test.true (sym c.stands_at.ensures ∙ c.if-stands_at.false)

pub returns : goal.returns
returns c = get_d_any c.args.l.now 0 nan f0 (omega arith) ∙ ends _ _ c.loop-x.x-index c.loop-x.invariant c.loop-x-test.false
