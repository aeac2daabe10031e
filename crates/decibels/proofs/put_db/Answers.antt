-- Assumes nothing.
use Rattle.std.proofs.Common.{ℕ, get_or, ap, ◌∙◌, arith}
use lib.Ieee.{nan}
use Rattle.laws.specs.Lists.{tab}
use Rattle.laws.proofs.Defaults.{get_d_any}
use Rattle.laws.proofs.Fills.{begins, turns, done}
use Rattle.model.specs.Numbers.{f0, power_linear}
use Rattle.model.specs.Decibels.{highest_rung, rung_db, power_db, decibels}
use Rattle.decibels.proofs.put_db.Goals as goal

pub loop-k-init : goal.loop-k-init
loop-k-init c = begins _ _

pub loop-k-preserved : goal.loop-k-preserved
unfolding power_db
loop-k-preserved c =
    turns _ (λ k. power_db (get_or c.args.power.now k f0)) c.loop-k.k c.loop-k.db c.rung_db-value.result c.loop-k.invariant (omega arith)
    (c.rung_db-value.ensures
    ∙ ap rung_db
    (c.highest_rung.ensures.0
    ∙ ap highest_rung (c.power_linear-linear.ensures ∙ ap power_linear (get_d_any c.args.power.now c.loop-k.k nan f0 (omega arith)))))

pub returns : goal.returns
unfolding decibels
returns c =
    let p = c.args.power.now in
    done c.args.db.now (λ k. power_db (get_or p k f0)) c.loop-k.k c.loop-k.db c.loop-k.invariant (omega arith) ∙ ap (λ (n : ℕ). tab n (λ k. power_db (get_or p k f0))) c.requires
