-- At each place the power decides, of both.
use Rattle.std.proofs.Common.{ap, ◌∙◌, ◌+◌, ◌-◌, cond, Bool, length, get_or, arith}
use Rattle.laws.proofs.Fills.{begins, turns}
use Rattle.log_hops.proofs.Puts.{put-part}
use Rattle.combine_choose.proofs.choose.Goals as goal

pub loop-k-init : goal.loop-k-init
loop-k-init c = (begins _ _, begins _ _)

pub loop-k-preserved : goal.loop-k-preserved
loop-k-preserved c =
    let s = c.args.first.now in
    let t = c.args.second.now in
    let l = c.loop-k in
    let k = l.k in (
      turns _ _ k l.db_chosen _ l.invariant.0 (omega arith)
          (c.pick.ensures ∙ ap (λ (b : Bool). cond b (get_or t.db.now k 0) (get_or s.db.now k 0)) c.is_second-wins.ensures),
      turns _ _ k l.power_chosen _ l.invariant.1 (omega arith)
          (c.pick-in-loop-k.ensures ∙ ap (λ (b : Bool). cond b (get_or t.power.now k 0) (get_or s.power.now k 0)) c.is_second-wins.ensures),
    )

pub returns-clause-db_after : goal.returns-clause-db_after
returns-clause-db_after c =
    let a = c.args in
    let n = length a.first.now.db.now in
    put-part a.from (a.from + n - a.from) n c.loop-k.k a.db.now c.loop-k.db_chosen _ (omega arith) c.requires.room.0 c.loop-k.invariant.0 (omega arith)

pub returns-clause-power_after : goal.returns-clause-power_after
returns-clause-power_after c =
    let a = c.args in
    let n = length a.first.now.db.now in
    put-part a.from (a.from + n - a.from) n c.loop-k.k a.power.now c.loop-k.power_chosen _ (omega arith) c.requires.room.1 c.loop-k.invariant.1 (omega arith)
