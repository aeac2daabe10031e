-- Assumes nothing.
use Rattle.std.proofs.Common.{ℕ, ◌+◌, ap, ◌∙◌, arith}
use lib.Ieee.{nan}
use Rattle.laws.specs.Lists.{tab, one}
use Rattle.laws.proofs.Fills.{begins, unwritten, turns, done}
use Rattle.model.specs.Numbers.{f0}
use Rattle.model.specs.Bank.{takes_seed, sum_after}
use Rattle.block.specs.Seeds.{pushes_at, sum_at}
use Rattle.block.proofs.seeds.seed_blocks.Goals as goal

pub loop-i-init : goal.loop-i-init
loop-i-init c = (begins _ _, begins _ _)

pub pushes_after-requires : goal.pushes_after-requires
pushes_after-requires c =
    omega (
      arith,
      unwritten c.args.seeds.now (pushes_at c.args.seeds.now c.args.power_db.now) c.loop-i.i c.loop-i.seeds 0 0 c.loop-i.invariant.0 (omega arith),
      c.requires.small c.loop-i.i (omega arith),
    )

pub loop-i-preserved : goal.loop-i-preserved
loop-i-preserved c =
    let seeds = c.args.seeds.now in
    let sums = c.args.sums.now in
    let db = c.args.power_db.now in
    let p = unwritten seeds (pushes_at seeds db) c.loop-i.i c.loop-i.seeds 0 0 c.loop-i.invariant.0 (omega arith) in
    let q = unwritten sums (sum_at seeds sums db) c.loop-i.i c.loop-i.sums nan f0 c.loop-i.invariant.1 (omega arith) in
    let m = c.block_median-med.ensures in (
      turns seeds (pushes_at seeds db) c.loop-i.i c.loop-i.seeds c.pushes_after.result c.loop-i.invariant.0 (omega arith)
          (c.pushes_after.ensures ∙ (λ j. p j + one (takes_seed (p j) (m j)))),
      turns sums (sum_at seeds sums db) c.loop-i.i c.loop-i.sums c.sum_after.result c.loop-i.invariant.1 (omega arith)
          (c.sum_after.ensures ∙ (λ j. sum_after (p j) (q j) (m j))),
    )

pub returns : goal.returns
returns c =
    let seeds = c.args.seeds.now in
    let sums = c.args.sums.now in
    let db = c.args.power_db.now in
    record {
      pushes =
          done seeds (pushes_at seeds db) c.loop-i.i c.loop-i.seeds c.loop-i.invariant.0 (omega arith)
          ∙ ap (λ (n : ℕ). tab n (pushes_at seeds db)) c.requires.seeds_long;
      sum =
          done sums (sum_at seeds sums db) c.loop-i.i c.loop-i.sums c.loop-i.invariant.1 (omega arith)
          ∙ ap (λ (n : ℕ). tab n (sum_at seeds sums db)) c.requires.sums_long;
    }
