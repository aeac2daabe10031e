-- The rungs at most x are those before the point. Assumes nothing.
use Rattle.std.proofs.Common.{◌≡◌, ◌≤◌, true, false, rules, ◌∙◌, arith}
use lib.Ieee.{Float, le}
use Rattle.std.specs.List.Sorted.{IsPartitionPoint}
use Rattle.std.proofs.lemmas.List.Sorted.{IsPartitionPoint-from_clause}
use Rattle.model.specs.Layout.{rung_count}
use Rattle.model.specs.Decibels.{highest_rung}
use Rattle.rungs.proofs.Rising.{parted, point-is}
use Rattle.rungs.proofs.highest_rung.Goals as goal

pub returns : goal.returns
returns c =
    let t = c.args.t.now in
    let x = c.args.x in
    let p : IsPartitionPoint (λ (v : Float). le v x ≡ true) (λ (v : Float). le v x ≡ false) t c.partition_point.result =
    IsPartitionPoint-from_clause (λ (v : Float). le v x) _ _ c.partition_point.ensures.partitioned (parted t x c.requires) (λ a r q k. search rules) in
    let n : c.partition_point.result ≤ rung_count = omega (arith, c.partition_point.ensures.bound, c.told-t) in
    let e : c.saturating_sub.result ≡ highest_rung x =
    c.saturating_sub.ensures
    ∙ point-is t x c.partition_point.result c.requires n p.0 (λ k d l h. p.1 k d l (omega (arith, c.told-t))) in
    (e, omega (arith, c.saturating_sub.ensures))
