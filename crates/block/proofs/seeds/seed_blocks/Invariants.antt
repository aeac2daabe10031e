-- The first i entries of both lists are written, and entry i of both is still the old one.
use Rattle.laws.proofs.Fills.{Filled}
use Rattle.block.specs.Seeds.{pushes_at, sum_at}
use Rattle.block.proofs.seeds.seed_blocks.Given as goal

abbrev pub invariant-loop-i : goal.invariant-loop-i
invariant-loop-i l =
    Filled l.fn.seeds (pushes_at l.fn.seeds l.power_db) l.i l.seeds × Filled l.fn.sums (sum_at l.fn.seeds l.fn.sums l.power_db) l.i l.sums
