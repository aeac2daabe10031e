-- A root is below 2^53. Assumes nothing.
use Rattle.std.proofs.Common.{◌%◌, ◌^◌, arith, le→leb, rules}
use lib.Ieee.{in_float}
use Rattle.model.specs.Ladder.{rung_value}
use Rattle.ladder.proofs.Rungs.{root-small}
use Rattle.ladder.proofs.rung_value.Goals as goal

pub int_to_float-result : goal.int_to_float-result
unfolding in_float
int_to_float-result c =
    le→leb c.root.result (2 ^ 53) (omega (arith, c.root.ensures, root-small (c.args.r % 80) (search rules)))

pub returns : goal.returns
unfolding rung_value
returns c = rw (c.root.ensures, c.ten.ensures)
