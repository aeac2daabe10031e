-- A rung is below 2^53. Assumes nothing.
use Rattle.std.proofs.Common.{◌^◌, arith, le→leb}
use lib.Ieee.{in_float}
use Rattle.decibels.proofs.rung_db.Goals as goal

pub int_to_float-result : goal.int_to_float-result
unfolding in_float
int_to_float-result c = le→leb c.args.r (2 ^ 53) (omega arith)
