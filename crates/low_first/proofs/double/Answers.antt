-- Above infinity's magnitude a pattern is a NaN's, and otherwise none. Assumes nothing.
use Rattle.std.proofs.Common.{sym}
use lib.Ieee.{binary64, of_bits}
use Rattle.low_first.proofs.Bits.{no_nan, nan-of}
use Rattle.low_first.proofs.double.Goals as goal

pub float_from_bits-result : goal.float_from_bits-result
float_from_bits-result c = no_nan binary64 c.args.bits c.if-bits-gt9218868437227405312.false

pub returns-then-bits-gt9218868437227405312 : goal.returns-then-bits-gt9218868437227405312
unfolding of_bits
returns-then-bits-gt9218868437227405312 c = sym (nan-of binary64 c.args.bits c.if-bits-gt9218868437227405312.true)
