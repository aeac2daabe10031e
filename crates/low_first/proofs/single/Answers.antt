-- Above infinity's magnitude a pattern is a NaN's, and otherwise none. Assumes nothing.
use Rattle.std.proofs.Common.{sym}
use lib.Ieee.{binary32, of_bits}
use Rattle.low_first.proofs.Bits.{no_nan, nan-of}
use Rattle.low_first.proofs.single.Goals as goal

pub float_from_bits-result : goal.float_from_bits-result
float_from_bits-result c = no_nan binary32 c.args.bits c.if-bits-gt2139095040.false

pub returns-then-bits-gt2139095040 : goal.returns-then-bits-gt2139095040
unfolding of_bits
returns-then-bits-gt2139095040 c = sym (nan-of binary32 c.args.bits c.if-bits-gt2139095040.true)
