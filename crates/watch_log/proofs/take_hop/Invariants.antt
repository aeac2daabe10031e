-- The floats whose bits the patterns are.
use lib.Ieee.{binary32, binary64, of_bits}
use Rattle.watch_log.proofs.take_hop.Given as goal

abbrev pub ghost-fill : goal.ghost-fill
ghost-fill a = of_bits binary64

abbrev pub ghost-fill-2 : goal.ghost-fill-2
ghost-fill-2 a = of_bits binary32
