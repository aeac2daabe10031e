use Rattle.std.proofs.Common.{refl}
use lib.Ieee.{of_bits}
use Rattle.watch_figures.proofs.no_number.Goals as goal

pub returns : goal.returns
unfolding of_bits
returns c = refl
