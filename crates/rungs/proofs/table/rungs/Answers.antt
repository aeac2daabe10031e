-- The literals are the rungs' values: antt computes each rung's value and each literal's. Assumes nothing.
use mathlib.Core.Path.{◌≡◌, refl, sym, ◌∙◌}
use lib.Ieee.{of_bits, of_int, mul, round}
use Rattle.model.specs.Ladder.{root_of, ten_to, rung_value}
use Rattle.rungs.specs.declared.table.TheConstants.{RUNGS}
use Rattle.rungs.proofs.Grid.{times, grid, ladder, ladder-is}
use Rattle.rungs.proofs.table.rungs.Goals as goal

same : RUNGS ≡ ladder
unfolding grid times root_of ten_to rung_value round of_int mul of_bits
same = refl

pub returns : goal.returns
returns c = same ∙ sym ladder-is
