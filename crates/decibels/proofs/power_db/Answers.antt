-- The one entry of a hop of one power. Assumes nothing.
use Rattle.std.proofs.Common.{List, get_or, ap}
use lib.Ieee.{Float, nan}
use Rattle.model.specs.Decibels.{decibels}
use Rattle.decibels.proofs.power_db.Goals as goal

pub returns : goal.returns
unfolding decibels
returns c = ap (λ (l : List Float). get_or l 0 nan) c.put_db.ensures
