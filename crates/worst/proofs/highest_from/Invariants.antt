use Rattle.std.proofs.Common.{◌≡◌, take}
use mathlib.Core.List.{foldl}
use Rattle.model.specs.Numbers.{fmax}
use Rattle.worst.proofs.highest_from.Given as goal

-- the highest of those so far
abbrev pub invariant-loop-floor : goal.invariant-loop-floor
invariant-loop-floor l = l.high ≡ foldl fmax l.x (take l.floor-index l.floors)
