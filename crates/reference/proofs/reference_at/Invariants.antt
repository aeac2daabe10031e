use Rattle.std.proofs.Common.{◌≡◌, take}
use mathlib.Core.Bool.{false}
use mathlib.Core.List.{foldl}
use lib.Ieee.{inf}
use Rattle.reference.proofs.Least.{lesser}
use Rattle.reference.proofs.reference_at.Given as goal

-- the least of the powers at the places so far
abbrev pub invariant-loop-place : goal.invariant-loop-place
invariant-loop-place l = l.least ≡ foldl (lesser l.n l.channel.bank_f.now) (inf false) (take l.place-index l.place-items)
