-- The dB of a hop stand in front of an array that has room for them. Assumes nothing.
use mathlib.Core.Path.{◌≡◌, ap, ◌∙◌}
use mathlib.Core.List.{List}
use Prim.Native.Nat.{◌≤◌}
use native.Mathlib.Omega.{arith}
use lib.ListN.{length, take, length-take}
use lib.Ieee.{Float}
use Rattle.model.specs.Decibels.{decibels}
use Rattle.model.proofs.Decibels.{decibels-long}

module _ (power db : List Float) (e : take (length power) db ≡ decibels power) where
  -- as many as there are powers
  pub in-front-long : length (take (length power) db) ≡ length power
  in-front-long = ap length e ∙ decibels-long power

  pub in-the-array : length power ≤ length db
  in-the-array = omega (arith, in-front-long, length-take (length power) db)
