-- The refusals of an update from linear power, by a name that an attribute can cite. Assumes nothing.
use mathlib.Core.Path.{◌≡◌}
use mathlib.Core.Bool.{not}
use mathlib.Core.List.{List}
use Prim.Native.Nat.{ℕ}
use lib.Dec.{eqb}
use lib.ListN.{length, get_or}
use lib.Ieee.{Float}
use Rattle.laws.specs.Tests.{differ, first}
use Rattle.model.specs.Refusals.{bank_refusal, update_refusal}
use Rattle.model.specs.Decibels.{decibels}
use Rattle.model.proofs.Decibels.{linear-refusal}

pub linear_refusal : (u : List ℕ) (f : List Float) (power : List Float)
    → update_refusal u f (decibels power) power
    ≡ first (not (eqb (bank_refusal u f) 0)) (bank_refusal u f) (first (differ (length power) (get_or u 0 0)) 5 0)
linear_refusal = linear-refusal
