-- R-13, `watch --linear`: the dB that were read are left aside for those of the powers. The slices that are watched are equally long, and of at
-- most 512 channels; others stay.
use Rattle.std.specs.Prelude.{cond, ◌&&◌, List, eqb, leb, length, Float}
use Rattle.model.specs.Decibels.{decibels}

unfoldable pub worked_out : List Float → List Float → List Float
worked_out db power = cond (eqb (length db) (length power) && leb (length power) 512) (decibels power) db
