-- Words that are levels, and words that are none.
use Rattle.std.specs.Prelude.{◌≡◌, refl, true, false, List, [], ◌∷◌, map, Option, Some, None}
use Prim.Native.String.{String}
use Rattle.laws.specs.Texts.{ascii}
use Rattle.watch_levels.specs.declared.Level.{Level}
use Rattle.watch_levels.specs.Levels.{level, level_of, whole_eighths, step, pointed, digit, part_digit}

abbrev read : List String → List (Option Level)
read = map (λ w. level_of (ascii w))

pub levels :
    read ("8" ∷ "6.5" ∷ "-1.125" ∷ "100" ∷ "-100.000" ∷ "0.1250" ∷ ".5" ∷ "5." ∷ "-0" ∷ [])
    ≡ Some (level false 64) ∷ Some (level false 52) ∷ Some (level true 9) ∷ Some (level false 800) ∷ Some (level true 800) ∷ Some (level false 1) ∷ Some (level false 4)
    ∷ Some (level false 40) ∷ Some (level true 0) ∷ []
unfolding level_of whole_eighths step pointed digit part_digit
levels = refl

pub no-levels :
    read ("" ∷ "-" ∷ "." ∷ "100.125" ∷ "6.1" ∷ "0.1251" ∷ "1.2.3" ∷ "--8" ∷ "+8" ∷ "8dB" ∷ "1000000000000000000000000" ∷ [])
    ≡ None ∷ None ∷ None ∷ None ∷ None ∷ None ∷ None ∷ None ∷ None ∷ None ∷ None ∷ []
unfolding level_of whole_eighths step pointed digit part_digit
no-levels = refl
