-- Words that are lists of lengths, and words that are none.
use Rattle.std.specs.Prelude.{Option, Some, None, ◌≡◌, refl, List, [], ◌∷◌, map, ℕ}
use Prim.Native.String.{String}
use Rattle.laws.specs.Texts.{ascii}
use Rattle.watch_lengths.specs.declared.Lengths.{Lengths}
use Rattle.watch_lengths.specs.Lengths.{lengths_of, ended, digit, step}

abbrev read : List String → List (Option Lengths)
read = map (λ w. lengths_of (ascii w))

abbrev so_many : List ℕ → ℕ → Option Lengths
so_many l n = Some (record { list = l; count = n })

pub lists :
    read ("15,75,375" ∷ "1" ∷ "015" ∷ "1,2,3,4,5,6,7,8" ∷ [])
    ≡ so_many (15 ∷ 75 ∷ 375 ∷ 0 ∷ 0 ∷ 0 ∷ 0 ∷ 0 ∷ []) 3 ∷ so_many (1 ∷ 0 ∷ 0 ∷ 0 ∷ 0 ∷ 0 ∷ 0 ∷ 0 ∷ []) 1 ∷ so_many (15 ∷ 0 ∷ 0 ∷ 0 ∷ 0 ∷ 0 ∷ 0 ∷ 0 ∷ []) 1
    ∷ so_many (1 ∷ 2 ∷ 3 ∷ 4 ∷ 5 ∷ 6 ∷ 7 ∷ 8 ∷ []) 8 ∷ []
unfolding ended digit step
lists = refl

-- a refused list leaves no lengths
pub no-lists :
    read ("" ∷ "0" ∷ "376" ∷ "15,,75" ∷ "15," ∷ "15;75" ∷ "1,2,3,4,5,6,7,8,9" ∷ []) ≡ None ∷ None ∷ None ∷ None ∷ None ∷ None ∷ None ∷ []
unfolding ended digit step
no-lists = refl
