-- A fresh gate as the code makes it: length after length, then the pairs of R-3.
use Rattle.std.specs.Prelude.{cond, List, [], ◌∷◌, ◌++◌, map, ℕ, ◌+◌, ◌-◌, ◌*◌, length, get_or, take, set, replicate, Float}
use Rattle.std.specs.Float.{nan}
use Rattle.laws.specs.Lists.{joined}
use Rattle.model.specs.Numbers.{f0}
use Rattle.model.specs.Gate.{among}
use Rattle.model.specs.GateStores.{look_size, look_start}

-- the floats of n channels and these lengths, before the pairs of R-3
abbrev pub floats_before : ℕ → List ℕ → ℕ
floats_before n ms = look_start n (λ j. get_or ms j 0) (length ms)

-- what entry i of a list of lengths adds to the floats: nothing if it stands in the list before
unfoldable pub floats_more : ℕ → List ℕ → ℕ → ℕ
floats_more n ms i = cond (among (get_or ms i 0) (take i ms)) 0 (look_size n (get_or ms i 0))

-- and to the u16 store: else the triple after those in use, and one more in use
unfoldable pub length_put : List ℕ → List ℕ → ℕ → List ℕ
length_put u ms i =
    cond (among (get_or ms i 0) (take i ms)) u (set (set u (6 + 3 * get_or u 5 0) (get_or ms i 0)) 5 (get_or u 5 0 + 1))

-- a length with nothing pushed
abbrev pub fresh_triple : ℕ → List ℕ
fresh_triple m = m ∷ 0 ∷ 0 ∷ []

-- the fresh u16 store of distinct lengths
unfoldable pub fresh_u : ℕ → ℕ → ℕ → ℕ → List ℕ → List ℕ
fresh_u n on off early ms = n ∷ 0 ∷ on ∷ off ∷ early ∷ length ms ∷ (joined (map fresh_triple ms) ++ replicate (24 - 3 * length ms) 0)

-- the same, with the settings of u
abbrev pub with_lengths : List ℕ → List ℕ → List ℕ
with_lengths u ms = fresh_u (get_or u 0 0) (get_or u 2 0) (get_or u 3 0) (get_or u 4 0) ms

-- the fresh f64 store: k floats before the pairs of n channels
abbrev pub fresh_f : ℕ → ℕ → List Float
fresh_f k n = replicate k f0 ++ (replicate n nan ++ replicate n f0)
