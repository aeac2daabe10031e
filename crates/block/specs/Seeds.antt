-- What one slow hop does to the seeds of all blocks (document 01, "Block and bank step"), over the lists that are lent.
use Rattle.std.specs.Prelude.{◌≡◌, List, ℕ, ◌+◌, ◌≤◌, ◌<◌, length, get_or, Float}
use Rattle.laws.specs.Lists.{tab, one}
use Rattle.model.specs.Numbers.{f0}
use Rattle.model.specs.Bank.{blocks, block, median, takes_seed, sum_after}

-- an entry of each list for each block of a hop, and no block with more than its 25 seed pushes
pub record Seedable (seeds : List ℕ) (sums db : List Float) : Type 0 where
  pub low : 1 ≤ length db
  pub high : length db ≤ 512
  pub seeds_long : length seeds ≡ blocks (length db)
  pub sums_long : length sums ≡ blocks (length db)
  pub small : (i : ℕ) → i < blocks (length db) → get_or seeds i 0 ≤ 25

-- block i's seed pushes and seed sum after the hop
abbrev pub pushes_at : List ℕ → List Float → ℕ → ℕ
pushes_at seeds db i = get_or seeds i 0 + one (takes_seed (get_or seeds i 0) (median (block i db)))

abbrev pub sum_at : List ℕ → List Float → List Float → ℕ → Float
sum_at seeds sums db i = sum_after (get_or seeds i 0) (get_or sums i f0) (median (block i db))

-- what the hop leaves of both lists
pub record Seeded (seeds : List ℕ) (sums db : List Float) (seeds' : List ℕ) (sums' : List Float) : Type 0 where
  pub pushes : seeds' ≡ tab (blocks (length db)) (pushes_at seeds db)
  pub sum : sums' ≡ tab (blocks (length db)) (sum_at seeds sums db)
