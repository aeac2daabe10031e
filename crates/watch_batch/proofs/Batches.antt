-- How many hops stand in front. Assumes nothing.
use Rattle.std.proofs.Common.{◌≡◌, true, List, ℕ, ◌*◌, ◌<◌, ◌≤◌, length}
use Rattle.watch_batch.specs.Batch.{is_whole}

-- i whole hops end at `at`
pub record Front (l : List ℕ) (size i at : ℕ) : Type 0 where
  pub place : at ≡ size * i
  pub few : i ≤ at
  pub within : at ≤ length l
  pub all : (j : ℕ) → j < i → is_whole l size j ≡ true
