-- The refusals of a hop as the code meets them: which channels share a block, and the slices.
use Rattle.std.specs.Prelude.{cond, ◌&&◌, ◌||◌, List, ℕ, ◌-◌, ◌%◌, eqb, length, Float}
use Rattle.laws.specs.Tests.{differ, first}
use Rattle.model.specs.Layout.{block_channels}
use Rattle.model.specs.Refusals.{garbled}

-- how many of n channels share a block with another: all but a last one that has a block of its own
abbrev pub sharing_of : ℕ → ℕ
sharing_of n = cond (eqb (n % block_channels) 1) (n - 1) n

-- 5 if a hop slice isn't n long, then 6 on a slow hop
abbrev pub hop_refusal : ℕ → ℕ → List Float → ℕ → ℕ
hop_refusal n phase db long = first (differ (length db) n || differ long n) 5 (first (eqb phase 0 && garbled n db) 6 0)
