-- How many tests fail: what the store's test counts, in loops that never leave early.
use Rattle.std.specs.Prelude.{Bool, not, ◌&&◌, List, ℕ, zero, suc, ◌+◌, eqb, ltb, get_or}
use Rattle.laws.specs.Lists.{one}
use Rattle.model.specs.Layout.{bins, ring_len, at_counts}

-- of how many numbers below n the test fails
unfoldable pub fails : ℕ → (ℕ → Bool) → ℕ
fails zero p = 0
fails (suc n) p = fails n p + one (not (p n))

-- the entries of a channel's ring that are no bins
abbrev pub is_bin : List ℕ → ℕ → Bool
is_bin l i = ltb (get_or l i 0) bins

unfoldable pub stray_entries : List ℕ → ℕ
stray_entries l = fails ring_len (is_bin l)

-- the entries among the first n that differ from the first
abbrev pub is_first : List ℕ → ℕ → Bool
is_first l i = eqb (get_or l i 0) (get_or l 0 0)

unfoldable pub other_entries : ℕ → List ℕ → ℕ
other_entries n l = fails n (is_first l)

-- the first entry's bin has the count n, and the first n entries are all it
unfoldable pub of_one_bin : ℕ → List ℕ → Bool
of_one_bin n l = eqb (get_or l (at_counts + get_or l 0 0) 0) n && eqb (other_entries n l) 0

-- the bins of a channel whose count is not 0
abbrev pub is_unused : List ℕ → ℕ → Bool
is_unused l b = eqb (get_or l (at_counts + b) 0) 0

unfoldable pub used_bins : List ℕ → ℕ
used_bins l = fails bins (is_unused l)

-- a tally bears out the count of a bin
abbrev pub is_tallied : List ℕ → List ℕ → ℕ → Bool
is_tallied l t b = eqb (get_or l (at_counts + b) 0) (get_or t b 0)
