-- R-7, "Dead branches out of the quartile", stated: (1) and (2), why they are dead, for a ring of R places and K bins; (3), that
-- answers stay equal, is in SameAnswers.antt. The words in quotes are document 02's. The proofs are `scan-ends` and `counts-within` in
-- proofs/DeadBranches.antt.
use Rattle.std.specs.Prelude.{◌≡◌, Bool, List, ◌⊎◌, ℕ, zero, suc, ◌+◌, ◌-◌, ◌/◌, ◌≤◌, ◌<◌, get_or}
use Rattle.model.specs.Ring.{ChannelFloor, oldest, push_in, skip_of}
use Rattle.model.specs.Sound.{Sound}

-- ---- (1) "On a sound store the scan always ends inside"

-- what a scan of counts has passed before bin b
abbrev pub passed_before : List ℕ → ℕ → ℕ
passed_before cs zero = 0
passed_before cs (suc b) = passed_before cs b + get_or cs b 0

-- the scan reaches its rank at bin b: not before it, but with it
pub record ReachesAt (cs : List ℕ) (rank b : ℕ) : Type 0 where
  pub before : passed_before cs b < rank
  pub with : rank ≤ passed_before cs b + get_or cs b 0

-- the rank of the quartile with skip s, among all entries
abbrev pub rank_of : ℕ → ChannelFloor → ℕ
rank_of s c = s + (c.filled - s + 3) / 4

-- with the skip of the raw floor and with that of the usable floor, once there is an entry
abbrev pub ScanEnds : Type 0
ScanEnds =
    (R K : ℕ) (c : ChannelFloor) → Sound R K c → 0 < c.filled → (s : ℕ) → (s ≡ 0) ⊎ (s ≡ skip_of c)
    → (b : ℕ) × (b < K) × ReachesAt c.counts (rank_of s c) b

-- ---- (2) "no count leaves 0 to 250"

-- before a push and after it
pub record CountsWithin (R K : ℕ) (c : ChannelFloor) : Type 0 where
  pub before : (x : ℕ) → x < K → get_or c.counts x 0 ≤ R
  pub after : (quiet : Bool) (b : ℕ) → b < K → (x : ℕ) → x < K → get_or (push_in R quiet c b).counts x 0 ≤ R
  -- the count that an eviction lowers
  pub lowered : c.filled ≡ R → 1 ≤ get_or c.counts (oldest c) 0

abbrev pub CountsStay : Type 0
CountsStay = (R K : ℕ) (c : ChannelFloor) → Sound R K c → CountsWithin R K c
