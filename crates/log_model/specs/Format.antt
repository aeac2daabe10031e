-- Document 02, R-1: the bytes of a log. Hops are bit patterns; those of all hops stand one after another in `db` and `power`.
use Rattle.std.specs.Prelude.{Bool, cond, not, ◌&&◌, ◌||◌, List, [], ◌++◌, ℕ, ◌+◌, ◌-◌, ◌*◌, ◌/◌, ◌%◌, eqb, ltb, length, get_or, drop, Result, Ok, Err}
use Rattle.laws.specs.Lists.{tab, joined}
use Rattle.laws.specs.Tests.{first, within, differ}
use Rattle.laws.specs.Bits.{width, bytes_of}
use Rattle.low_first.specs.LowFirst.{low_bytes}

-- a map of ceil(n / 8) bytes, channel 0 in the lowest bit of the first; bits past n are 0
unfoldable pub map_of : ℕ → (ℕ → Bool) → List ℕ
map_of n p = bytes_of (width n) (λ k. ltb k n && p k)

-- a pair: the dB bits in 8 bytes, the power bits in 4, both low byte first
unfoldable pub pair_of : ℕ → ℕ → List ℕ
pair_of d p = low_bytes 8 d ++ low_bytes 4 p

-- for each set bit in rising order its pair
unfoldable pub pairs_of : ℕ → (ℕ → Bool) → (ℕ → ℕ) → (ℕ → ℕ) → List ℕ
pairs_of n set d p = joined (tab n (λ k. cond (set k) (pair_of (d k) (p k)) []))

-- a hop of n channels: its map, then its pairs
abbrev pub hop_of : ℕ → (ℕ → Bool) → (ℕ → ℕ) → (ℕ → ℕ) → List ℕ
hop_of n set d p = map_of n set ++ pairs_of n set d p

-- what stood at place i in the hop before; before the first hop all are zero
abbrev pub before : ℕ → List ℕ → ℕ → ℕ
before n l i = cond (ltb i n) 0 (get_or l (i - n) 0)

-- the pair of bit patterns at place i changed from the hop before
abbrev pub changed : ℕ → List ℕ → List ℕ → ℕ → Bool
changed n db power i = differ (get_or db i 0) (before n db i) || differ (get_or power i 0) (before n power i)

-- hop j of those in `db` and `power`: a bit is set exactly when its pair changed
unfoldable pub hop_at : ℕ → List ℕ → List ℕ → ℕ → List ℕ
hop_at n db power j =
    hop_of n (λ k. changed n db power (n * j + k)) (λ k. get_or db (n * j + k) 0) (λ k. get_or power (n * j + k) 0)

-- a log: n in two bytes, low byte first, then its hops
unfoldable pub log_of : ℕ → List ℕ → List ℕ → List ℕ
log_of n db power = low_bytes 2 n ++ joined (tab (length db / n) (hop_at n db power))

-- the writer's checks: 1 for n, 5 unless both slices are equally long and a multiple of n, 2 for an output too short
unfoldable pub write_refusal : ℕ → List ℕ → List ℕ → ℕ → ℕ
write_refusal n db power room =
    first (not (within 1 512 n)) 1
    (first (differ (length db) (length power)) 5
    (first (differ (length db % n) 0) 5
    (first (ltb room (length (log_of n db power))) 2 0)))

-- the writer's answer, the log's length, and what its output holds then: the log, and after it what stood there
unfoldable pub written : ℕ → List ℕ → List ℕ → List ℕ → Result ℕ ℕ × List ℕ
written n db power log =
    cond (eqb (write_refusal n db power (length log)) 0)
    (Ok (length (log_of n db power)), log_of n db power ++ drop (length (log_of n db power)) log)
    (Err (write_refusal n db power (length log)), log)
