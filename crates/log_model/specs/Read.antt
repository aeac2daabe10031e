-- Document 02, R-1: what the reader answers, and what it makes of the caller's two slices.
use Rattle.std.specs.Prelude.{Bool, cond, not, ◌&&◌, List, ℕ, ◌+◌, ◌-◌, ◌*◌, eqb, ltb, length, get_or, Option, Some, None, Result, Ok, Err}
use Rattle.laws.specs.Lists.{tab}
use Rattle.laws.specs.Tests.{any_below, tally, first, within, differ}
use Rattle.laws.specs.Bits.{width, bit_of}
use Rattle.low_first.specs.LowFirst.{low_two, low_four, low_eight}
use Rattle.refusals.specs.Readings.{reading}

-- bit k of the map that begins at byte `at`
unfoldable pub is_set : List ℕ → ℕ → ℕ → Bool
is_set log at k = bit_of log (8 * at + k)

-- where the pair of channel k stands, or would stand, in the hop at `at`; of channel n: where the hop ends
unfoldable pub pair_at : List ℕ → ℕ → ℕ → ℕ → ℕ
pair_at log at n k = at + width n + 12 * tally k (is_set log at)

-- the pair of channel k stands in the log and is the one that the slices hold already
unfoldable pub unchanged : List ℕ → ℕ → ℕ → List ℕ → List ℕ → ℕ → Bool
unchanged log at n db power k =
    is_set log at k
    && (eqb (low_eight log (pair_at log at n k)) (get_or db k 0) && eqb (low_four log (pair_at log at n k + 8)) (get_or power k 0))

-- the header: 10 for a log ending inside it, 1 for n
unfoldable pub header_refusal : List ℕ → ℕ
header_refusal log = first (ltb (length log) 2) 10 (first (not (within 1 512 (low_two log 0))) 1 0)

-- the n of a log's header, or the refusal
unfoldable pub channels : List ℕ → Result ℕ ℕ
channels log = reading (header_refusal log) (low_two log 0)

-- before a hop: the header, 5 for slices of another length, 10 for a position below 2 or past the log
unfoldable pub start_refusal : List ℕ → ℕ → ℕ → ℕ → ℕ
start_refusal log at dbs powers =
    first (not (eqb (header_refusal log) 0)) (header_refusal log)
    (first (differ dbs (low_two log 0)) 5
    (first (differ powers (low_two log 0)) 5
    (first (not (within 2 (length log) at)) 10 0)))

-- within a hop of n channels: 10 for a cut map, 11 for a set bit past n, 10 for cut pairs, 11 for an unchanged pair
unfoldable pub hop_refusal : List ℕ → ℕ → ℕ → List ℕ → List ℕ → ℕ
hop_refusal log at n db power =
    first (ltb (length log) (at + width n)) 10
    (first (any_below (8 * width n - n) (λ i. is_set log at (n + i))) 11
    (first (ltb (length log) (pair_at log at n n)) 10
    (first (any_below n (unchanged log at n db power)) 11 0)))

-- channel k after the hop
abbrev pub db_after : List ℕ → ℕ → ℕ → List ℕ → ℕ → ℕ
db_after log at n db k = cond (is_set log at k) (low_eight log (pair_at log at n k)) (get_or db k 0)

abbrev pub power_after : List ℕ → ℕ → ℕ → List ℕ → ℕ → ℕ
power_after log at n power k = cond (is_set log at k) (low_four log (pair_at log at n k + 8)) (get_or power k 0)

-- the answer, where the next hop begins, and what the two slices hold then: the next hop; or the refusal, and what they held
unfoldable pub read_in : List ℕ → ℕ → ℕ → List ℕ → List ℕ → Result (Option ℕ) ℕ × List ℕ × List ℕ
read_in log at n db power =
    cond (eqb (hop_refusal log at n db power) 0)
    (Ok (Some (pair_at log at n n)), tab n (db_after log at n db), tab n (power_after log at n power))
    (Err (hop_refusal log at n db power), db, power)

-- after the last hop the answer is "end", which is none
unfoldable pub read_hop : List ℕ → ℕ → List ℕ → List ℕ → Result (Option ℕ) ℕ × List ℕ × List ℕ
read_hop log at db power =
    cond (eqb (start_refusal log at (length db) (length power)) 0)
    (cond (eqb at (length log)) (Ok None, db, power) (read_in log at (low_two log 0) db power))
    (Err (start_refusal log at (length db) (length power)), db, power)
