-- Document 02, R-8: two logs combined.
use Rattle.std.specs.Prelude.{◌≡◌, cond, ◌||◌, List, ℕ, ◌/◌, length, Some, None, Result, Ok, Err}
use Rattle.laws.specs.Tests.{differ}
use Rattle.low_first.specs.LowFirst.{low_two}
use Rattle.log_model.specs.Format.{log_of, written}
use Rattle.log_model.specs.Whole.{Reading, read_log}
use Rattle.combine_model.specs.Choose.{selected}

-- how many hops of n channels a reading has, or the refusal that ended it; it never ends with "next"
abbrev pub counted : ℕ → Reading → Result ℕ ℕ
counted n (Ok None, db, power) = Ok (length db / n)
counted n (Err r, db, power) = Err r
counted n (Ok (Some at), db, power) = Err 0

unfoldable pub hop_count : List ℕ → Result ℕ ℕ
hop_count log = counted (low_two log 0) (read_log log)

-- the pairs of a log's hops, one after another
abbrev pub db_of : List ℕ → List ℕ
db_of log = (read_log log).1

abbrev pub power_of : List ℕ → List ℕ
power_of log = (read_log log).2

-- the selection of what two logs hold
unfoldable pub db_chosen : List ℕ → List ℕ → List ℕ
db_chosen a b = selected (power_of a) (power_of b) (db_of a) (db_of b)

unfoldable pub power_chosen : List ℕ → List ℕ → List ℕ
power_chosen a b = selected (power_of a) (power_of b) (power_of a) (power_of b)

-- the result: the writer's log of the selection
unfoldable pub combined_log : List ℕ → List ℕ → List ℕ
combined_log a b = log_of (low_two a 0) (db_chosen a b) (power_chosen a b)

-- a log that is refused is the answer; otherwise what comes next, with its number of hops
abbrev pub unless : Result ℕ ℕ → List ℕ → (ℕ → Result ℕ ℕ × List ℕ) → Result ℕ ℕ × List ℕ
unless (Err r) log rest = (Err r, log)
unless (Ok h) log rest = rest h

-- the answer, and what the output holds then: the first log's refusal, the second's, 13, then what the writer answers and writes
unfoldable pub combined : List ℕ → List ℕ → List ℕ → Result ℕ ℕ × List ℕ
combined a b log =
    unless (hop_count a) log (λ h.
    unless (hop_count b) log (λ k.
    cond (differ (low_two a 0) (low_two b 0) || differ h k)
    (Err 13, log)
    (written (low_two a 0) (db_chosen a b) (power_chosen a b) log)))

-- two logs that pass 13: each reads to its end, h hops both, equal n
pub record Paired (a b : List ℕ) (h : ℕ) : Type 0 where
  pub count_a : hop_count a ≡ Ok h
  pub count_b : hop_count b ≡ Ok h
  pub same_n : low_two a 0 ≡ low_two b 0
