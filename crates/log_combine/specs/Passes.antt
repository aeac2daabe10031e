-- Both logs in step: what the parts of the code say to each other.
use Rattle.std.specs.Prelude.{◌≡◌, Bool, cond, ◌||◌, List, ℕ, ◌+◌, ◌<◌, ◌≤◌, length, get_or, Option, Some, None, Result, Ok, Err}
use Rattle.laws.specs.Lists.{tab}
use Rattle.laws.specs.Tests.{differ}
use Rattle.low_first.specs.LowFirst.{low_two}
use Rattle.log_model.specs.Read.{start_refusal}
use Rattle.combine_model.specs.Combined.{combined_log, Paired}

-- the second of a list's two halves
abbrev pub second_half : ℕ → List ℕ → List ℕ
second_half n l = tab n (λ k. get_or l (n + k) 0)

-- slices of n entries each
pub record Lent (n : ℕ) (p e q : List ℕ) : Type 0 where
  pub p_long : length p ≡ n
  pub e_long : length e ≡ n
  pub q_long : length q ≡ n

-- slices to read two logs of n channels in step: a hop of zeros for each log, and two for the selection
pub record Slices (n : ℕ) (d p e q db power : List ℕ) : Type 0 where
  pub d_zero : d ≡ tab n (λ _. 0)
  pub p_zero : p ≡ tab n (λ _. 0)
  pub e_zero : e ≡ tab n (λ _. 0)
  pub q_zero : q ≡ tab n (λ _. 0)
  pub db_zero : db ≡ tab (n + n) (λ _. 0)
  pub power_zero : power ≡ tab (n + n) (λ _. 0)

-- before the first pass: both headers passed, with the first log's n, and there is room for the result's header
pub record Begun (a b : List ℕ) (room : ℕ) (d p e q db power : List ℕ) : Type 0 where
  pub starts_a : start_refusal a 2 (low_two a 0) (low_two a 0) ≡ 0
  pub starts_b : start_refusal b 2 (low_two a 0) (low_two a 0) ≡ 0
  pub header : 2 ≤ room
  pub lent : Slices (low_two a 0) d p e q db power

-- before the second
pub record Ready (a b : List ℕ) (h : ℕ) (d p e q db power : List ℕ) : Type 0 where
  pub pair : Paired a b h
  pub lent : Slices (low_two a 0) d p e q db power

-- what the first pass says: both logs pass with so many hops and the result has room; or, if they pass, it has none
abbrev pub Judged : List ℕ → List ℕ → ℕ → Option ℕ → Type 0
Judged a b room (Some h) = Paired a b h × (length (combined_log a b) ≤ room)
Judged a b room None = (h : ℕ) → Paired a b h → room < length (combined_log a b)

-- the number, where it said no: the first log's refusal, the second's, 13 for unequal n or numbers of hops, else 2
abbrev pub alike_no : Bool → ℕ → ℕ → ℕ
alike_no unequal h k = cond (unequal || differ h k) 13 2

abbrev pub no_of : Result ℕ ℕ → Result ℕ ℕ → Bool → ℕ
no_of (Err r) y unequal = r
no_of (Ok h) (Err r) unequal = r
no_of (Ok h) (Ok k) unequal = alike_no unequal h k
