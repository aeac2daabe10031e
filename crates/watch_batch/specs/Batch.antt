-- A batch of a recording: whole hops one after another, at most as many as there are from a slow hop to the next, and what the gate's smoothed dB
-- are after each of them.
use Rattle.std.specs.Prelude.{◌≡◌, Bool, true, false, ◌&&◌, List, ℕ, zero, suc, ◌+◌, ◌*◌, ◌%◌, ◌<◌, ◌≤◌, min, leb, Float, length, get_or}
use Rattle.laws.specs.Lists.{tab, splice}
use Rattle.low_first.specs.LowFirst.{byte_at, double_at, single_at}
use Rattle.model.specs.Numbers.{f0}
use Rattle.model.specs.Gate.{db_after}
use Rattle.watch_recording.specs.Recording.{hop_bytes}

-- where the hop of this number begins, counted from the slow hop at it or before it
abbrev pub start_of : ℕ → ℕ → ℕ
start_of hop n = hop_bytes n * (hop % 15)

-- ---- how many hops stand in front

-- hop i is whole, and its flag means something
abbrev pub is_whole : List ℕ → ℕ → ℕ → Bool
is_whole l size i = leb (size * i + size) (length l) && leb (byte_at l (size * i)) 1

-- r of them, and not one more
pub record Whole (l : List ℕ) (size r : ℕ) : Type 0 where
  pub all : (i : ℕ) → i < r → is_whole l size i ≡ true
  pub no_more : is_whole l size r ≡ false

-- a batch of them: at least one, and not one more unless it has all that it may have
pub record Front (l : List ℕ) (size hops : ℕ) : Type 0 where
  pub some : 0 < hops
  pub few : hops ≤ 15
  pub within : size * hops ≤ length l
  pub all : (i : ℕ) → i < hops → is_whole l size i ≡ true
  pub no_more : hops < 15 → is_whole l size hops ≡ false

-- the flag and the values of a whole hop, as `read_of` has them
abbrev pub hop_taken : List ℕ → ℕ → ℕ → ℕ → ℕ × List Float × List Float
hop_taken hop n dbs powers = (byte_at hop 0, tab dbs (λ k. double_at hop (1 + 8 * k)), tab powers (λ k. single_at hop (1 + 8 * n + 4 * k)))

-- ---- the smoothed dB, as `gate_step` has them: a held hop leaves them

abbrev pub smooth_after : ℕ → ℕ → List Float → List Float → List Float
smooth_after zero started s db = tab (length s) (λ k. db_after started (get_or s k f0) (get_or db k f0))
smooth_after (suc h) started s db = s

-- whether the gate has had an update
abbrev pub started_after : ℕ → ℕ → ℕ
started_after zero started = 1
started_after (suc h) started = started

-- a gate's floats with these in front of them
abbrev pub with_front : List Float → List Float → List Float
with_front s f = let m = min (length s) (length f) in splice 0 m f (tab m (λ k. get_or s k f0))
