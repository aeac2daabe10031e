-- Channels one after another: in a bank's store, eight and four of them as lists of their own, and the tallies of four.
use Rattle.std.specs.Prelude.{◌≡◌, Bool, true, List, ℕ, ◌+◌, ◌*◌, ◌<◌, ◌≤◌, eqb, length, get_or, take, set}
use Rattle.laws.specs.Lists.{occ, part}
use Rattle.laws.specs.Tests.{all_below}
use Rattle.model.specs.Layout.{bins, ring_len, channel_len, at_counts, at_next, at_filled, at_lead}
use Rattle.model.specs.Stores.{chan_of, sound_fields, sound_channel}

-- the k-th of the channels that begin at a place of the store
abbrev pub chan_at : ℕ → List ℕ → ℕ → List ℕ
chan_at from u k = part (from + channel_len * k) channel_len u

-- the k-th of channels that are a list of their own
abbrev pub chan_in : List ℕ → ℕ → List ℕ
chan_in u k = part (channel_len * k) channel_len u

-- the first four of eight channels, and the four behind them
abbrev pub front_of : List ℕ → List ℕ
front_of u = take (4 * channel_len) u

abbrev pub behind_of : List ℕ → List ℕ
behind_of u = part (4 * channel_len) (4 * channel_len) u

-- a channel with so many filled places, whose fields are sound
pub record Filled (n : ℕ) (l : List ℕ) : Type 0 where
  pub filled : get_or l at_filled 0 ≡ n
  pub fields : sound_fields (get_or l at_next 0) (get_or l at_filled 0) (get_or l at_lead 0) (get_or l at_counts 0) ≡ true

-- eight such channels, whose entries are bins below top: all but the counts is asked
pub record EightReady (n top : ℕ) (u : List ℕ) : Type 0 where
  pub filled : (k : ℕ) → k < 8 → Filled n (chan_in u k)
  pub low : (k i : ℕ) → k < 8 → i < ring_len → get_or u (channel_len * k + i) 0 < top

-- the counts of eight channels from top on are 0
abbrev pub NoneAbove : ℕ → List ℕ → Type 0
NoneAbove top u = (k b : ℕ) → k < 8 → top ≤ b → b < bins → get_or u (channel_len * k + (at_counts + b)) 0 ≡ 0

abbrev pub EightSound : List ℕ → Type 0
EightSound u = (k : ℕ) → k < 8 → sound_channel (chan_of (chan_in u k)) ≡ true

-- ---- tallies of four channels, one after another

-- the place of the tally in which the i-th entry of the k-th channel is counted
abbrev pub cell_of : List ℕ → ℕ → ℕ → ℕ
cell_of u i k = k * bins + get_or u (channel_len * k + i) 0

abbrev pub raise : ℕ → ℕ → List ℕ → List ℕ
raise w p t = set t p (get_or t p 0 + w)

-- the i-th entry of each of four channels, counted as w
abbrev pub row_counted : ℕ → List ℕ → ℕ → List ℕ → List ℕ
row_counted w u i t = raise w (cell_of u i 3) (raise w (cell_of u i 2) (raise w (cell_of u i 1) (raise w (cell_of u i 0) t)))

-- to the tallies s the first n entries of each channel are added, each as w
pub record Added (w n : ℕ) (u s t : List ℕ) : Type 0 where
  pub long : length t ≡ 4 * bins
  pub sums : (k b : ℕ) → k < 4 → b < bins → get_or t (k * bins + b) 0 ≡ get_or s (k * bins + b) 0 + w * occ b (take n (chan_in u k))

-- tallies of no more than the entries of one ring each
pub record Few (t : List ℕ) : Type 0 where
  pub long : length t ≡ 4 * bins
  pub few : (k b : ℕ) → k < 4 → b < bins → get_or t (k * bins + b) 0 ≤ ring_len

-- tallies of nothing
pub record Clear (t : List ℕ) : Type 0 where
  pub long : length t ≡ 4 * bins
  pub none : (k b : ℕ) → k < 4 → b < bins → get_or t (k * bins + b) 0 ≡ 0

-- the tally of bin b is that of its count in the k-th of four channels, and in the k-th of four others
abbrev pub is_borne_out : List ℕ → List ℕ → List ℕ → ℕ → ℕ → Bool
is_borne_out first second t b k =
    eqb (get_or first (channel_len * k + (at_counts + b)) 0 + 65536 * get_or second (channel_len * k + (at_counts + b)) 0) (get_or t (k * bins + b) 0)

abbrev pub row_borne_out : List ℕ → List ℕ → List ℕ → ℕ → Bool
row_borne_out first second t b = all_below 4 (is_borne_out first second t b)

-- the tallies of bin b set back
abbrev pub row_cleared : ℕ → List ℕ → List ℕ
row_cleared b t = set (set (set (set t b 0) (bins + b) 0) (2 * bins + b) 0) (3 * bins + b) 0

-- those of the bins below top are set back, the others are as in s
pub record ClearedTo (top : ℕ) (s t : List ℕ) : Type 0 where
  pub long : length t ≡ 4 * bins
  pub none : (k b : ℕ) → k < 4 → b < top → get_or t (k * bins + b) 0 ≡ 0
  pub others : (k b : ℕ) → k < 4 → top ≤ b → b < bins → get_or t (k * bins + b) 0 ≡ get_or s (k * bins + b) 0
