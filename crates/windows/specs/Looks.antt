-- The windows of one length in their part of the gate's f64 store.
use Rattle.std.specs.Prelude.{◌≡◌, List, ℕ, ◌≤◌, length, get_or, Float}
use Rattle.model.specs.Numbers.{f0}
use Rattle.model.specs.Windows.{PowerLooks, step_look}
use Rattle.model.specs.GateStores.{look_size, look_f, look_of}
use Rattle.cursors.specs.declared.Cursor.{Cursor}

-- the part holds the windows of length m of n channels
pub record LookFits (l : List Float) (n m : ℕ) : Type 0 where
  pub low : 1 ≤ n
  pub high : n ≤ 512
  pub some : 1 ≤ m
  pub few : m ≤ 375
  pub long : length l ≡ look_size n m

-- the windows that the part and the cursor hold
abbrev pub looks_in : List Float → Cursor → ℕ → PowerLooks
looks_in l c n = look_of n c.m c.at c.filled l

abbrev pub cursor_in : PowerLooks → Cursor
cursor_in s = record { m = s.m; at = s.cursor; filled = s.filled }

-- channel k's sample of the hop
abbrev pub sample_at : List Float → ℕ → Float
sample_at samples k = get_or samples k f0

-- one hop: the cursor and the part that it leaves
unfoldable pub stepped_look : List Float → Cursor → List Float → Cursor × List Float
stepped_look l c samples =
    let s = step_look (length samples) (sample_at samples) (looks_in l c (length samples)) in
    (cursor_in s, look_f s)
