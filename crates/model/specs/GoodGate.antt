-- What a sound gate has, as facts: the rules of `sound_gate` (document 01, "Stores"), with the lengths of its lists.
use Rattle.std.specs.Prelude.{◌≡◌, List, ◌⊎◌, ℕ, ◌+◌, ◌*◌, ◌≤◌, ◌<◌, length, get_or, Float}
use Rattle.model.specs.Windows.{PowerLooks, fresh_look, ring_of}
use Rattle.model.specs.Gate.{Gate}
use Rattle.model.specs.GateStores.{gate_of, gate_f_len}

pub record GoodLook (n : ℕ) (l : PowerLooks) : Type 0 where
  pub some : 1 ≤ l.m
  pub few : l.m ≤ 375
  pub cursor : l.cursor < 2 * l.m
  pub filled : l.filled ≤ 2 * l.m
  pub at_start : l.filled < 2 * l.m → l.cursor ≡ l.filled
  pub rings_long : length l.rings ≡ n
  pub ring_long : (k : ℕ) → k < n → length (ring_of l k) ≡ 2 * l.m
  pub recent_long : length l.recent ≡ n
  pub previous_long : length l.previous ≡ n

abbrev pub look_at : Gate → ℕ → PowerLooks
look_at g j = get_or g.looks j (fresh_look 0 0)

pub record GoodGate (g : Gate) : Type 0 where
  pub low : 1 ≤ g.n
  pub high : g.n ≤ 512
  pub started : g.started ≤ 1
  pub on : g.on ≤ 1600
  pub off : g.off ≤ 1600
  pub early : (g.early ≡ 65535) ⊎ (g.early ≤ 1600)
  pub some : 1 ≤ length g.looks
  pub few : length g.looks ≤ 8
  pub smooth_long : length g.smooth ≡ g.n
  pub used_long : length g.used ≡ g.n
  pub threshold_long : length g.threshold ≡ g.n
  pub look : (j : ℕ) → j < length g.looks → GoodLook g.n (look_at g j)
  pub distinct : (i j : ℕ) → i < j → j < length g.looks → (look_at g i).m ≡ (look_at g j).m → ⊥

-- two lent stores that hold a sound gate: what a call knows of them that does not refuse with 2 or 9
pub record GateReady (u : List ℕ) (f : List Float) : Type 0 where
  pub long : length u ≡ 30
  pub long_f : length f ≡ gate_f_len u
  pub unused : (i : ℕ) → 6 + 3 * get_or u 5 0 ≤ i → i < 30 → get_or u i 0 ≡ 0
  pub good : GoodGate (gate_of u f)
