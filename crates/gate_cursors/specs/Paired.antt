-- What the gate's functions know of the lent stores once a call is not refused, and what they leave.
use Rattle.std.specs.Prelude.{◌≡◌, List, ℕ, get_or, Float}
use Rattle.model.specs.Bank.{FloorBank}
use Rattle.model.specs.Gate.{Gate, rise_bytes, drop_bytes}
use Rattle.model.specs.GateStores.{m_at, cursor_at, filled_at}
use Rattle.model.specs.GoodBank.{Ready}
use Rattle.cursors.specs.declared.Cursor.{Cursor}
use Rattle.model.specs.GoodGate.{GateReady}

-- a sound bank and a sound gate of as many channels
pub record Paired (bu : List ℕ) (bf : List Float) (gu : List ℕ) (gf : List Float) : Type 0 where
  pub bank : Ready bu bf
  pub gate : GateReady gu gf
  pub same : get_or bu 0 0 ≡ get_or gu 0 0

-- the cursor of length j
abbrev pub cursor_of : List ℕ → ℕ → Cursor
cursor_of u j = record { m = m_at u j; at = cursor_at u j; filled = filled_at u j }

-- rise and drop are what g and b say
pub record Marked (g : Gate) (b : FloorBank) (rise drop : List ℕ) : Type 0 where
  pub rises : rise ≡ rise_bytes g b
  pub drops : drop ≡ drop_bytes g b
