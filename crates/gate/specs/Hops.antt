-- One hop of the gate that is not refused, and one hold: what it asks of the lent slices, and what it leaves.
use Rattle.std.specs.Prelude.{◌≡◌, List, ℕ, get_or, Float}
use Rattle.model.specs.Bank.{FloorBank}
use Rattle.model.specs.Gate.{Gate}
use Rattle.gate_cursors.specs.Paired.{Paired, Marked}
use Rattle.gate_step.specs.Steps.{Holds}

-- a sound bank and a sound gate of as many channels, and hop and output slices of as many entries
pub record Takes (bu : List ℕ) (bf : List Float) (gu : List ℕ) (gf : List Float) (db power rise drop : ℕ) : Type 0 where
  pub paired : Paired bu bf gu gf
  pub db_long : db ≡ get_or gu 0 0
  pub power_long : power ≡ get_or gu 0 0
  pub rise_long : rise ≡ get_or gu 0 0
  pub drop_long : drop ≡ get_or gu 0 0

-- the same for a hold, which has no hop
pub record Keeps (bu : List ℕ) (bf : List Float) (gu : List ℕ) (gf : List Float) (rise drop : ℕ) : Type 0 where
  pub paired : Paired bu bf gu gf
  pub rise_long : rise ≡ get_or gu 0 0
  pub drop_long : drop ≡ get_or gu 0 0

-- the stores hold g, and the marks are what g and b say
pub record Taken (g : Gate) (b : FloorBank) (gu : List ℕ) (gf : List Float) (rise drop : List ℕ) : Type 0 where
  pub holds : Holds g gu gf
  pub marked : Marked g b rise drop
