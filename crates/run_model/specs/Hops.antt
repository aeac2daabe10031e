-- One hop of a run: what a bank and a gate show that refuse none of its two calls, and what these leave.
use Rattle.std.specs.Prelude.{◌≡◌, Bool, false, cond, ◌&&◌, List, ℕ, eqb, length, get_or, Float}
use Rattle.model.specs.Refusals.{bank_refusal, garbled}
use Rattle.model.specs.GateCalls.{GateHop, gate_refusal}
use Rattle.model.specs.Demand3.{Stores, Call, asked_by, gate, hold, left, rises_of}
use Rattle.roles.specs.Rights.{technician}
use Rattle.run_model.specs.Runs.{RunHop, bank_call, gate_call, drops_of, alone}

-- a bank and a gate of n channels that no call refuses
pub record Fit (n : ℕ) (s : Stores) : Type 0 where
  pub bank_passes : bank_refusal s.bu s.bf ≡ 0
  pub gate_passes : gate_refusal s.gu s.gf ≡ 0
  pub bank_n : get_or s.bu 0 0 ≡ n
  pub gate_n : get_or s.gu 0 0 ≡ n

-- a hop of n channels
pub record Long (n : ℕ) (h : RunHop) : Type 0 where
  pub db : length h.db ≡ n
  pub power : length h.power ≡ n
  pub rise : length h.rise ≡ n
  pub drop : length h.drop ≡ n

-- the hop is slow, and the bank takes it for garbled
abbrev pub garbled_hop : ℕ → Stores → RunHop → Bool
garbled_hop n s h = eqb (get_or s.bu 1 0) 0 && garbled n h.db

pub record HopFits (s : Stores) (h : RunHop) : Type 0 where
  pub fit : Fit (get_or s.gu 0 0) s
  pub long : Long (get_or s.gu 0 0) h
  pub clear : garbled_hop (get_or s.gu 0 0) s h ≡ false

-- what the gate is told of it
abbrev pub hop_of : RunHop → GateHop
hop_of h = record { db = h.db; power = h.power }

-- the gate's call, by whether the hop is held
abbrev pub gate_by : RunHop → Bool → Call
gate_by h b = asked_by technician (cond b (hold false h.rise h.drop) (gate false (hop_of h) h.rise h.drop))

-- what its two calls leave, and the marks of the second
abbrev pub hop_left : Stores → RunHop → Stores
hop_left s h = left (left s (bank_call h)) (gate_call h)

abbrev pub hop_rises : Stores → RunHop → List ℕ
hop_rises s h = rises_of (left s (bank_call h)) (gate_call h)

abbrev pub hop_drops : Stores → RunHop → List ℕ
hop_drops s h = drops_of (left s (bank_call h)) (gate_call h)

-- the four stores and the hop's places of the outputs are so
pub record Stepped (s : Stores) (h : RunHop) (u : List ℕ) (f : List Float) (g : List ℕ) (k : List Float) (rise drop : List ℕ) : Type 0 where
  pub stores : alone u f g k ≡ hop_left s h
  pub rises : rise ≡ hop_rises s h
  pub drops : drop ≡ hop_drops s h
