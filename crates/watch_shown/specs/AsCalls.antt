-- A batch of hops of which only the first may be slow is received as one run, and then told hop by hop. What is shown at a hop are floors and
-- where they come from, which are read after the run, and the gate's smoothed dB, which are stepped beside it. Both are as the single calls of the
-- hops so far leave them. The proofs are in proofs/AsCalls.antt.
use Rattle.std.specs.Prelude.{◌≡◌, false, List, [], ◌∷◌, ℕ, ◌+◌, ◌≤◌, length, get_or, take, Float}
use Rattle.model.specs.Bank.{FloorBank}
use Rattle.model.specs.Gate.{Gate}
use Rattle.model.specs.Demand3.{Stores, left_by, bank_in}
use Rattle.model.specs.Layout.{decimation_hops}
use Rattle.model.specs.Sets.{gate_in}
use Rattle.run_model.specs.Runs.{Run, RunHop, hops_of, calls_of}
use Rattle.run_model.specs.Claims.{refusal_on}
use Rattle.run_model.specs.Hops.{Fit, Long, garbled_hop, hop_left}
use Rattle.watch_batch.specs.Batch.{smooth_after, started_after}

-- a hop of a run that is not refused
pub record Taken (n : ℕ) (s : Stores) (h : RunHop) : Type 0 where
  pub fit : Fit n s
  pub long : Long n h
  pub clear : garbled_hop n s h ≡ false

-- ---- the smoothed dB

pub record Smoothed (g : Gate) (h : RunHop) (g' : Gate) : Type 0 where
  pub smooth : g'.smooth ≡ smooth_after h.hold g.started g.smooth h.db
  pub started : g'.started ≡ started_after h.hold g.started

abbrev pub SmoothedAsCalls : Type 0
SmoothedAsCalls = (n : ℕ) (s : Stores) (h : RunHop) → Taken n s h → Smoothed (gate_in s) h (gate_in (hop_left s h))

-- ---- the floors

-- all that a bank's floors and their explanations are read from
pub record SameFloors (b b' : FloorBank) : Type 0 where
  pub n : b'.n ≡ b.n
  pub seeds : b'.seeds ≡ b.seeds
  pub chans : b'.chans ≡ b.chans
  pub raw : b'.raw ≡ b.raw
  pub usable : b'.usable ≡ b.usable
  pub rise : b'.rise ≡ b.rise
  pub block_floor : b'.block_floor ≡ b.block_floor
  pub seed_sum : b'.seed_sum ≡ b.seed_sum

-- a hop that is not slow moves none of them
abbrev pub FloorsStay : Type 0
FloorsStay = (n : ℕ) (s : Stores) (h : RunHop) → Taken n s h → (get_or s.bu 1 0 ≡ 0 → ⊥) → SameFloors (bank_in s) (bank_in (hop_left s h))

-- ---- a run that is not refused, after each of its hops

abbrev pub hops_in : Stores → Run → List RunHop
hops_in s r = hops_of (get_or s.gu 0 0) r

-- what the single calls of some hops leave
abbrev pub after : Stores → List RunHop → Stores
after s hs = left_by s (calls_of hs)

-- whether the gate has had an update, and its smoothed dB, stepped hop by hop
abbrev pub smoothed_by : ℕ → List Float → List RunHop → ℕ × List Float
smoothed_by started l [] = (started, l)
smoothed_by started l (h ∷ hs) = smoothed_by (started_after h.hold started) (smooth_after h.hold started l h.db) hs

-- for what is shown of hop i: with the i hops up to it
abbrev pub ShownSmoothed : Type 0
ShownSmoothed = (s : Stores) (r : Run) → refusal_on s r ≡ 0 → (i : ℕ)
    → let hs = take i (hops_in s r) in
    let g = gate_in (after s hs) in
    (g.started, g.smooth) ≡ smoothed_by (gate_in s).started (gate_in s).smooth hs

-- after the first hop, where the run ends before the next slow one: the floors are those that it leaves
abbrev pub ShownFloors : Type 0
ShownFloors = (s : Stores) (r : Run) → refusal_on s r ≡ 0 → get_or s.bu 1 0 + length r.hold ≤ decimation_hops → (i : ℕ) → 1 ≤ i
    → SameFloors (bank_in (after s (take i (hops_in s r)))) (bank_in (after s (hops_in s r)))
