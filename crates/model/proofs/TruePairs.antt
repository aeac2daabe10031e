-- R-3: an update and a hold keep true pairs true. Assumes nothing.
use mathlib.Core.List.{List}
use Prim.Native.Nat.{ℕ, zero, suc}
use lib.Ieee.{Float}
use Rattle.model.specs.Bank.{FloorBank}
use Rattle.model.specs.Gate.{Gate, gate_step, update_step, hold_at, hold_step}
use Rattle.model.specs.Remembered.{PairsTrue}
use Rattle.model.proofs.Pairs.{true-step, true-refresh}

pub true-update : (g : Gate) (b : FloorBank) (db power : List Float) → PairsTrue g → PairsTrue (update_step g b db power)
unfolding update_step
true-update g b db power p = true-refresh (gate_step g db power) b (true-step g db power p)

true-hold-at : (t : ℕ) (g : Gate) (b : FloorBank) → PairsTrue g → PairsTrue (hold_at t g b)
true-hold-at zero g b p = p
true-hold-at (suc t) g b p = true-refresh g b p

pub true-hold : (g : Gate) (b : FloorBank) → PairsTrue g → PairsTrue (hold_step g b)
unfolding hold_step
true-hold g b p = true-hold-at g.started g b p
