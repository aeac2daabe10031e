-- What is shown at a hop of a run is as the single calls leave it. Assumes nothing.
use mathlib.Core.Path.{◌≡◌, refl, sym, ap, subst, ◌∙◌}
use mathlib.Core.Bool.{Bool, true, false}
use mathlib.Core.List.{List}
use Prim.Native.Nat.{ℕ, zero, suc}
use borrow.Author.Tests.{eqb-true, eqb-false, not-true, not-false}
use lib.ListN.{length, get_or}
use lib.Ieee.{Float}
use Rattle.laws.specs.Lists.{tab}
use Rattle.model.specs.Numbers.{f0}
use Rattle.model.specs.Bank.{FloorBank, Hop, hop, step_at, fast_step, bank_step}
use Rattle.model.specs.Stores.{bank_of}
use Rattle.model.specs.Gate.{Gate, db_after, gate_step, refresh, update_step, hold_at, hold_step}
use Rattle.model.specs.GoodGate.{GoodGate}
use Rattle.model.specs.GateCalls.{gate_update_refusal, hold_refusal, gate_leaves, gate_update_call, gate_hold_call}
use Rattle.model.specs.Demand3.{Stores, gate, hold, does, step, left, bank_in}
use Rattle.model.specs.Sets.{gate_in}
use Rattle.model.proofs.GoodGates.{gate-ready}
use Rattle.model.proofs.Calls.{gate_after, leaves-gate, leaves-hold}
use Rattle.roles.specs.Rights.{as_role}
use Rattle.run_model.specs.Runs.{RunHop, is_held, bank_call, gate_call}
use Rattle.run_model.specs.Hops.{Fit, Long, hop_of, gate_by, hop_left}
use Rattle.run_model.proofs.Taken.{bank_is, bank-fits, update-none, hold-none, gate-bank}
use Rattle.watch_batch.specs.Batch.{smooth_after, started_after}
use Rattle.watch_shown.specs.AsCalls.{Smoothed, SmoothedAsCalls, SameFloors, FloorsStay}

-- ---- the gate's call, on a bank and a gate that pass

-- a step smooths, and a hold doesn't
smoothed-by : (g : Gate) (b : FloorBank) (h : RunHop) → GoodGate g → h.hold ≡ 0 → Smoothed g h (update_step g b h.db h.power)
unfolding update_step refresh gate_step
smoothed-by g b h good z =
    record {
      smooth =
          ap (λ (m : ℕ). tab m (λ k. db_after g.started (get_or g.smooth k f0) (get_or h.db k f0))) (sym good.smooth_long)
          ∙ ap (λ (x : ℕ). smooth_after x g.started g.smooth h.db) (sym z);
      started = ap (λ (x : ℕ). started_after x g.started) (sym z);
    }

kept-smooth : (x : ℕ) (g : Gate) (b : FloorBank) → ((hold_at x g b).smooth ≡ g.smooth) × ((hold_at x g b).started ≡ g.started)
unfolding refresh
kept-smooth zero g b = (refl, refl)
kept-smooth (suc x) g b = (refl, refl)

left-held : (x started : ℕ) (s db : List Float) → (x ≡ 0 → ⊥) → (s ≡ smooth_after x started s db) × (started ≡ started_after x started)
left-held zero started s db z = absurd (z refl)
left-held (suc x) started s db z = (refl, refl)

kept_by : (g : Gate) (b : FloorBank) (h : RunHop) → (h.hold ≡ 0 → ⊥) → Smoothed g h (hold_step g b)
unfolding hold_step
kept_by g b h z =
    let k = kept-smooth g.started g b in
    let e = left-held h.hold g.started g.smooth h.db z in
    record { smooth = k.0 ∙ e.0; started = k.1 ∙ e.1 }

module _ (n : ℕ) (s : Stores) (v : Fit n s) (h : RunHop) (l : Long n h) where
  good : GoodGate (gate_in s)
  good = (gate-ready s.gu s.gf v.gate_passes).good

  update-is : gate_in (left s (gate_by h false)) ≡ update_step (gate_in s) (bank_in s) h.db h.power
  unfolding step does as_role gate_update_call
  update-is =
      let r = gate_update_refusal s.bu s.bf s.gu s.gf (length h.db) (length h.power) (length h.rise) (length h.drop) in
      (leaves-gate s.gu s.gf (bank_in s) false (hop_of h) 0 0 v.gate_passes good r).1
      ∙ go r (update-none n s v h l)
    where
      go : (r : ℕ) → r ≡ 0
          → gate_after (gate_leaves r (update_step (gate_in s) (bank_in s) h.db h.power) s.gu s.gf).0 (gate_in s) (bank_in s) (gate false (hop_of h) 0 0)
          ≡ update_step (gate_in s) (bank_in s) h.db h.power
      go r z = ap (λ (x : ℕ). gate_after (gate_leaves x (update_step (gate_in s) (bank_in s) h.db h.power) s.gu s.gf).0 (gate_in s) (bank_in s) (gate false (hop_of h) 0 0)) z

  hold-is : gate_in (left s (gate_by h true)) ≡ hold_step (gate_in s) (bank_in s)
  unfolding step does as_role gate_hold_call
  hold-is =
      let r = hold_refusal s.bu s.bf s.gu s.gf (length h.rise) (length h.drop) in
      (leaves-hold s.gu s.gf (bank_in s) false 0 0 v.gate_passes good r).1
      ∙ ap (λ (x : ℕ). gate_after x (gate_in s) (bank_in s) (hold false 0 0)) (hold-none n s v h l)

  gate-smooths : Smoothed (gate_in s) h (gate_in (left s (gate_call h)))
  gate-smooths = go (is_held h) refl
    where
      go : (b : Bool) → is_held h ≡ b
          → Smoothed (gate_in s) h (gate_in (left s (gate_by h b)))
      go false e = subst (Smoothed (gate_in s) h) (sym update-is) (smoothed-by (gate_in s) (bank_in s) h good (eqb-true h.hold 0 (not-false _ e)))
      go true e = subst (Smoothed (gate_in s) h) (sym hold-is) (kept_by (gate_in s) (bank_in s) h (eqb-false h.hold 0 (not-true _ e)))

-- the bank's call leaves the gate
bank-keeps : (s : Stores) (h : RunHop) → gate_in (left s (bank_call h)) ≡ gate_in s
unfolding step does as_role
bank-keeps s h = refl

pub smoothed-as-calls : SmoothedAsCalls
smoothed-as-calls n s h t =
    subst (λ (g : Gate). Smoothed g h (gate_in (hop_left s h))) (bank-keeps s h)
    (gate-smooths n (left s (bank_call h)) (bank-fits n s t.fit h t.long t.clear) h t.long)

-- ---- the floors

fast : (p : ℕ) (b : FloorBank) (x : Hop) → (p ≡ 0 → ⊥) → SameFloors b (step_at p b x)
unfolding fast_step
fast zero b x z = absurd (z refl)
fast (suc p) b x z = record { n = refl; seeds = refl; chans = refl; raw = refl; usable = refl; rise = refl; block_floor = refl; seed_sum = refl }

fast-step : (b : FloorBank) (x : Hop) → (b.phase ≡ 0 → ⊥) → SameFloors b (bank_step b x)
unfolding bank_step
fast-step b x z = fast b.phase b x z

phase-of : (u : List ℕ) (f : List Float) → (bank_of u f).phase ≡ get_or u 1 0
unfolding bank_of
phase-of u f = refl

pub floors-stay : FloorsStay
floors-stay n s h t z =
    let k = left s (bank_call h) in
    let q = gate-bank n k (bank-fits n s t.fit h t.long t.clear) h t.long in
    let same : bank_in (hop_left s h) ≡ bank_step (bank_in s) (hop (is_held h) h.db h.power) = (λ i. bank_of (q.0 i) (q.1 i)) ∙ (bank_is n s t.fit h t.long t.clear).1 in
    subst (SameFloors (bank_in s)) (sym same) (fast-step (bank_in s) (hop (is_held h) h.db h.power) (λ e. z (sym (phase-of s.bu s.bf) ∙ e)))
