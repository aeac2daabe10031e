-- One hop of a run on a bank and a gate that pass: its bank call is refused exactly where its hop is slow and garbled, its gate call never, and
-- both leave a bank and a gate that pass. What stands beside them plays no part. Assumes nothing.
use mathlib.Core.Path.{◌≡◌, refl, sym, ap, ◌∙◌}
use mathlib.Core.Bool.{Bool, true, false}
use Prim.Native.Nat.{ℕ, zero, suc, ◌+◌, ◌%◌}
use native.Mathlib.Omega.{arith}
use lib.ListN.{length, get_or}
use Rattle.laws.specs.Tests.{differ, first}
use Rattle.laws.proofs.Tests.{neither, passed, same_of, agrees}
use Rattle.model.specs.Layout.{decimation_hops}
use Rattle.model.specs.Bank.{FloorBank, hop, bank_step}
use Rattle.model.specs.Stores.{bank_of}
use Rattle.model.specs.Refusals.{bank_refusal, update_refusal}
use Rattle.model.specs.Gate.{Gate, gate_step, refresh, update_step}
use Rattle.model.specs.GateStores.{gate_of}
use Rattle.model.specs.GateCalls.{gate_refusal, pair_refusal, gate_update_refusal, hold_refusal, gate_leaves, gate_update_call, gate_hold_call}
use Rattle.model.proofs.GoodBanks.{ready}
use Rattle.model.proofs.GoodGates.{gate-ready, n-of}
use Rattle.model.specs.Demand3.{Stores, gate, does, step, answer, left}
use Rattle.model.proofs.SettledFloors.{n-step, phase-step}
use Rattle.model.proofs.Carrying.{leaves-bank, answer-alone}
use Rattle.model.proofs.Calls.{gate_after, leaves-gate, leaves-hold}
use Rattle.roles.specs.Rights.{as_role}
use Rattle.run_model.specs.Runs.{RunHop, is_held, bank_call, gate_call}
use Rattle.run_model.specs.Hops.{Fit, Long, garbled_hop, hop_of, gate_by}

pub fit_of : (s : Stores) → pair_refusal s.bu s.bf s.gu s.gf ≡ 0 → Fit (get_or s.gu 0 0) s
unfolding pair_refusal
fit_of s e =
    let a = neither (bank_refusal s.bu s.bf) _ e in
    let b = neither (gate_refusal s.gu s.gf) _ a.1 in
    let c = passed (differ (get_or s.bu 0 0) (get_or s.gu 0 0)) 8 0 (omega arith) b.1 in
    record { bank_passes = a.0; gate_passes = b.0; bank_n = same_of (get_or s.bu 0 0) (get_or s.gu 0 0) c.0; gate_n = refl }

pub pair-passes : (n : ℕ) (s : Stores) → Fit n s → pair_refusal s.bu s.bf s.gu s.gf ≡ 0
unfolding pair_refusal
pair-passes n s v = rw (v.bank_passes, v.gate_passes, agrees (get_or s.bu 0 0) (get_or s.gu 0 0) (v.bank_n ∙ sym v.gate_n))

-- ---- the bank's call

module _ (n : ℕ) (s : Stores) (v : Fit n s) (h : RunHop) (l : Long n h) where
  pub bank-refusal : update_refusal s.bu s.bf h.db h.power ≡ first (garbled_hop n s h) 6 0
  unfolding update_refusal
  bank-refusal =
      rw (v.bank_passes, v.bank_n, agrees (length h.db) n l.db, agrees (length h.power) n l.power)

  pub bank-answer : answer s (bank_call h) ≡ first (garbled_hop n s h) 6 0
  unfolding step does as_role
  bank-answer = answer-alone s.bu s.bf s.wu s.wf (hop (is_held h) h.db h.power) ∙ bank-refusal

  -- one that is refused leaves everything
  module _ (g : garbled_hop n s h ≡ true) where
    pub bank-refused : answer s (bank_call h) ≡ 6
    bank-refused = bank-answer ∙ rw g

  -- one that is not leaves a bank that passes, one phase on
  module _ (g : garbled_hop n s h ≡ false) where
    pub bank-accepted : answer s (bank_call h) ≡ 0
    bank-accepted = bank-answer ∙ rw g

    pub none : update_refusal s.bu s.bf h.db h.power ≡ 0
    none = bank-refusal ∙ rw g

    pub bank_is : (bank_refusal (left s (bank_call h)).bu (left s (bank_call h)).bf ≡ 0)
        × (bank_of (left s (bank_call h)).bu (left s (bank_call h)).bf ≡ bank_step (bank_of s.bu s.bf) (hop (is_held h) h.db h.power))
    unfolding step does as_role
    bank_is =
        let x = hop (is_held h) h.db h.power in
        let b = leaves-bank s.bu s.bf s.wu s.wf x false v.bank_passes (ready s.bu s.bf v.bank_passes).good in
        let e = answer-alone s.bu s.bf s.wu s.wf x ∙ none in
        (b.0, b.1 ∙ rw e)

    pub bank-fits : Fit n (left s (bank_call h))
    unfolding step does as_role bank_of
    bank-fits =
        let q = ap (λ (b : FloorBank). b.n) bank_is.1 ∙ n-step (bank_of s.bu s.bf) (hop (is_held h) h.db h.power) in
        record { bank_passes = bank_is.0; gate_passes = v.gate_passes; bank_n = q ∙ v.bank_n; gate_n = v.gate_n }

    pub bank-phase : get_or (left s (bank_call h)).bu 1 0 ≡ (get_or s.bu 1 0 + 1) % decimation_hops
    unfolding bank_of
    bank-phase = ap (λ (b : FloorBank). b.phase) bank_is.1 ∙ phase-step (bank_of s.bu s.bf) (hop (is_held h) h.db h.power)

-- ---- the gate's

module _ (n : ℕ) (s : Stores) (v : Fit n s) (h : RunHop) (l : Long n h) where
  pub update-none : gate_update_refusal s.bu s.bf s.gu s.gf (length h.db) (length h.power) (length h.rise) (length h.drop) ≡ 0
  unfolding gate_update_refusal
  update-none =
      rw (pair-passes n s v, v.gate_n, agrees (length h.db) n l.db, agrees (length h.power) n l.power, agrees (length h.rise) n l.rise, agrees (length h.drop) n l.drop)

  pub hold-none : hold_refusal s.bu s.bf s.gu s.gf (length h.rise) (length h.drop) ≡ 0
  unfolding hold_refusal
  hold-none = rw (pair-passes n s v, v.gate_n, agrees (length h.rise) n l.rise, agrees (length h.drop) n l.drop)

  update-answer : answer s (gate_by h false) ≡ 0
  unfolding step does as_role gate_update_call
  update-answer = go (gate_update_refusal s.bu s.bf s.gu s.gf (length h.db) (length h.power) (length h.rise) (length h.drop)) update-none
    where
      go : (r : ℕ) → r ≡ 0 → (gate_leaves r (update_step (gate_of s.gu s.gf) (bank_of s.bu s.bf) h.db h.power) s.gu s.gf).0 ≡ 0
      go zero e = refl
      go (suc r) e = e

  hold-answer : answer s (gate_by h true) ≡ 0
  unfolding step does as_role gate_hold_call
  hold-answer = hold-none

  update-fits : Fit n (left s (gate_by h false))
  unfolding step does as_role gate_update_call update_step refresh gate_step
  update-fits =
      let r = gate_update_refusal s.bu s.bf s.gu s.gf (length h.db) (length h.power) (length h.rise) (length h.drop) in
      let q = leaves-gate s.gu s.gf (bank_of s.bu s.bf) false (hop_of h) 0 0 v.gate_passes (gate-ready s.gu s.gf v.gate_passes).good r in
      record {
        bank_passes = v.bank_passes;
        gate_passes = q.0;
        bank_n = v.bank_n;
        gate_n = sym (n-of _ _) ∙ ap (λ (g : Gate). g.n) q.1 ∙ ap (λ (x : ℕ). (gate_after x (gate_of s.gu s.gf) (bank_of s.bu s.bf) (gate false (hop_of h) 0 0)).n) update-answer ∙ n-of s.gu s.gf ∙ v.gate_n;
      }

  hold-fits : Fit n (left s (gate_by h true))
  unfolding step does as_role gate_hold_call
  hold-fits =
      let q = leaves-hold s.gu s.gf (bank_of s.bu s.bf) false 0 0 v.gate_passes (gate-ready s.gu s.gf v.gate_passes).good (hold_refusal s.bu s.bf s.gu s.gf (length h.rise) (length h.drop)) in
      record { bank_passes = v.bank_passes; gate_passes = q.0; bank_n = v.bank_n; gate_n = v.gate_n }

  -- whichever it is
  pub gate-taken : (answer s (gate_call h) ≡ 0) × Fit n (left s (gate_call h))
  gate-taken = go (is_held h)
    where
      go : (b : Bool) → (answer s (gate_by h b) ≡ 0) × Fit n (left s (gate_by h b))
      go true = (hold-answer, hold-fits)
      go false = (update-answer, update-fits)

  -- the bank is as it was
  pub gate-bank : ((left s (gate_call h)).bu ≡ s.bu) × ((left s (gate_call h)).bf ≡ s.bf)
  unfolding step does as_role
  gate-bank = go (is_held h)
    where
      go : (b : Bool) → ((left s (gate_by h b)).bu ≡ s.bu) × ((left s (gate_by h b)).bf ≡ s.bf)
      go true = (refl, refl)
      go false = (refl, refl)
