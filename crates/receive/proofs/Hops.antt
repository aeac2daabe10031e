-- One hop of a run: what the steps of the single calls leave is what the calls leave. Assumes nothing.
use mathlib.Core.Path.{◌≡◌, refl, sym, ap, ap₂, subst, ◌∙◌}
use mathlib.Core.Bool.{Bool, true, false, not}
use mathlib.Core.List.{List}
use Prim.Native.Nat.{ℕ}
use lib.ListN.{length, get_or}
use lib.Ieee.{Float}
use borrow.Author.Tests.{eq-eqb, ne_eqb}
use Rattle.model.specs.Bank.{hop, bank_step}
use Rattle.model.specs.Stores.{bank_of}
use Rattle.model.specs.Refusals.{bank_refusal}
use Rattle.model.specs.Gate.{update_step, hold_step}
use Rattle.model.specs.GateStores.{gate_of}
use Rattle.model.specs.GateCalls.{gate_update_call, gate_hold_call}
use Rattle.model.specs.GoodBank.{Ready}
use Rattle.model.proofs.GoodBanks.{ready}
use Rattle.model.proofs.GoodGates.{gate-ready}
use Rattle.model.specs.Demand3.{Stores, does, step, left, rises_done, rises_of}
use Rattle.roles.specs.Rights.{as_role}
use Rattle.bank_stages.specs.Steps.{Holds}
use Rattle.bank_stages.proofs.Stages.{accepted}
use Rattle.gate_cursors.specs.Paired.{Paired}
use Rattle.gate.specs.Hops.{Takes, Keeps, Taken}
use Rattle.gate.proofs.Calls.{updated, held-marks}
use Rattle.run_model.specs.Runs.{RunHop, is_held, bank_call, drops_done, drops_of, alone}
use Rattle.run_model.specs.Hops.{Fit, HopFits, gate_by, Stepped}
use Rattle.run_model.proofs.Taken.{none, bank-fits, update-none, hold-none}

pub paired-of : (n : ℕ) (s : Stores) → Fit n s → Paired s.bu s.bf s.gu s.gf
paired-of n s v =
    record { bank = ready s.bu s.bf v.bank_passes; gate = gate-ready s.gu s.gf v.gate_passes; same = v.bank_n ∙ sym v.gate_n }

module _ (s : Stores) (h : RunHop) (v : HopFits s h) where
  -- after the bank's call
  abbrev pub mid : Stores
  mid = left s (bank_call h)

  pub mid-fits : Fit (get_or s.gu 0 0) mid
  mid-fits = bank-fits (get_or s.gu 0 0) s v.fit h v.long v.clear

  -- what the bank's step leaves is that
  pub bank-left : (u : List ℕ) (f : List Float) → Holds (bank_step (bank_of s.bu s.bf) (hop (is_held h) h.db h.power)) u f
      → (u ≡ mid.bu) × (f ≡ mid.bf)
  unfolding step does as_role
  bank-left u f q =
      let e = accepted s.bu u s.bf f (hop (is_held h) h.db h.power) (none (get_or s.gu 0 0) s v.fit h v.long v.clear) q in
      (ap (λ (a : ℕ × List ℕ × List Float). a.1) e, ap (λ (a : ℕ × List ℕ × List Float). a.2) e)

module _ (bu : List ℕ) (bf : List Float) (gu : List ℕ) (gf : List Float) (h : RunHop) (v : HopFits (alone bu bf gu gf) h) where
  abbrev s : Stores
  s = alone bu bf gu gf

  abbrev m : Stores
  m = mid s h v

  module _ (u : List ℕ) (f : List Float) (same : (u ≡ m.bu) × (f ≡ m.bf)) where
    -- the bank that the gate's step sees is sound, and of as many channels
    pub fits_on : Fit (get_or gu 0 0) (alone u f gu gf)
    unfolding step does as_role
    fits_on = let w = mid-fits s h v in
        record {
          bank_passes = ap₂ bank_refusal same.0 same.1 ∙ w.bank_passes;
          gate_passes = w.gate_passes;
          bank_n = ap (λ (l : List ℕ). get_or l 0 0) same.0 ∙ w.bank_n;
          gate_n = refl;
        }

    update-leaves : (g : List ℕ) (k : List Float) (rise drop : List ℕ)
        → Taken (update_step (gate_of gu gf) (bank_of u f) h.db h.power) (bank_of u f) g k rise drop
        → (0, g, k, rise, drop) ≡ gate_update_call m.bu m.bf gu gf (record { db = h.db; power = h.power }) h.rise h.drop
    update-leaves g k rise drop t =
        updated u f gu gf (record { db = h.db; power = h.power }) h.rise h.drop g k rise drop (update-none (get_or gu 0 0) (alone u f gu gf) fits_on h v.long) t
        ∙ (λ i. gate_update_call (same.0 i) (same.1 i) gu gf (record { db = h.db; power = h.power }) h.rise h.drop)

    hold-leaves : (k : List Float) (rise drop : List ℕ) → Taken (hold_step (gate_of gu gf) (bank_of u f)) (bank_of u f) gu k rise drop
        → (0, k, rise, drop) ≡ gate_hold_call m.bu m.bf gu gf h.rise h.drop
    hold-leaves k rise drop t =
        held-marks u f gu gf h.rise h.drop k rise drop (hold-none (get_or gu 0 0) (alone u f gu gf) fits_on h v.long) t
        ∙ (λ i. gate_hold_call (same.0 i) (same.1 i) gu gf h.rise h.drop)

    -- so the hop's two calls leave that
    abbrev So : Bool → List ℕ → List Float → List ℕ → List ℕ → Type 0
    So b g k rise drop = (alone u f g k ≡ left m (gate_by h b)) × (rise ≡ rises_of m (gate_by h b)) × (drop ≡ drops_of m (gate_by h b))

    update-so : (g : List ℕ) (k : List Float) (rise drop : List ℕ)
        → (0, g, k, rise, drop) ≡ gate_update_call m.bu m.bf gu gf (record { db = h.db; power = h.power }) h.rise h.drop → So false g k rise drop
    unfolding step does as_role rises_of rises_done drops_of drops_done
    update-so g k rise drop e = (
      (λ i. alone (same.0 i) (same.1 i) (e i).1 (e i).2),
      ap (λ (a : ℕ × List ℕ × List Float × List ℕ × List ℕ). a.3) e,
      ap (λ (a : ℕ × List ℕ × List Float × List ℕ × List ℕ). a.4) e,
    )

    hold-so : (k : List Float) (rise drop : List ℕ) → (0, k, rise, drop) ≡ gate_hold_call m.bu m.bf gu gf h.rise h.drop → So true gu k rise drop
    unfolding step does as_role rises_of rises_done drops_of drops_done
    hold-so k rise drop e = (
      (λ i. alone (same.0 i) (same.1 i) gu (e i).1),
      ap (λ (a : ℕ × List Float × List ℕ × List ℕ). a.2) e,
      ap (λ (a : ℕ × List Float × List ℕ × List ℕ). a.3) e,
    )

    pub stepped-update : is_held h ≡ false → (g : List ℕ) (k : List Float) (rise drop : List ℕ)
        → Taken (update_step (gate_of gu gf) (bank_of u f) h.db h.power) (bank_of u f) g k rise drop → Stepped s h u f g k rise drop
    stepped-update z g k rise drop t =
        let q = subst (λ (b : Bool). So b g k rise drop) (sym z) (update-so g k rise drop (update-leaves g k rise drop t)) in
        record { stores = q.0; rises = q.1; drops = q.2 }

    pub stepped-hold : is_held h ≡ true → (k : List Float) (rise drop : List ℕ)
        → Taken (hold_step (gate_of gu gf) (bank_of u f)) (bank_of u f) gu k rise drop → Stepped s h u f gu k rise drop
    stepped-hold z k rise drop t =
        let q = subst (λ (b : Bool). So b gu k rise drop) (sym z) (hold-so k rise drop (hold-leaves k rise drop t)) in
        record { stores = q.0; rises = q.1; drops = q.2 }

  -- what a step asks: the bank's ..
  pub bank-asks : Ready bu bf × (length h.db ≡ get_or bu 0 0) × (length h.power ≡ get_or bu 0 0)
  bank-asks = (ready bu bf v.fit.bank_passes, v.long.db ∙ sym v.fit.bank_n, v.long.power ∙ sym v.fit.bank_n)

  -- .. and the gate's, after it
  module _ (u : List ℕ) (f : List Float) (same : (u ≡ m.bu) × (f ≡ m.bf)) where
    pub gate-takes : Takes u f gu gf (length h.db) (length h.power) (length h.rise) (length h.drop)
    gate-takes =
        record {
          paired = paired-of (get_or gu 0 0) (alone u f gu gf) (fits_on u f same);
          db_long = v.long.db;
          power_long = v.long.power;
          rise_long = v.long.rise;
          drop_long = v.long.drop;
        }

    pub gate-keeps : Keeps u f gu gf (length h.rise) (length h.drop)
    gate-keeps = record { paired = paired-of (get_or gu 0 0) (alone u f gu gf) (fits_on u f same); rise_long = v.long.rise; drop_long = v.long.drop }

-- held, by the byte of its hold
pub not-held : (h : RunHop) → h.hold ≡ 0 → is_held h ≡ false
not-held h e = ap not (eq-eqb h.hold 0 e)

pub is-held : (h : RunHop) → (h.hold ≡ 0 → ⊥) → is_held h ≡ true
is-held h w = ap not (ne_eqb h.hold 0 w)

-- the bank's step, where the code says itself whether it is held
pub bank-left-by : (s : Stores) (h : RunHop) (v : HopFits s h) (b : Bool) → is_held h ≡ b → (u : List ℕ) (f : List Float)
    → Holds (bank_step (bank_of s.bu s.bf) (hop b h.db h.power)) u f → (u ≡ (mid s h v).bu) × (f ≡ (mid s h v).bf)
bank-left-by s h v b z u f q =
    bank-left s h v u f (subst (λ (x : Bool). Holds (bank_step (bank_of s.bu s.bf) (hop x h.db h.power)) u f) (sym z) q)
