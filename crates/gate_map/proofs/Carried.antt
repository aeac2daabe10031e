-- The gate's calls that carry a map: what one that is not refused has shown, and what each answers and leaves. Assumes nothing.
use mathlib.Core.Path.{◌≡◌, refl, sym, ap, ◌∙◌}
use mathlib.Core.Bool.{◌||◌}
use mathlib.Core.List.{List}
use Prim.Native.Nat.{ℕ, zero, suc}
use native.Mathlib.Omega.{arith}
use lib.ListN.{length, get_or}
use lib.Ieee.{Float}
use Rattle.laws.specs.Tests.{differ}
use Rattle.laws.proofs.Tests.{neither, passed, same_of, or_l, or_r}
use Rattle.model.specs.Stores.{bank_of}
use Rattle.model.specs.Gate.{Gate, update_step, hold_step}
use Rattle.model.specs.GateStores.{gate_floats, gate_of}
use Rattle.model.specs.GateCalls.{GateHop, gate_leaves, marks_of}
use Rattle.model.specs.Map.{map_long, marks_set}
use Rattle.model.specs.MapCalls.{pair_map_refusal, update_map_refusal, hold_map_refusal, map_after, gate_update_map_call, gate_hold_map_call}
use Rattle.model.proofs.GoodBanks.{ready}
use Rattle.model.proofs.GoodGates.{gate-ready}
use Rattle.model.proofs.MapRefusals.{good-map, pair-map}
use Rattle.gate_cursors.specs.Paired.{Paired, Marked}
use Rattle.gate_step.specs.Steps.{Holds}

module _ (bu : List ℕ) (bf : List Float) (gu : List ℕ) (gf : List Float) (m : List ℕ) where
  -- a bank and a gate that are a pair, and a map for them
  pub record Beside : Type 0 where
    pub pair : Paired bu bf gu gf
    pub long : length m ≡ map_long (get_or gu 0 0)

  beside : pair_map_refusal bu bf gu gf m ≡ 0 → Beside
  beside e =
      let p = pair-map bu bf gu gf m e in
      record {
        pair = record { bank = ready bu bf p.0; gate = gate-ready gu gf p.1; same = p.3 };
        long = (good-map (get_or gu 0 0) m p.2).0;
      }

  -- ---- a hold

  pub hold-asked : (rise fall : ℕ) → hold_map_refusal bu bf gu gf m rise fall ≡ 0 → Beside × (rise ≡ get_or gu 0 0) × (fall ≡ get_or gu 0 0)
  unfolding hold_map_refusal
  hold-asked rise fall e =
      let n = get_or gu 0 0 in
      let a = neither (pair_map_refusal bu bf gu gf m) _ e in
      let t = (passed (differ rise n || differ fall n) 5 0 (omega arith) a.1).0 in
      (beside a.0, same_of rise n (or_l (differ rise n) (differ fall n) t), same_of fall n (or_r (differ rise n) (differ fall n) t))

  module _ (rise fall : List ℕ) where
    abbrev refusal : ℕ
    refusal = hold_map_refusal bu bf gu gf m (length rise) (length fall)

    abbrev kept : Gate
    kept = hold_step (gate_of gu gf) (bank_of bu bf)

    -- what the call answers and leaves, by its refusal
    abbrev outcome : ℕ → ℕ × List Float × List ℕ × List ℕ × List ℕ
    outcome y =
        let marks = marks_of y kept (bank_of bu bf) rise fall in
        (y, (gate_leaves y kept gu gf).2, map_after y (get_or gu 0 0) m marks, marks.0, marks.1)

    unchanged : (y : ℕ) → (y ≡ 0 → ⊥) → (y, gf, m, rise, fall) ≡ outcome y
    unchanged zero w = absurd (w refl)
    unchanged (suc y) w = refl

    pub hold-refused : (x : ℕ) → x ≡ refusal → (x ≡ 0 → ⊥) → (x, gf, m, rise, fall) ≡ gate_hold_map_call bu bf gu gf m rise fall
    unfolding gate_hold_map_call
    hold-refused x e z = unchanged x z ∙ ap outcome e

    pub held : (f' : List Float) (m' rise' fall' : List ℕ) → refusal ≡ 0 → f' ≡ gate_floats kept → Marked kept (bank_of bu bf) rise' fall'
        → m' ≡ marks_set (get_or gu 0 0) m rise' fall' → (0, f', m', rise', fall') ≡ gate_hold_map_call bu bf gu gf m rise fall
    unfolding gate_hold_map_call
    held f' m' rise' fall' e s k q =
        ap (λ (x : List ℕ). (0, f', x, rise', fall')) q
        ∙ (λ i. (0, s i, marks_set (get_or gu 0 0) m (k.rises i) (k.drops i), k.rises i, k.drops i))
        ∙ ap outcome (sym e)

  -- ---- an update

  pub update-asked : (db power rise fall : ℕ) → update_map_refusal bu bf gu gf m db power rise fall ≡ 0
      → Beside × (db ≡ get_or gu 0 0) × (power ≡ get_or gu 0 0) × (rise ≡ get_or gu 0 0) × (fall ≡ get_or gu 0 0)
  unfolding update_map_refusal
  update-asked db power rise fall e =
      let n = get_or gu 0 0 in
      let a = neither (pair_map_refusal bu bf gu gf m) _ e in
      let t = (passed (differ db n || differ power n || differ rise n || differ fall n) 5 0 (omega arith) a.1).0 in
      let t₃ = or_l (differ db n || differ power n || differ rise n) (differ fall n) t in
      let t₂ = or_l (differ db n || differ power n) (differ rise n) t₃ in (
        beside a.0,
        same_of db n (or_l (differ db n) (differ power n) t₂),
        same_of power n (or_r (differ db n) (differ power n) t₂),
        same_of rise n (or_r (differ db n || differ power n) (differ rise n) t₃),
        same_of fall n (or_r (differ db n || differ power n || differ rise n) (differ fall n) t),
      )

  module _ (h : GateHop) (rise fall : List ℕ) where
    abbrev update-refusal : ℕ
    update-refusal = update_map_refusal bu bf gu gf m (length h.db) (length h.power) (length rise) (length fall)

    abbrev after : Gate
    after = update_step (gate_of gu gf) (bank_of bu bf) h.db h.power

    abbrev update-outcome : ℕ → ℕ × List ℕ × List Float × List ℕ × List ℕ × List ℕ
    update-outcome y =
        let left = gate_leaves y after gu gf in
        let marks = marks_of y after (bank_of bu bf) rise fall in
        (left.0, left.1, left.2, map_after y (get_or gu 0 0) m marks, marks.0, marks.1)

    update-unchanged : (y : ℕ) → (y ≡ 0 → ⊥) → (y, gu, gf, m, rise, fall) ≡ update-outcome y
    update-unchanged zero w = absurd (w refl)
    update-unchanged (suc y) w = refl

    pub update-refused : (x : ℕ) → x ≡ update-refusal → (x ≡ 0 → ⊥) → (x, gu, gf, m, rise, fall) ≡ gate_update_map_call bu bf gu gf m h rise fall
    unfolding gate_update_map_call
    update-refused x e z = update-unchanged x z ∙ ap update-outcome e

    pub updated : (n : ℕ) (u' : List ℕ) (f' : List Float) (m' rise' fall' : List ℕ) → update-refusal ≡ 0 → n ≡ get_or gu 0 0 → Holds after u' f'
        → Marked after (bank_of bu bf) rise' fall' → m' ≡ marks_set n m rise' fall' → (0, u', f', m', rise', fall') ≡ gate_update_map_call bu bf gu gf m h rise fall
    unfolding gate_update_map_call
    updated n u' f' m' rise' fall' e w s k q =
        ap (λ (x : List ℕ). (0, u', f', x, rise', fall')) (q ∙ ap (λ (j : ℕ). marks_set j m rise' fall') w)
        ∙ (λ i. (0, s.u16s i, s.floats i, marks_set (get_or gu 0 0) m (k.rises i) (k.drops i), k.rises i, k.drops i))
        ∙ ap update-outcome (sym e)
