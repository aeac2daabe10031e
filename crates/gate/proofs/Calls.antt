-- The gate's calls: what one that is not refused has shown, and what each answers and leaves. Assumes nothing.
use mathlib.Core.Path.{◌≡◌, refl, sym, ap, subst, ◌∙◌}
use mathlib.Core.Bool.{◌||◌}
use mathlib.Core.List.{List}
use Prim.Native.Nat.{ℕ, zero, suc}
use native.Mathlib.Omega.{arith}
use lib.ListN.{length, get_or}
use lib.Ieee.{Float}
use Rattle.laws.specs.Tests.{differ}
use Rattle.laws.proofs.Tests.{neither, passed, same_of, or_l, or_r}
use Rattle.model.specs.Bank.{FloorBank}
use Rattle.model.specs.Stores.{bank_of}
use Rattle.model.specs.Gate.{Gate, gate_step, refresh, update_step, hold_step}
use Rattle.model.specs.GateStores.{gate_u16s, gate_floats, gate_of}
use Rattle.model.specs.GateCalls.{GateHop, pair_refusal, gate_update_refusal, hold_refusal, gate_leaves, marks_of, gate_update_call, gate_hold_call}
use Rattle.model.specs.GoodGate.{GoodGate}
use Rattle.model.proofs.GoodGates.{n-of}
use Rattle.model.proofs.FreshGates.{good-gate-step, good-update, good-hold}
use Rattle.model.proofs.Pairs.{bare-hold}
use Rattle.gate_step.proofs.Looks.{holds-u, held-ready, held-is}
use Rattle.gate_cursors.specs.Paired.{Paired, Marked}
use Rattle.gate_cursors.proofs.Pairs.{paired}
use Rattle.gate_step.specs.Steps.{Holds}
use Rattle.gate.specs.Hops.{Keeps, Takes, Taken}

-- ---- what a call that is not refused has shown

module _ (bu : List ℕ) (bf : List Float) (gu : List ℕ) (gf : List Float) where
  pub hold-asked : (rise drop : ℕ) → hold_refusal bu bf gu gf rise drop ≡ 0 → Keeps bu bf gu gf rise drop
  unfolding hold_refusal
  hold-asked rise drop e =
      let n = get_or gu 0 0 in
      let a = neither (pair_refusal bu bf gu gf) _ e in
      let t = (passed (differ rise n || differ drop n) 5 0 (omega arith) a.1).0 in
      record {
        paired = paired bu bf gu gf a.0;
        rise_long = same_of rise n (or_l (differ rise n) (differ drop n) t);
        drop_long = same_of drop n (or_r (differ rise n) (differ drop n) t);
      }

  pub update-asked : (db power rise drop : ℕ) → gate_update_refusal bu bf gu gf db power rise drop ≡ 0 → Takes bu bf gu gf db power rise drop
  unfolding gate_update_refusal
  update-asked db power rise drop e =
      let n = get_or gu 0 0 in
      let a = neither (pair_refusal bu bf gu gf) _ e in
      let t = (passed (differ db n || differ power n || differ rise n || differ drop n) 5 0 (omega arith) a.1).0 in
      let t₃ = or_l (differ db n || differ power n || differ rise n) (differ drop n) t in
      let t₂ = or_l (differ db n || differ power n) (differ rise n) t₃ in
      record {
        paired = paired bu bf gu gf a.0;
        db_long = same_of db n (or_l (differ db n) (differ power n) t₂);
        power_long = same_of power n (or_r (differ db n) (differ power n) t₂);
        rise_long = same_of rise n (or_r (differ db n || differ power n) (differ rise n) t₃);
        drop_long = same_of drop n (or_r (differ db n || differ power n || differ rise n) (differ drop n) t);
      }

  -- ---- a hold

  module _ (rise drop : List ℕ) where
    abbrev kept : Gate
    kept = hold_step (gate_of gu gf) (bank_of bu bf)

    -- what the call answers and leaves, by its refusal
    abbrev held : ℕ → ℕ × List Float × List ℕ × List ℕ
    held y =
        let marks = marks_of y kept (bank_of bu bf) rise drop in
        (y, (gate_leaves y kept gu gf).2, marks.0, marks.1)

    untouched : (y : ℕ) → (y ≡ 0 → ⊥) → (y, gf, rise, drop) ≡ held y
    untouched zero w = absurd (w refl)
    untouched (suc y) w = refl

    pub hold-refused : (x : ℕ) → x ≡ hold_refusal bu bf gu gf (length rise) (length drop) → (x ≡ 0 → ⊥) → (x, gf, rise, drop) ≡ gate_hold_call bu bf gu gf rise drop
    unfolding gate_hold_call
    hold-refused x e z = untouched x z ∙ ap held e

    pub held-marks : (f' : List Float) (rise' drop' : List ℕ) → hold_refusal bu bf gu gf (length rise) (length drop) ≡ 0
        → Taken kept (bank_of bu bf) gu f' rise' drop' → (0, f', rise', drop') ≡ gate_hold_call bu bf gu gf rise drop
    unfolding gate_hold_call
    held-marks f' rise' drop' e t = (λ i. (0, t.holds.floats i, t.marked.rises i, t.marked.drops i)) ∙ ap held (sym e)

  -- ---- an update

  module _ (h : GateHop) (rise drop : List ℕ) where
    abbrev refusal : ℕ
    refusal = gate_update_refusal bu bf gu gf (length h.db) (length h.power) (length rise) (length drop)

    abbrev after : Gate
    after = update_step (gate_of gu gf) (bank_of bu bf) h.db h.power

    -- what the call answers and leaves, by its refusal
    abbrev outcome : ℕ → ℕ × List ℕ × List Float × List ℕ × List ℕ
    outcome y =
        let left = gate_leaves y after gu gf in
        let marks = marks_of y after (bank_of bu bf) rise drop in
        (left.0, left.1, left.2, marks.0, marks.1)

    unchanged : (y : ℕ) → (y ≡ 0 → ⊥) → (y, gu, gf, rise, drop) ≡ outcome y
    unchanged zero w = absurd (w refl)
    unchanged (suc y) w = refl

    pub update-refused : (x : ℕ) → x ≡ refusal → (x ≡ 0 → ⊥) → (x, gu, gf, rise, drop) ≡ gate_update_call bu bf gu gf h rise drop
    unfolding gate_update_call
    update-refused x e z = unchanged x z ∙ ap outcome e

    pub updated : (u' : List ℕ) (f' : List Float) (rise' drop' : List ℕ) → refusal ≡ 0 → Taken after (bank_of bu bf) u' f' rise' drop'
        → (0, u', f', rise', drop') ≡ gate_update_call bu bf gu gf h rise drop
    unfolding gate_update_call
    updated u' f' rise' drop' e t = (λ i. (0, t.holds.u16s i, t.holds.floats i, t.marked.rises i, t.marked.drops i)) ∙ ap outcome (sym e)

  -- ---- the stores that a step leaves: they hold a sound gate of as many channels

  module _ (p : Paired bu bf gu gf) (g : Gate) (good : GoodGate g) (same_n : g.n ≡ get_or gu 0 0) (u' : List ℕ) (f' : List Float) (q : Holds g u' f') where
    pub left-n : get_or u' 0 0 ≡ get_or gu 0 0
    left-n = ap (λ (l : List ℕ). get_or l 0 0) q.u16s ∙ same_n

    pub left-paired : Paired bu bf u' f'
    left-paired = record { bank = p.bank; gate = held-ready u' f' g good q.u16s q.floats; same = p.same ∙ sym left-n }

    pub left_is : gate_of u' f' ≡ g
    left_is = held-is u' f' g good q.u16s q.floats

    pub left-marked : (b : FloorBank) (rise drop : List ℕ) → Marked (gate_of u' f') b rise drop → Marked g b rise drop
    left-marked b rise drop m = subst (λ (x : Gate). Marked x b rise drop) left_is m

  -- the hop of an update
  module _ (p : Paired bu bf gu gf) (db power : List Float) where
    pub hop-good : GoodGate (gate_step (gate_of gu gf) db power)
    hop-good = good-gate-step (gate_of gu gf) db power p.gate.good

    pub hop-n : (gate_step (gate_of gu gf) db power).n ≡ get_or gu 0 0
    unfolding gate_step
    hop-n = n-of gu gf

    -- and the pairs after it
    pub update-good : GoodGate (update_step (gate_of gu gf) (bank_of bu bf) db power)
    update-good = good-update (gate_of gu gf) (bank_of bu bf) db power p.gate.good

    pub update-n : (update_step (gate_of gu gf) (bank_of bu bf) db power).n ≡ get_or gu 0 0
    unfolding update_step refresh gate_step
    update-n = n-of gu gf

    update-u : gate_u16s (gate_step (gate_of gu gf) db power) ≡ gate_u16s (update_step (gate_of gu gf) (bank_of bu bf) db power)
    unfolding update_step refresh
    update-u = refl

    pub update-holds : (u' : List ℕ) (f' f'' : List Float) → Holds (gate_step (gate_of gu gf) db power) u' f' → f'' ≡ gate_floats (refresh (gate_of u' f') (bank_of bu bf))
        → Holds (update_step (gate_of gu gf) (bank_of bu bf) db power) u' f''
    update-holds u' f' f'' q e =
        record {
          u16s = q.u16s ∙ update-u;
          floats =
              e
              ∙ ap (λ (g : Gate). gate_floats (refresh g (bank_of bu bf))) (left_is p (gate_step (gate_of gu gf) db power) hop-good hop-n u' f' q)
              ∙ (unfold update_step in refl);
        }

  -- the pairs of a hold
  module _ (p : Paired bu bf gu gf) where
    pub hold-good : GoodGate (hold_step (gate_of gu gf) (bank_of bu bf))
    hold-good = good-hold (gate_of gu gf) (bank_of bu bf) p.gate.good

    pub hold-n : (hold_step (gate_of gu gf) (bank_of bu bf)).n ≡ get_or gu 0 0
    hold-n = ap (λ (g : Gate). g.n) (bare-hold (gate_of gu gf) (bank_of bu bf)) ∙ n-of gu gf

    pub hold_holds : (f' : List Float) → f' ≡ gate_floats (hold_step (gate_of gu gf) (bank_of bu bf)) → Holds (hold_step (gate_of gu gf) (bank_of bu bf)) gu f'
    hold_holds f' e = record { u16s = holds-u gu gf p.gate ∙ sym (ap gate_u16s (bare-hold (gate_of gu gf) (bank_of bu bf))); floats = e }
