-- R-3, the remembered pairs: floors that compare equal have equal thresholds, each step keeps true pairs true, and with true pairs the judgement
-- is the one that works the ladder out each time. Assumes nothing.
use mathlib.Core.Path.{◌≡◌, refl, sym, ap, ◌∙◌}
use mathlib.Core.Bool.{Bool, true, false, not, cond, ◌&&◌, ◌||◌}
use mathlib.Core.List.{List}
use mathlib.Core.Logic.{inl, inr}
use Prim.Native.Nat.{ℕ, zero, suc, ◌<◌}
use lib.Count.{count_trailing_zeros}
use lib.Dec.{eqb}
use lib.IntN.{pos}
use lib.ListN.{get_or, get_or-replicate}
use lib.Ieee.{Float, nan, inf, fin, binary64, mul, neg, lt, le, eq, ne, is_nan, of_int, of_bits, of_fields, to_unsigned, round, odd, units, size, span, climb}
use borrow.Author.Tests.{not-false}
use Rattle.laws.specs.Lists.{one}
use Rattle.laws.proofs.Sums.{Alike, same, zeros, add-alike}
use Rattle.laws.proofs.Tabs.{get_d-tab, tab-ext}
use Rattle.laws.proofs.Tests.{by-test, clash}
use Rattle.model.specs.Numbers.{f0}
use Rattle.model.specs.Ring.{floor_held}
use Rattle.model.specs.Bank.{FloorBank}
use Rattle.model.specs.Readings.{rise_at}
use Rattle.model.specs.Ladder.{ladder, rung, ceil_held, rung_value, root_of, ten_to}
use Rattle.model.specs.Windows.{any_rises}
use Rattle.model.specs.Gate.{Gate, Settings, fresh_gate, gate_step, level_of, threshold_of, differs, refresh, update_step, hold_at, hold_step, early_rise, window_rise, is_drop_at, rise_bytes, drop_bytes}
use Rattle.model.specs.Anew.{window_rise_anew, rise_bytes_anew}
use Rattle.model.specs.Remembered.{TruePair, PairsTrue}
use Rattle.model.proofs.FreshGates.{bare}

-- ---- floors that compare equal have equal thresholds

-- zeros of either sign are on one rung
ladder-zero : (s : Bool) → ladder (fin s 0 (pos 0)) ≡ ladder (fin false 0 (pos 0))
unfolding ladder rung ceil_held rung_value root_of ten_to floor_held mul neg lt le eq is_nan of_int of_bits of_fields to_unsigned round odd units size span climb count_trailing_zeros
ladder-zero true = refl
ladder-zero false = refl

ladder-alike : (x y : Float) → Alike x y → ladder x ≡ ladder y
ladder-alike x y (same e) = ap ladder e
ladder-alike x y (zeros s t d e) = ap ladder d ∙ ladder-zero s ∙ sym (ladder-zero t) ∙ sym (ap ladder e)

pub threshold-same : (g : Gate) (x y : Float) → eq x y ≡ true → threshold_of g x ≡ threshold_of g y
unfolding threshold_of
threshold-same g x y h = ladder-alike _ _ (add-alike binary64 x y (level_of g.on) h)

-- nothing compares equal to a NaN
with-nan : (x : Float) → eq x nan ≡ false
unfolding eq
with-nan nan = refl
with-nan (inf s) = refl
with-nan (fin s m e) = refl

same-floor : (g : Gate) (b : FloorBank) (k : ℕ) → differs g b k ≡ false → eq (rise_at b k) (get_or g.used k nan) ≡ true
unfolding differs ne
same-floor g b k h = not-false (eq (rise_at b k) (get_or g.used k nan)) h

-- ---- the pair of channel k after it was brought up to date

module _ (g : Gate) (b : FloorBank) (k : ℕ) (h : k < g.n) where
  used-at : get_or (refresh g b).used k nan ≡ cond (differs g b k) (rise_at b k) (get_or g.used k nan)
  unfolding refresh
  used-at = get_d-tab g.n _ k nan h

  threshold-at : get_or (refresh g b).threshold k f0 ≡ cond (differs g b k) (threshold_of g (rise_at b k)) (get_or g.threshold k f0)
  unfolding refresh
  threshold-at = get_d-tab g.n _ k f0 h

  refreshed-of : (x : Float) → threshold_of (refresh g b) x ≡ threshold_of g x
  unfolding refresh threshold_of
  refreshed-of x = refl

  -- a true pair stays true ..
  true-at : TruePair g k → TruePair (refresh g b) k
  true-at p =
      by-test (differs g b k)
      (λ t. inr (threshold-at ∙ rw t (sym (refreshed-of (get_or (refresh g b).used k nan) ∙ ap (threshold_of g) (used-at ∙ rw t)))))
      (λ t. kept p (used-at ∙ rw t) (threshold-at ∙ rw t))
    where
      kept : TruePair g k → get_or (refresh g b).used k nan ≡ get_or g.used k nan → get_or (refresh g b).threshold k f0 ≡ get_or g.threshold k f0
          → TruePair (refresh g b) k
      kept (inl e) u v = inl (u ∙ e)
      kept (inr e) u v = inr (v ∙ e ∙ sym (refreshed-of (get_or (refresh g b).used k nan) ∙ ap (threshold_of g) u))

  -- .. and its threshold is then that of the stored rise floor
  pub worked-out : TruePair g k → get_or (refresh g b).threshold k f0 ≡ threshold_of g (rise_at b k)
  worked-out p = threshold-at ∙ by-test (differs g b k) (λ t. rw t) (λ t. rw t (found p (same-floor g b k t)))
    where
      found : TruePair g k → eq (rise_at b k) (get_or g.used k nan) ≡ true → get_or g.threshold k f0 ≡ threshold_of g (rise_at b k)
      found (inl e) q = clash (sym q ∙ ap (eq (rise_at b k)) e ∙ with-nan (rise_at b k))
      found (inr e) q = e ∙ sym (threshold-same g (rise_at b k) (get_or g.used k nan) q)

-- ---- each step keeps the pairs true

pub true-fresh : (s : Settings) → PairsTrue (fresh_gate s)
unfolding fresh_gate
true-fresh s = record { pair = λ k h. inl (get_or-replicate s.n k nan nan h) }

pub true-step : (g : Gate) (db power : List Float) → PairsTrue g → PairsTrue (gate_step g db power)
unfolding gate_step threshold_of
true-step g db power p = record { pair = p.pair }

pub true-refresh : (g : Gate) (b : FloorBank) → PairsTrue g → PairsTrue (refresh g b)
true-refresh g b p = record { pair = λ k h. let l : k < g.n = (unfold refresh in h) in true-at g b k l (p.pair k l) }

-- ---- with true pairs the judgement is the one that works the ladder out

module _ (g : Gate) (b : FloorBank) (p : PairsTrue g) where
  refresh-anew : rise_bytes (refresh g b) b ≡ rise_bytes_anew g b
  unfolding refresh rise_bytes rise_bytes_anew early_rise window_rise window_rise_anew
  refresh-anew =
      tab-ext g.n _ _
      (λ k h.
      ap (λ (t : Float). one (not (eqb g.started 0) && (early_rise g b k || any_rises g.n t k g.looks))) (worked-out g b k h (p.pair k h)))

  -- before the first update nothing rises
  unstarted-anew : g.started ≡ 0 → rise_bytes g b ≡ rise_bytes_anew g b
  unfolding rise_bytes rise_bytes_anew
  unstarted-anew e = tab-ext g.n _ _ (λ k h. rw e)

  hold-at-anew : (t : ℕ) → t ≡ g.started → rise_bytes (hold_at t g b) b ≡ rise_bytes_anew g b
  hold-at-anew zero e = unstarted-anew (sym e)
  hold-at-anew (suc t) e = refresh-anew

  pub hold-anew : rise_bytes (hold_step g b) b ≡ rise_bytes_anew g b
  unfolding hold_step
  hold-anew = hold-at-anew g.started refl

pub update-anew : (g : Gate) (b : FloorBank) (db power : List Float) → PairsTrue g
    → rise_bytes (update_step g b db power) b ≡ rise_bytes_anew (gate_step g db power) b
unfolding update_step
update-anew g b db power p = refresh-anew (gate_step g db power) b (true-step g db power p)

-- ---- the pairs have no part in anything but the rises

pub bare_step : (g : Gate) (db power : List Float) → bare (gate_step g db power) ≡ gate_step (bare g) db power
unfolding gate_step
bare_step g db power = refl

pub bare-update : (g : Gate) (b : FloorBank) (db power : List Float) → bare (update_step g b db power) ≡ gate_step (bare g) db power
unfolding update_step refresh gate_step
bare-update g b db power = refl

bare-hold-at : (t : ℕ) (g : Gate) (b : FloorBank) → bare (hold_at t g b) ≡ bare g
unfolding refresh
bare-hold-at zero g b = refl
bare-hold-at (suc t) g b = refl

pub bare-hold : (g : Gate) (b : FloorBank) → bare (hold_step g b) ≡ bare g
unfolding hold_step
bare-hold g b = bare-hold-at g.started g b

pub bare-drops : (g : Gate) (b : FloorBank) → drop_bytes g b ≡ drop_bytes (bare g) b
unfolding drop_bytes is_drop_at
bare-drops g b = refl

pub bare-rises : (g : Gate) (b : FloorBank) → rise_bytes_anew g b ≡ rise_bytes_anew (bare g) b
unfolding rise_bytes_anew early_rise window_rise_anew threshold_of
bare-rises g b = refl
