-- The last 2n floats of a gate's store are its pairs, and brought up to date they are those of `refresh`. Assumes nothing.
use mathlib.Core.Path.{◌≡◌, refl, sym, ap, ap₂, ◌∙◌}
use mathlib.Core.Bool.{cond}
use mathlib.Core.List.{List, ◌++◌, append_assoc, map}
use Prim.Native.Nat.{ℕ, zero, suc, ◌+◌, ◌-◌, ◌*◌, ◌<◌}
use native.Mathlib.Nat.{add_assoc}
use native.Mathlib.Omega.{arith}
use lib.ListN.{length, get_or, length-append}
use lib.Ieee.{Float, nan}
use Rattle.laws.specs.Lists.{part, splice, tab, joined}
use Rattle.laws.proofs.Defaults.{get_d_any}
use Rattle.laws.proofs.Lists.{width, length_part, get_d_part}
use Rattle.laws.proofs.Joined.{splice-last}
use Rattle.laws.proofs.Tabs.{tab-same}
use Rattle.model.specs.Numbers.{f0}
use Rattle.model.specs.Stores.{bank_of}
use Rattle.model.specs.Readings.{rise_at}
use Rattle.model.specs.Bank.{FloorBank}
use Rattle.model.specs.Gate.{Gate, level_of, threshold_of as thresholdFor, differs, refresh, hold_at, hold_step}
use Rattle.model.specs.GateStores.{look_f, gate_floats, pair_start, gate_of}
use Rattle.model.specs.GoodGate.{GateReady}
use Rattle.model.proofs.GateStores.{gate-forth-u, gate-forth-f}
use Rattle.model.proofs.GoodGates.{n-of, on_of, started_of, used-of, threshold-of, sizes, front, front_long, fronted}
use Rattle.model.proofs.FreshGates.{with_pairs}
use Rattle.gate_cursors.specs.Paired.{Paired}
use Rattle.gate_pairs.specs.Renewed.{used_now, threshold_now, used_of, threshold_of}

-- ---- new pairs in a ready store

module _ (u : List ℕ) (f : List Float) (r : GateReady u f) where
  front_at : length (front (gate_of u f) r.good) ≡ pair_start u
  front_at = front_long (gate_of u f) r.good ∙ ap pair_start (gate-forth-u u f r.long (sizes u f r).few r.unused)

  pairs-two : length ((gate_of u f).used ++ (gate_of u f).threshold) ≡ 2 * get_or u 0 0
  pairs-two = omega (arith, length-append (gate_of u f).used (gate_of u f).threshold, r.good.used_long, r.good.threshold_long, n-of u f)

  pub put-pairs : (x y : List Float) → splice (pair_start u) (2 * get_or u 0 0) f (x ++ y) ≡ gate_floats (with_pairs (gate_of u f) x y)
  put-pairs x y =
      let F = front (gate_of u f) r.good in
      ap (λ (l : List Float). splice (pair_start u) (2 * get_or u 0 0) l (x ++ y)) (sym (gate-forth-f u f r.long_f) ∙ fronted (gate_of u f) r.good)
      ∙ splice-last F ((gate_of u f).used ++ (gate_of u f).threshold) (x ++ y) (pair_start u) (2 * get_or u 0 0) front_at pairs-two
      ∙ append_assoc (gate_of u f).smooth (joined (map look_f (gate_of u f).looks)) (x ++ y)

-- ---- the pairs brought up to date

module _ (bu : List ℕ) (bf : List Float) (gu : List ℕ) (gf : List Float) (p : Paired bu bf gu gf) where
  abbrev N : ℕ
  N = get_or gu 0 0

  -- the pairs, and the stored rise floors
  abbrev P : List Float
  P = part (pair_start gu) (2 * N) gf

  abbrev R : List Float
  R = part (3 * N) N bf

  rise_long : length R ≡ N
  rise_long = length_part (3 * N) N bf (omega (arith, p.bank.long_f, p.same))

  rise-there : (k : ℕ) → k < N → get_or R k nan ≡ rise_at (bank_of bu bf) k
  unfolding bank_of
  rise-there k h =
      get_d_any R k nan f0 (omega (arith, rise_long)) ∙ ap (λ (n : ℕ). get_or (part (3 * n) n bf) k f0) (sym p.same)

  used-there : (k : ℕ) → k < N → get_or P k nan ≡ get_or (gate_of gu gf).used k nan
  used-there k h =
      get_d_part (pair_start gu) (2 * N) gf k nan (omega arith)
      ∙ sym (ap (λ (l : List Float). get_or l k nan) (used-of gu gf) ∙ get_d_part (pair_start gu) N gf k nan h)

  threshold-there : (k : ℕ) → k < N → get_or P (length R + k) nan ≡ get_or (gate_of gu gf).threshold k f0
  threshold-there k h =
      ap (λ (n : ℕ). get_or P (n + k) nan) rise_long
      ∙ get_d_part (pair_start gu) (2 * N) gf (N + k) nan (omega arith)
      ∙ get_d_any gf (pair_start gu + (N + k)) nan f0 (omega (arith, p.gate.long_f))
      ∙ sym
      (ap (λ (l : List Float). get_or l k f0) (threshold-of gu gf)
      ∙ get_d_part (pair_start gu + N) N gf k f0 h
      ∙ ap (λ (i : ℕ). get_or gf i f0) (add_assoc (pair_start gu) N k))

  used-now : (k : ℕ) → k < N → used_of P R k ≡ cond (differs (gate_of gu gf) (bank_of bu bf) k) (rise_at (bank_of bu bf) k) (get_or (gate_of gu gf).used k nan)
  unfolding used_of differs
  used-now k h = ap₂ used_now (rise-there k h) (used-there k h)

  threshold-now : (on : Float) → on ≡ level_of (get_or gu 2 0) → (k : ℕ) → k < N
      → threshold_of P R on k
      ≡ cond (differs (gate_of gu gf) (bank_of bu bf) k) (thresholdFor (gate_of gu gf) (rise_at (bank_of bu bf) k)) (get_or (gate_of gu gf).threshold k f0)
  unfolding threshold_of differs thresholdFor
  threshold-now on e k h =
      λ i. threshold_now (rise-there k h i) ((e ∙ ap level_of (sym (on_of gu gf))) i) (used-there k h i) (threshold-there k h i)

  refreshed-here : (on : Float) → on ≡ level_of (get_or gu 2 0)
      → splice (pair_start gu) (2 * N) gf (tab (length R) (used_of P R) ++ tab (length R) (threshold_of P R on)) ≡ gate_floats (refresh (gate_of gu gf) (bank_of bu bf))
  unfolding refresh
  refreshed-here on e =
      let n : length R ≡ (gate_of gu gf).n = rise_long ∙ sym (n-of gu gf) in
      ap₂ (λ (x y : List Float). splice (pair_start gu) (2 * N) gf (x ++ y))
      (tab-same (length R) (gate_of gu gf).n _ _ n (λ k h. used-now k (omega (arith, rise_long))))
      (tab-same (length R) (gate_of gu gf).n _ _ n (λ k h. threshold-now on e k (omega (arith, rise_long))))
      ∙ put-pairs gu gf p.gate (refresh (gate_of gu gf) (bank_of bu bf)).used (refresh (gate_of gu gf) (bank_of bu bf)).threshold

  -- as the code has it: n as it was read, a and e where the pairs begin and end
  pub refreshed : (n a : ℕ) (on : Float) → n ≡ get_or bu 0 0 → a ≡ length gf - 2 * n → on ≡ level_of (get_or gu 2 0)
      → (rise pairs : List Float) → rise ≡ part (3 * n) (3 * n + n - 3 * n) bf → pairs ≡ part a (length gf - a) gf
      → splice a (length gf - a) gf (tab (length rise) (used_of pairs rise) ++ tab (length rise) (threshold_of pairs rise on))
      ≡ gate_floats (refresh (gate_of gu gf) (bank_of bu bf))
  refreshed n a on en ea eo rise pairs er ep =
      let m : n ≡ N = en ∙ p.same in
      let s : a ≡ pair_start gu = omega (arith, p.gate.long_f, m) in
      let w : length gf - a ≡ 2 * N = omega (arith, p.gate.long_f, s) in
      let rs : rise ≡ R = er ∙ ap (λ (v : ℕ). part (3 * n) v bf) (width (3 * n) n) ∙ ap (λ (v : ℕ). part (3 * v) v bf) m in
      let ps : pairs ≡ P = ep ∙ (λ i. part (s i) (w i) gf) in
      (λ i. splice (s i) (w i) gf (tab (length (rs i)) (used_of (ps i) (rs i)) ++ tab (length (rs i)) (threshold_of (ps i) (rs i) on))) ∙ refreshed-here on eo

-- ---- a hold

hold_unstarted_at : (t : ℕ) (g : Gate) (b : FloorBank) → t ≡ 0 → hold_at t g b ≡ g
hold_unstarted_at zero g b e = refl
hold_unstarted_at (suc t) g b e = absurd (omega arith)

hold_started_at : (t : ℕ) (g : Gate) (b : FloorBank) → (t ≡ 0 → ⊥) → hold_at t g b ≡ refresh g b
hold_started_at zero g b e = absurd (e refl)
hold_started_at (suc t) g b e = refl

module _ (u : List ℕ) (f : List Float) (b : FloorBank) where
  pub hold_unstarted : GateReady u f → get_or u 1 0 ≡ 0 → f ≡ gate_floats (hold_step (gate_of u f) b)
  unfolding hold_step
  hold_unstarted r e =
      sym (gate-forth-f u f r.long_f) ∙ ap gate_floats (sym (hold_unstarted_at (gate_of u f).started (gate_of u f) b (started_of u f ∙ e)))

  pub hold_started : (get_or u 1 0 ≡ 0 → ⊥) → refresh (gate_of u f) b ≡ hold_step (gate_of u f) b
  unfolding hold_step
  hold_started e = sym (hold_started_at (gate_of u f).started (gate_of u f) b (λ z. e (sym (started_of u f) ∙ z)))
