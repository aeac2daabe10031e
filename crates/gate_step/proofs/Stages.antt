-- The steps of a gate update one after another: together they are `gate_step`. Assumes nothing.
use mathlib.Core.Path.{◌≡◌, refl, sym, ap, ◌∙◌}
use mathlib.Core.List.{List}
use Prim.Native.Nat.{ℕ, zero, suc}
use lib.ListN.{get_or, set}
use lib.Ieee.{Float}
use Rattle.laws.specs.Lists.{part, splice, tab}
use Rattle.laws.proofs.Tabs.{length-tab, tab-same}
use Rattle.model.specs.Numbers.{f0, smoothed}
use Rattle.model.specs.Windows.{PowerLooks}
use Rattle.model.specs.Gate.{Gate, db_after, sample_of, gate_step}
use Rattle.model.specs.GateStores.{gate_u16s, gate_floats, gate_of}
use Rattle.model.specs.GoodGate.{GoodGate, GateReady}
use Rattle.model.proofs.GoodGates.{n-of, started_of, smooth-of}
use Rattle.model.proofs.FreshGates.{with_started, smooth_after, good-smooth}
use Rattle.gate_step.proofs.Looks.{put-smooth, put-started, holds-u, holds-f, held-ready, held-is}
use Rattle.gate_step.proofs.Samples.{samples-step}
use Rattle.gate_step.specs.Steps.{Holds, with, smooth_step, looks_step}

-- ---- the smoothed dB

on_step : (t : ℕ) (s x : Float) → (t ≡ 0 → ⊥) → db_after t s x ≡ smoothed s x
on_step zero s x h = absurd (h refl)
on_step (suc t) s x h = refl

module _ (u : List ℕ) (f : List Float) (r : GateReady u f) (db : List Float) (n : ℕ) (e : n ≡ get_or u 0 0) where
  -- the first update, and any later one; w is how many are written
  pub starts : get_or u 1 0 ≡ 0 → (w : ℕ) → w ≡ n → tab w (λ k. get_or db k f0) ≡ (smooth_step db (gate_of u f)).smooth
  unfolding smooth_step
  starts z w q =
      tab-same w (gate_of u f).n _ _ (q ∙ e ∙ sym (n-of u f))
      (λ k _. ap (λ (t : ℕ). db_after t (get_or (gate_of u f).smooth k f0) (get_or db k f0)) (sym z ∙ sym (started_of u f)))

  pub follows : (get_or u 1 0 ≡ 0 → ⊥) → (w : ℕ) → w ≡ n
      → tab w (λ k. smoothed (get_or (part 0 n f) k f0) (get_or db k f0)) ≡ (smooth_step db (gate_of u f)).smooth
  unfolding smooth_step
  follows z w q =
      tab-same w (gate_of u f).n _ _ (q ∙ e ∙ sym (n-of u f))
      (λ k _.
      ap (λ (l : List Float). smoothed (get_or l k f0) (get_or db k f0)) (ap (λ (m : ℕ). part 0 m f) e ∙ sym (smooth-of u f))
      ∙ sym (on_step (gate_of u f).started (get_or (gate_of u f).smooth k f0) (get_or db k f0) (λ t. z (sym (started_of u f) ∙ t))))

  pub smooth-done : (x f' : List Float) → x ≡ (smooth_step db (gate_of u f)).smooth → f' ≡ splice 0 n f x → f' ≡ gate_floats (smooth_step db (gate_of u f))
  unfolding smooth_step
  smooth-done x f' q t =
      t
      ∙ (λ i. splice 0 ((e ∙ sym (n-of u f)) i) (holds-f u f r i) (q i))
      ∙ put-smooth (gate_of u f) (smooth_step db (gate_of u f)).smooth r.good.smooth_long

-- ---- the whole

steps-are : (g : Gate) (db samples power : List Float) → samples ≡ tab g.n (sample_of power)
    → with_started (looks_step samples (smooth_step db g)) 1 ≡ gate_step g db power
unfolding looks_step smooth_step gate_step
steps-are g db samples power e =
    ap (λ (ls : List PowerLooks). with_started (with g ls (smooth_after g db)) 1) (samples-step g.n samples power e g.looks)

module _ (u : List ℕ) (f : List Float) (r : GateReady u f) (db f₁ : List Float) (t : f₁ ≡ gate_floats (smooth_step db (gate_of u f))) where
  smoothed-good : GoodGate (smooth_step db (gate_of u f))
  unfolding smooth_step
  smoothed-good = good-smooth (gate_of u f) (smooth_after (gate_of u f) db) r.good (length-tab (gate_of u f).n _)

  smoothed-u : u ≡ gate_u16s (smooth_step db (gate_of u f))
  unfolding smooth_step
  smoothed-u = holds-u u f r

  pub smoothed-ready : GateReady u f₁
  smoothed-ready = held-ready u f₁ (smooth_step db (gate_of u f)) smoothed-good smoothed-u t

  pub step-done : (samples power : List Float) (u₂ : List ℕ) (f₂ : List Float) → samples ≡ tab (get_or u 0 0) (sample_of power)
      → Holds (looks_step samples (gate_of u f₁)) u₂ f₂ → Holds (gate_step (gate_of u f) db power) (set u₂ 1 1) f₂
  step-done samples power u₂ f₂ e h =
      let same : gate_of u f₁ ≡ smooth_step db (gate_of u f) = held-is u f₁ (smooth_step db (gate_of u f)) smoothed-good smoothed-u t in
      let whole : with_started (looks_step samples (gate_of u f₁)) 1 ≡ gate_step (gate_of u f) db power =
      ap (λ (g : Gate). with_started (looks_step samples g) 1) same
      ∙ steps-are (gate_of u f) db samples power (e ∙ ap (λ (n : ℕ). tab n (sample_of power)) (sym (n-of u f))) in
      record { u16s = ap (λ (l : List ℕ). set l 1 1) h.u16s ∙ put-started (looks_step samples (gate_of u f₁)) 1 ∙ ap gate_u16s whole; floats = h.floats ∙ ap gate_floats whole }
