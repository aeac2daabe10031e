-- The hop's samples: written in front of a longer list, and taken by the windows as the powers' own are. Assumes nothing.
use mathlib.Core.Path.{◌≡◌, ap, ◌∙◌}
use mathlib.Core.List.{List, ◌++◌, map}
use Prim.Native.Nat.{ℕ, ◌<◌, ◌≤◌}
use native.Mathlib.Omega.{arith}
use lib.ListN.{length, get_or, set, take, drop, length-append}
use lib.Seq.{length-take-le, take_at}
use lib.Ieee.{Float, binary64, add, sub}
use Rattle.laws.specs.Lists.{tab}
use Rattle.laws.proofs.Tabs.{length-tab, get_d-tab, tab-ext}
use Rattle.model.specs.Numbers.{f0}
use Rattle.model.specs.Windows.{PowerLooks, ring_of, middle_at, push_look, advance_look, settle_at, step_look}
use Rattle.model.specs.Gate.{sample_of}
use Rattle.windows.specs.Looks.{sample_at}

-- ---- x is written over the first entries of l, one for each power

module _ (l x power : List Float) (room : length power ≤ length l) (e : x ≡ tab (length (take (length power) l)) (sample_of power)) where
  written : x ≡ tab (length power) (sample_of power)
  written = e ∙ ap (λ (n : ℕ). tab n (sample_of power)) (length-take-le (length power) l room)

  written-long : length x ≡ length power
  written-long = ap length written ∙ length-tab (length power) (sample_of power)

  pub samples-fit : length power ≤ length (x ++ drop (length power) l)
  samples-fit = omega (arith, length-append x (drop (length power) l), written-long)

  pub samples-are : take (length power) (x ++ drop (length power) l) ≡ tab (length power) (sample_of power)
  samples-are = take_at x (drop (length power) l) (length power) written-long ∙ written

-- ---- a step depends on the samples of its n channels alone

module _ (n : ℕ) (s t : ℕ → Float) (same : (k : ℕ) → k < n → s k ≡ t k) where
  push-same : (l : PowerLooks) → push_look n s l ≡ push_look n t l
  unfolding push_look
  push-same l = λ i.
      record {
        m = l.m;
        cursor = l.cursor;
        filled = l.filled;
        rings = tab-ext n _ _ (λ k h. ap (set (ring_of l k) l.cursor) (same k h)) i;
        recent = tab-ext n _ _ (λ k h. ap (λ (x : Float). add binary64 (get_or l.recent k f0) (sub binary64 x (middle_at l k))) (same k h)) i;
        previous = (push_look n s l).previous;
      }

  step_same : (l : PowerLooks) → step_look n s l ≡ step_look n t l
  unfolding step_look
  step_same l = ap (λ (p : PowerLooks). settle_at (advance_look p).cursor n (advance_look p)) (push-same l)

  steps-same : (ls : List PowerLooks) → map (step_look n s) ls ≡ map (step_look n t) ls
  steps-same ls = ap (λ (S : PowerLooks → PowerLooks). map S ls) (λ i l. step_same l i)

pub samples-step : (n : ℕ) (samples power : List Float) → samples ≡ tab n (sample_of power) → (ls : List PowerLooks)
    → map (step_look n (sample_at samples)) ls ≡ map (step_look n (sample_of power)) ls
samples-step n samples power e =
    steps-same n (sample_at samples) (sample_of power) (λ k h. ap (λ (l : List Float). get_or l k f0) e ∙ get_d-tab n (sample_of power) k f0 h)
