-- The last 2n floats of a gate, channel after channel brought up to date: what k turns leave. Assumes nothing.
use mathlib.Core.Path.{◌≡◌, refl, sym, ap, ap₂, subst, ◌∙◌}
use mathlib.Core.List.{List, ◌++◌}
use Prim.Native.Nat.{ℕ, ◌+◌, ◌*◌, ◌<◌, ◌≤◌}
use native.Mathlib.Omega.{arith}
use lib.ListN.{length, get_or, set, take, drop, length-set, length-drop, take-append-drop}
use lib.Seq.{take-set-le, take-set-lt, drop-set-lt, drop-set-add, get_or-take, get_or-drop, length-take-le}
use lib.Ieee.{Float, nan}
use Rattle.laws.specs.Lists.{tab}
use Rattle.laws.proofs.Fills.{Filled, begins, unwritten, turns, done}
use Rattle.gate_pairs.specs.Renewed.{used_now, threshold_now, renewed, used_of, threshold_of}

-- ---- the first k channels of rise, in q, which was p

pub record Upto (p rise : List Float) (on : Float) (k : ℕ) (q : List Float) : Type 0 where
  pub used : Filled (take (length rise) p) (used_of p rise) k (take (length rise) q)
  pub thresholds : Filled (drop (length rise) p) (threshold_of p rise on) k (drop (length rise) q)
  pub long : length q ≡ length p

module _ (p rise : List Float) (on : Float) (e : length p ≡ 2 * length rise) where
  abbrev N : ℕ
  N = length rise

  first-long : length (take N p) ≡ N
  first-long = length-take-le N p (omega arith)

  second-long : length (drop N p) ≡ N
  second-long = omega (arith, length-drop N p)

  pub upto-begins : Upto p rise on 0 p
  upto-begins = record { used = begins (take N p) (used_of p rise); thresholds = begins (drop N p) (threshold_of p rise on); long = refl }

  module _ (k : ℕ) (q : List Float) (u : Upto p rise on k q) (h : k < N) where
    used-there : get_or q k nan ≡ get_or p k nan
    used-there =
        sym (get_or-take N q k nan h)
        ∙ unwritten (take N p) (used_of p rise) k (take N q) nan nan u.used (omega (arith, u.used.long, first-long))
        ∙ get_or-take N p k nan h

    threshold-there : get_or q (N + k) nan ≡ get_or p (N + k) nan
    threshold-there =
        sym (get_or-drop N q k nan)
        ∙ unwritten (drop N p) (threshold_of p rise on) k (drop N q) nan nan u.thresholds (omega (arith, u.thresholds.long, second-long))
        ∙ get_or-drop N p k nan

    abbrev A : Float
    A = used_now (get_or rise k nan) (get_or q k nan)

    abbrev B : Float
    B = threshold_now (get_or rise k nan) on (get_or q k nan) (get_or q (N + k) nan)

    A-is : A ≡ used_of p rise k
    unfolding used_of
    A-is = ap (used_now (get_or rise k nan)) used-there

    B-is : B ≡ threshold_of p rise on k
    unfolding threshold_of
    B-is = ap₂ (threshold_now (get_or rise k nan) on) used-there threshold-there

    pub upto-turns : Upto p rise on (k + 1) (renewed q N k (get_or rise k nan) on)
    unfolding renewed
    upto-turns =
        record {
          used =
              subst (Filled (take N p) (used_of p rise) (k + 1))
              (sym (take-set-le N (set q k A) (N + k) B (omega arith) ∙ take-set-lt N q k A h))
              (turns (take N p) (used_of p rise) k (take N q) A u.used (omega (arith, u.used.long, first-long)) A-is);
          thresholds =
              subst (Filled (drop N p) (threshold_of p rise on) (k + 1))
              (sym (drop-set-add N (set q k A) k B ∙ ap (λ (l : List Float). set l k B) (drop-set-lt N q k A h)))
              (turns (drop N p) (threshold_of p rise on) k (drop N q) B u.thresholds (omega (arith, u.thresholds.long, second-long)) B-is);
          long = length-set (set q k A) (N + k) B ∙ length-set q k A ∙ u.long;
        }

  pub upto_done : (k : ℕ) (q : List Float) → Upto p rise on k q → N ≤ k → q ≡ (tab N (used_of p rise) ++ tab N (threshold_of p rise on))
  upto_done k q u h =
      sym (take-append-drop N q)
      ∙ ap₂ ◌++◌
      (done (take N p) (used_of p rise) k (take N q) u.used (omega (arith, first-long)) ∙ ap (λ (m : ℕ). tab m (used_of p rise)) first-long)
      (done (drop N p) (threshold_of p rise on) k (drop N q) u.thresholds (omega (arith, second-long)) ∙ ap (λ (m : ℕ). tab m (threshold_of p rise on)) second-long)
