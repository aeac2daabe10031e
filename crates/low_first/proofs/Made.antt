-- What an array holds that calls of a closure filled, which leave the closure as it was. Assumes nothing.
use mathlib.Core.Path.{◌≡◌, sym, ap, subst, ◌∙◌}
use mathlib.Core.List.{List}
use mathlib.Core.Logic.{⊎_elim}
use Prim.Native.Nat.{ℕ, zero, suc, ◌+◌, ◌<◌, ◌≤◌}
use native.Mathlib.Nat.{eq-or-lt_of_le}
use native.Mathlib.Omega.{arith}
use denote.Param.Members.{Mut}
use Rattle.std.specs.Fn.{Called}
use Rattle.std.specs.Array.{IsFromFnResultFrom}
use Rattle.std.specs.Prelude.{slice_index_or}

module _ {F : Type 0} {g : Mut F (ℕ × Unit {0}) ℕ} (h : ℕ → ℕ) (f : F) (says : (x y : ℕ) (q : F) → Called g f (x, tt) y q → (q ≡ f) × (y ≡ h x)) (ys : List ℕ) where
  pub made_at : (n i k : ℕ) → IsFromFnResultFrom g f ys i n → i ≤ k → k < i + n → slice_index_or ys k 0 ≡ h k
  made_at zero i k w a b = absurd (omega arith)
  made_at (suc n) i k (q, y, e, c, rest) a b =
      ⊎_elim (λ (s : i ≡ k). ap (λ (j : ℕ). slice_index_or ys j 0) (sym s) ∙ e.1 0 ∙ (says i y q c).1 ∙ ap h s)
      (λ (l : i < k). made_at n (i + 1) k (subst (λ (p : F). IsFromFnResultFrom g p ys (i + 1) n) (says i y q c).0 rest) (omega arith) (omega arith)) (eq-or-lt_of_le a)
