-- Laws on a level as it is handed over and as the store has it. Assumes nothing.
use mathlib.Core.Path.{◌≡◌, sym, ap, subst, ◌∙◌}
use mathlib.Core.Bool.{true, false}
use Prim.Native.Nat.{ℕ, suc, ◌-◌, ◌≤◌}
use native.Mathlib.Omega.{arith}
use lib.IntN.{ℤ, pos, negsuc, ◌+ℤ◌}
use lib.Signed.{lt_z}
use mir.Syntax.{w32}
use mir.Val.{SFits, to_z, of_z}
use mir.Facts.{to_z-of_z}
use borrow.Author.Tests.{ltb-true, ltb-false, lt-ltb, le-ltb, le-leb, lt-leb}
use Rattle.laws.proofs.Tests.{clash}
use Rattle.model.specs.GateCalls.{stored}

pub too-low : (z : ℤ) → lt_z z (negsuc 799) ≡ true → 65535 ≡ stored z
unfolding stored
too-low (pos x) h = clash (sym h)
too-low (negsuc x) h = rw (le-ltb x 800 (omega (arith, ltb-true 799 x h)))

pub too-high : (z : ℤ) → lt_z (pos 800) z ≡ true → 65535 ≡ stored z
unfolding stored
too-high (pos x) h = rw (lt-leb x 800 (ltb-true 800 x h))
too-high (negsuc x) h = clash (sym h)

pub in-range : (z : ℤ) → lt_z z (negsuc 799) ≡ false → lt_z (pos 800) z ≡ false → (z +ℤ pos 800 ≡ pos (stored z)) × (stored z ≤ 1600)
unfolding stored
in-range (pos x) h k =
    let l : x ≤ 800 = ltb-false 800 x k in
    (rw (le-leb x 800 l), rw (le-leb x 800 l) (omega arith))
in-range (negsuc x) h k =
    let l : x ≤ 799 = ltb-false 799 x h in (
      rw (le-ltb 800 (suc x) (omega arith), lt-ltb x 800 (omega arith)) (ap pos (let e : 800 - suc x ≡ 799 - x = omega arith in e)),
      rw (lt-ltb x 800 (omega arith)) (omega arith),
    )

-- the sum of the code, which reads a level from its bits
module _ (z : ℤ) (f : SFits w32 z) where
  pub read_back : to_z w32 (of_z w32 z) ≡ z
  read_back = to_z-of_z f

  -- what a call stores of it
  pub stored-read : (r : ℕ) → r ≡ stored (to_z w32 (of_z w32 z)) → r ≡ stored z
  stored-read r e = e ∙ ap stored read_back

  module _ (h : lt_z z (negsuc 799) ≡ false) (k : lt_z (pos 800) z ≡ false) where
    sum_fits : SFits w32 (z +ℤ pos 800)
    sum_fits = let r = in-range z h k in
        subst (SFits w32) (sym r.0) (record { sfits = omega arith })

    pub sum_is : to_z w32 (of_z w32 (to_z w32 (of_z w32 z) +ℤ pos 800)) ≡ pos (stored z)
    sum_is = ap (λ (y : ℤ). to_z w32 (of_z w32 (y +ℤ pos 800))) read_back ∙ to_z-of_z sum_fits ∙ (in-range z h k).0

-- what a call says of three levels that it reads from their bits
pub three-read : {X : Type 0} (F : ℤ → ℤ → ℤ → X) (a b c : ℤ) → SFits w32 a → SFits w32 b → SFits w32 c
    → F (to_z w32 (of_z w32 a)) (to_z w32 (of_z w32 b)) (to_z w32 (of_z w32 c)) ≡ F a b c
three-read F a b c f g h = λ i. F (read_back a f i) (read_back b g i) (read_back c h i)
