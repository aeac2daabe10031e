-- R-2: short of two turns, the comparison is the remainder. Assumes nothing.
use mathlib.Core.Path.{◌≡◌, refl, sym, ◌∙◌}
use mathlib.Core.Bool.{Bool, true, false, cond}
use Prim.Native.Nat.{ℕ, ◌+◌, ◌-◌, ◌%◌, ◌≤◌, ◌<◌}
use native.Mathlib.Nat.{mod-eq_of_lt, mod-eq-sub-mod}
use native.Mathlib.Omega.{arith}
use lib.Dec.{ltb}
use borrow.Author.Tests.{ltb-true, ltb-false, lt-ltb, le-ltb}

-- over the width w
pub wraps : (w x : ℕ) → x < w + w → cond (ltb x w) x (x - w) ≡ x % w
wraps w x h = by (ltb x w) refl
  where
    by : (b : Bool) → ltb x w ≡ b → cond b x (x - w) ≡ x % w
    by true e = sym (mod-eq_of_lt (ltb-true x w e))
    by false e = let l : w ≤ x = ltb-false x w e in let s : x - w < w = omega arith in sym (mod-eq-sub-mod l ∙ mod-eq_of_lt s)

-- where the comparison went one way, and where it went the other
pub within : (w x : ℕ) → x < w → x ≡ x % w
within w x h = rw (lt-ltb x w h) at (wraps w x (omega arith))

pub past : (w x : ℕ) → w ≤ x → x < w + w → x - w ≡ x % w
past w x l h = rw (le-ltb x w l) at (wraps w x h)
