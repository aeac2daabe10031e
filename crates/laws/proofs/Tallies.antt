-- Laws on counting the numbers below k of which a test holds. Assumes nothing.
use mathlib.Core.Path.{◌≡◌, refl, sym, ap, ap₂}
use mathlib.Core.Bool.{Bool}
use Prim.Native.Nat.{ℕ, zero, suc, ◌+◌, ◌-◌, ◌<◌, ◌≤◌}
use native.Mathlib.Nat.{add-zero}
use native.Mathlib.Omega.{arith}
use native.Mathlib.Numerals.{add-one}
use Rattle.laws.specs.Lists.{one}
use Rattle.laws.specs.Tests.{tally}
use Rattle.laws.proofs.Counting.{one-le}

-- one number more
pub tally-more : (k : ℕ) (p : ℕ → Bool) → tally (k + 1) p ≡ tally k p + one (p k)
unfolding tally
tally-more k p = rw (add-one k)

pub tally-le : (k : ℕ) (p : ℕ → Bool) → tally k p ≤ k
unfolding tally
tally-le zero p = omega arith
tally-le (suc k) p = omega (arith, tally-le k p, one-le (p k))

-- more numbers, and no fewer of which it holds
pub tally-mono : (i k : ℕ) (p : ℕ → Bool) → tally i p ≤ tally (i + k) p
unfolding tally
tally-mono i zero p = rw (add-zero i) (omega arith)
tally-mono i (suc k) p =
    let e : i + suc k ≡ suc (i + k) = omega arith in
    omega (arith, tally-mono i k p, ap (λ (m : ℕ). tally m p) e)

-- a number of which it holds
pub tally-room : (k n : ℕ) (p : ℕ → Bool) → k < n → tally k p + one (p k) ≤ tally n p
tally-room k n p h =
    let e : k + 1 + (n - (k + 1)) ≡ n = omega arith in
    omega (arith, tally-more k p, tally-mono (k + 1) (n - (k + 1)) p, ap (λ (i : ℕ). tally i p) e)

pub tally-ext : (k : ℕ) (p q : ℕ → Bool) → ((i : ℕ) → i < k → p i ≡ q i) → tally k p ≡ tally k q
unfolding tally
tally-ext zero p q h = refl
tally-ext (suc k) p q h = ap₂ (λ (a : ℕ) (b : Bool). a + one b) (tally-ext k p q (λ i l. h i (omega arith))) (h k (omega arith))

-- those below i, and those of the next k
pub tally-add : (i k : ℕ) (p : ℕ → Bool) → tally (i + k) p ≡ tally i p + tally k (λ j. p (i + j))
unfolding tally
tally-add i zero p = rw (add-zero i) (sym (add-zero (tally i p)))
tally-add i (suc k) p =
    let e : i + suc k ≡ suc (i + k) = omega arith in
    omega (arith, tally-add i k p, ap (λ (m : ℕ). tally m p) e)
