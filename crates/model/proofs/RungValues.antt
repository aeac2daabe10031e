-- The values of the rungs never fall from one rung to the next: the roots rise, and so does the last rung of ten dB to the first of the
-- next. Assumes nothing.
use mathlib.Core.Path.{◌≡◌, refl}
use mathlib.Core.Bool.{true, false, ◌&&◌}
use Prim.Native.Nat.{ℕ, suc, ◌+◌, ◌*◌, ◌/◌, ◌%◌, ◌^◌, ◌≤◌, ◌<◌}
use native.Mathlib.Nat.{le_refl}
use native.Mathlib.Omega.{arith}
use lib.Dec.{T, leb, ltb, lit≤}
use lib.IntN.{pos}
use lib.Ieee.{Float, binary64, mul, lt, le, eq, of_int, round}
use lib.Ieee.Exact.{HasValue}
use lib.Ieee.Back.{round_whole}
use lib.Ieee.Order.{le_of_values, round_mono}
use lib.Ieee.Positive.{positive, num, den, den_pos, own_value, positive_of_value, mul_mono}
use borrow.Author.Tests.{leb-true, ltb-true, ltb-false}
use Rattle.laws.specs.Tests.{all_below}
use Rattle.laws.proofs.Tests.{all-at, and_l, and_r, by-test}
use Rattle.model.specs.Layout.{rungs_below, rungs_above}
use Rattle.model.specs.Ladder.{root_of, ten_to, rung_value}
use Rattle.model.proofs.Bins.{holds}

-- the ladder has so many times ten dB
abbrev tens : ℕ
tens = (rungs_below + rungs_above) / 80

-- ---- three tests

roots-test : all_below 80 (λ j. ltb 0 (root_of j) && leb (root_of j) (2 ^ 53)) ≡ true
unfolding all_below root_of
roots-test = refl

rising-test : all_below 79 (λ j. leb (root_of j) (root_of (suc j))) ≡ true
unfolding all_below root_of
rising-test = refl

tens-test : all_below (suc tens) (λ q. positive (ten_to q)) ≡ true
unfolding all_below ten_to round
tens-test = refl

-- from the last rung of ten dB to the next
over-test : all_below tens (λ q. le (rung_value (80 * q + 79)) (rung_value (80 * suc q))) ≡ true
unfolding all_below rung_value root_of ten_to of_int mul round lt eq le
over-test = refl

-- ---- what they say

module _ (j : ℕ) (h : j < 80) where
  root-fine : (ltb 0 (root_of j) && leb (root_of j) (2 ^ 53)) ≡ true
  root-fine = all-at (λ i. ltb 0 (root_of i) && leb (root_of i) (2 ^ 53)) 80 j roots-test h

  root-value : HasValue (of_int binary64 (pos (root_of j))) false (root_of j) 1
  unfolding of_int
  root-value = round_whole binary64 false (root_of j) (leb-true (root_of j) (2 ^ 53) (and_r (ltb 0 (root_of j)) (leb (root_of j) (2 ^ 53)) root-fine))

  root-positive : T (positive (of_int binary64 (pos (root_of j))))
  root-positive =
      positive_of_value (of_int binary64 (pos (root_of j))) (root_of j) 1 root-value
      (ltb-true 0 (root_of j) (and_l (ltb 0 (root_of j)) (leb (root_of j) (2 ^ 53)) root-fine))

roots-rise : (a b : ℕ) → a ≤ b → T (le (of_int binary64 (pos a)) (of_int binary64 (pos b)))
unfolding of_int
roots-rise a b h = round_mono binary64 a 1 b 1 (lit≤ tt) (lit≤ tt) (omega arith)

le-self : (x : Float) → T (positive x) → T (le x x)
le-self x p = le_of_values x x (num x) (den x) (num x) (den x) (den_pos x) (den_pos x) (own_value x p) (own_value x p) (le_refl (num x * den x))

-- within ten dB
within : (q i j : ℕ) → q ≤ tens → i < 80 → j < 80 → root_of i ≤ root_of j
    → T (le (mul binary64 (of_int binary64 (pos (root_of i))) (ten_to q)) (mul binary64 (of_int binary64 (pos (root_of j))) (ten_to q)))
within q i j hq hi hj h =
    let p = holds (all-at (λ k. positive (ten_to k)) (suc tens) q tens-test (omega arith)) in
    mul_mono binary64 (of_int binary64 (pos (root_of i))) (of_int binary64 (pos (root_of j))) (ten_to q) (ten_to q) (root-positive i hi) (root-positive j hj) p p
    (roots-rise (root_of i) (root_of j) h) (le-self (ten_to q) p)

pub value-self : (r : ℕ) → r ≤ rungs_below + rungs_above → T (le (rung_value r) (rung_value r))
unfolding rung_value
value-self r h = within (r / 80) (r % 80) (r % 80) (omega arith) (omega arith) (omega arith) (omega arith)

pub value-next : (r : ℕ) → r < rungs_below + rungs_above → T (le (rung_value r) (rung_value (suc r)))
unfolding rung_value
value-next r h =
    by-test (ltb (r % 80) 79) (λ t. inside (ltb-true (r % 80) 79 t)) (λ f. across (ltb-false (r % 80) 79 f))
  where
    inside : r % 80 < 79 → T (le (rung_value r) (rung_value (suc r)))
    inside l =
        let j : suc r % 80 ≡ suc (r % 80) = omega arith in
        let q : suc r / 80 ≡ r / 80 = omega arith in
        let up = leb-true (root_of (r % 80)) (root_of (suc (r % 80))) (all-at (λ i. leb (root_of i) (root_of (suc i))) 79 (r % 80) rising-test l) in
        rw (j, q) (within (r / 80) (r % 80) (suc (r % 80)) (omega arith) (omega arith) (omega arith) up)

    across : 79 ≤ r % 80 → T (le (rung_value r) (rung_value (suc r)))
    across l =
        let a : 80 * (r / 80) + 79 ≡ r = omega arith in
        let b : 80 * suc (r / 80) ≡ suc r = omega arith in
        rw (a, b) at (holds (all-at (λ q. le (rung_value (80 * q + 79)) (rung_value (80 * suc q))) tens (r / 80) over-test (omega arith)))
