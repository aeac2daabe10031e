-- How many numbers of a range pass a test, and whether some number of it does. Assumes nothing.
use mathlib.Core.Path.{◌≡◌, refl, sym, ap, ◌∙◌}
use mathlib.Core.Bool.{Bool, true, false, cond}
use mathlib.Core.List.{List}
use Prim.Native.Nat.{ℕ, zero, suc, ◌+◌, ◌<◌, ◌≤◌}
use native.Mathlib.Omega.{arith}
use lib.ListN.{length, get_or}
use Rattle.std.specs.List.{list_any, count_by, filter, range_with_len}
use Rattle.std.proofs.lemmas.List.Folds.{list_any_none, list_any_at}
use Rattle.std.proofs.lemmas.List.Sums.{length-filter, sum_by-cons}
use Rattle.std.proofs.lemmas.List.FromFn.{length-range_with_len, get_or-range_with_len}
use Rattle.laws.specs.Lists.{one}
use Rattle.laws.specs.Tests.{any_below, tally}
use Rattle.laws.proofs.Tests.{by-test, clash, any_none, none_any}
use Rattle.laws.proofs.Tallies.{tally-le, tally-ext, tally-add}

-- ---- how many numbers of a range pass

one-cond : (b : Bool) → cond b 1 0 ≡ one b
one-cond true = refl
one-cond false = refl

count_range : (p : ℕ → Bool) (a n : ℕ) → count_by p (range_with_len a n) ≡ tally n (λ i. p (a + i))
unfolding tally
count_range p a zero = refl
count_range p a (suc n) =
    let q : ℕ → Bool = λ i. p (a + i) in
    omega (
      arith,
      sum_by-cons (λ (x : ℕ). cond (p x) 1 0) a (range_with_len (a + 1) n),
      one-cond (p a),
      (let z : tally 1 q ≡ 0 + one (q 0) = refl in z),
      count_range p (a + 1) n,
      tally-ext n (λ i. p (a + 1 + i)) (λ i. q (1 + i)) (λ i h. ap p (let z : a + 1 + i ≡ a + (1 + i) = omega arith in z)),
      tally-add 1 n q,
      ap (λ (m : ℕ). tally m q) (let z : 1 + n ≡ suc n = omega arith in z),
      ap (λ (m : ℕ). one (p m)) (let z : a + 0 ≡ a = omega arith in z),
    )

-- what counting those that a filter lets through gives
pub counted : (p : ℕ → Bool) (a n count : ℕ) → count ≡ length (filter p (range_with_len a n)) → (count ≡ tally n (λ i. p (a + i))) × (count ≤ n)
counted p a n count e =
    let so_far : count ≡ tally n (λ i. p (a + i)) = e ∙ length-filter p (range_with_len a n) ∙ count_range p a n in
    (so_far, omega (arith, so_far, tally-le n (λ i. p (a + i))))

-- from 0 on
pub from_first : (p : ℕ → Bool) (n : ℕ) → tally n (λ i. p (0 + i)) ≡ tally n p
from_first p n = tally-ext n (λ i. p (0 + i)) p (λ i h. ap p (let z : 0 + i ≡ i = omega arith in z))

-- ---- whether some number of a range passes

-- two tests of which each fails where the other does
same_false : (a b : Bool) → (a ≡ false → b ≡ false) → (b ≡ false → a ≡ false) → a ≡ b
same_false true true f g = refl
same_false true false f g = g refl
same_false false b f g = sym (f refl)

pub any_range : (p : ℕ → Bool) (a n : ℕ) → list_any p (range_with_len a n) ≡ any_below n (λ i. p (a + i))
any_range p a n =
    let xs : List ℕ = range_with_len a n in
    let at : (i d : ℕ) → i < n → p (get_or xs i d) ≡ p (a + i) = λ i d h. ap p (get_or-range_with_len a n i d h) in
    same_false (list_any p xs) (any_below n (λ i. p (a + i)))
    (λ e. none_any (λ i. p (a + i)) n
    (λ i h. by-test (p (a + i)) (λ y. clash (sym (list_any_at p xs i 0 (omega (arith, length-range_with_len a n)) (at i 0 h ∙ y)) ∙ e)) (λ z. z)))
    (λ e. list_any_none p xs
    (λ k d h. let l : k < n = omega (arith, length-range_with_len a n) in
    at k d l ∙ any_none (λ i. p (a + i)) n k e l))
