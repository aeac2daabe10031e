-- Laws on the refusals of a hop. Assumes nothing.
use mathlib.Core.Path.{◌≡◌, refl, sym, ap, ap₂, ◌∙◌}
use mathlib.Core.Bool.{Bool, true, false, cond, ◌&&◌, ◌||◌}
use mathlib.Core.List.{List, [], ◌∷◌}
use Prim.Native.Nat.{◌≤◌, ℕ, zero, suc, ◌-◌, ◌/◌, ◌%◌, ◌<◌}
use native.Mathlib.Omega.{arith}
use lib.Dec.{eqb, ltb}
use lib.ListN.{length, get_or, take}
use lib.Ieee.{Float, is_nan}
use borrow.Author.Tests.{eqb-true, eqb-false, lt-ltb, le-ltb}
use Rattle.std.specs.List.{list_any}
use Rattle.std.proofs.lemmas.List.{length-take-le, get_or-take}
use Rattle.laws.specs.Tests.{any_below}
use Rattle.laws.proofs.Tests.{by-test, and_false_r}
use Rattle.model.specs.Numbers.{f0}
use Rattle.model.specs.Layout.{block_channels}
use Rattle.model.specs.Refusals.{block_size, garbled}
use Rattle.hop_refusals.specs.Checks.{sharing_of}

or-false-r : (p : Bool) → (p || false) ≡ p
or-false-r true = refl
or-false-r false = refl

or-assoc : (p q r : Bool) → (p || q || r) ≡ (p || (q || r))
or-assoc true q r = refl
or-assoc false q r = refl

-- a search of a list from its front, as one of its indices
any_first : (n : ℕ) (p : ℕ → Bool) → any_below (suc n) p ≡ (p 0 || any_below n (λ k. p (suc k)))
unfolding any_below
any_first zero p = sym (or-false-r (p 0))
any_first (suc n) p = ap (λ (b : Bool). b || p (suc n)) (any_first n p) ∙ or-assoc (p 0) (any_below n (λ k. p (suc k))) (p (suc n))

any_listed : {A : Type 0} (test : A → Bool) (d : A) (xs : List A) → list_any test xs ≡ any_below (length xs) (λ k. test (get_or xs k d))
unfolding any_below
any_listed test d [] = refl
any_listed test d (x ∷ xs) = ap (λ (b : Bool). test x || b) (any_listed test d xs) ∙ sym (any_first (length xs) (λ k. test (get_or (x ∷ xs) k d)))

-- two tests that agree below n
any_same : (n : ℕ) (p q : ℕ → Bool) → ((i : ℕ) → i < n → p i ≡ q i) → any_below n p ≡ any_below n q
unfolding any_below
any_same zero p q h = refl
any_same (suc n) p q h = ap₂ ◌||◌ (any_same n p q (λ i l. h i (omega arith))) (h n (omega arith))

and_true_r : (p : Bool) → (p && true) ≡ p
and_true_r true = refl
and_true_r false = refl

-- a last number of which the test does not hold
any-but-last : (n : ℕ) (p : ℕ → Bool) → p n ≡ false → any_below (suc n) p ≡ any_below n p
unfolding any_below
any-but-last n p h = ap (λ (b : Bool). any_below n p || b) h ∙ or-false-r (any_below n p)

-- each channel below `sharing_of n` has company in its block; one that is not has none
shares : (n k : ℕ) → k < sharing_of n → ltb 1 (block_size n (k / block_channels)) ≡ true
shares n k h =
    by-test (eqb (n % block_channels) 1) (λ e. lt-ltb 1 (block_size n (k / block_channels)) (omega (arith, rw e at h, eqb-true (n % block_channels) 1 e)))
    (λ e. lt-ltb 1 (block_size n (k / block_channels)) (omega (arith, rw e at h, eqb-false (n % block_channels) 1 e)))

alone : (m : ℕ) → suc m % block_channels ≡ 1 → ltb 1 (block_size (suc m) (m / block_channels)) ≡ false
alone m e = le-ltb 1 (block_size (suc m) (m / block_channels)) (omega arith)

below_all : (n : ℕ) → sharing_of n ≤ n
below_all n = by-test (eqb (n % block_channels) 1) (λ e. rw e (omega arith)) (λ e. rw e (omega arith))

module _ (db : List Float) where
  abbrev pub nan_at : ℕ → Bool
  nan_at k = is_nan (get_or db k f0)

  abbrev counts : ℕ → ℕ → Bool
  counts n k = nan_at k && ltb 1 (block_size n (k / block_channels))

  same : (n k : ℕ) → k < sharing_of n → nan_at k ≡ counts n k
  same n k h = sym (ap (λ (b : Bool). nan_at k && b) (shares n k h) ∙ and_true_r (nan_at k))

  rest : (n : ℕ) → any_below (sharing_of n) (counts n) ≡ any_below n (counts n)
  rest zero = refl
  rest (suc m) =
      by-test (eqb (suc m % block_channels) 1)
      (λ e.
      ap (λ (b : Bool). any_below (cond b (suc m - 1) (suc m)) (counts (suc m))) e
      ∙ ap (λ (k : ℕ). any_below k (counts (suc m))) (let z : suc m - 1 ≡ m = omega arith in z)
      ∙ sym (any-but-last m (counts (suc m)) (and_false_r (nan_at m) (ltb 1 (block_size (suc m) (m / block_channels))) (alone m (eqb-true (suc m % block_channels) 1 e)))))
      (λ e. ap (λ (b : Bool). any_below (cond b (suc m - 1) (suc m)) (counts (suc m))) e)

  -- what the code looks for
  pub front_garbled : list_any is_nan (take (sharing_of (length db)) db) ≡ garbled (length db) db
  unfolding garbled
  front_garbled =
      let n = length db in
      let e : length (take (sharing_of n) db) ≡ sharing_of n = length-take-le (sharing_of n) db (below_all n) in
      any_listed is_nan f0 (take (sharing_of n) db)
      ∙ ap (λ (k : ℕ). any_below k (λ i. is_nan (get_or (take (sharing_of n) db) i f0))) e
      ∙ any_same (sharing_of n) (λ i. is_nan (get_or (take (sharing_of n) db) i f0)) (counts n) (λ i h. ap is_nan (get_or-take (sharing_of n) db i f0 h) ∙ same n i h)
      ∙ rest n
