-- The k-th smallest of a list by counting: laws on `sorted`, `without` and `smallest`. Assumes nothing.
use mathlib.Core.Path.{◌≡◌, refl, sym, ap, ◌∙◌}
use mathlib.Core.List.{List, [], ◌∷◌}
use Prim.Native.Nat.{ℕ, zero, suc, ◌+◌, ◌-◌, ◌<◌, ◌≤◌}
use native.Mathlib.Numerals.{add-one}
use native.Mathlib.Omega.{arith}
use lib.Dec.{leb, ltb, eqb}
use lib.ListN.{length, get_or}
use borrow.Author.Tests.{leb-true, leb-false, ltb-true, ltb-false, lt-ltb, le-ltb, eqb-true, eqb-false, eq-eqb, ne_eqb}
use Rattle.laws.specs.Lists.{one, occ, count}
use Rattle.laws.proofs.Tests.{by-test}
use Rattle.laws.proofs.Lower.{Lower, lower-tail}
use Rattle.model.specs.Ring.{insert, sorted, without, smallest}

-- how many of l are below b
abbrev pub under : ℕ → List ℕ → ℕ
under b l = count (λ x. ltb x b) l

-- ---- the order of `sorted`

abbrev AllGe : ℕ → List ℕ → Type 0
AllGe y [] = Unit {0}
AllGe y (x ∷ l) = (y ≤ x) × AllGe y l

abbrev Ordered : List ℕ → Type 0
Ordered [] = Unit {0}
Ordered (x ∷ l) = AllGe x l × Ordered l

ge_trans : (y x : ℕ) (l : List ℕ) → y ≤ x → AllGe x l → AllGe y l
ge_trans y x [] h g = tt
ge_trans y x (z ∷ l) h g = (omega (arith, g.0), ge_trans y x l h g.1)

ge-insert : (y x : ℕ) (l : List ℕ) → y ≤ x → AllGe y l → AllGe y (insert x l)
unfolding insert
ge-insert y x [] h g = (h, tt)
ge-insert y x (z ∷ l) h g = by-test (leb x z) (λ t. simp t (h, g)) (λ t. simp t (g.0, ge-insert y x l h g.1))

ordered-insert : (x : ℕ) (l : List ℕ) → Ordered l → Ordered (insert x l)
unfolding insert
ordered-insert x [] o = (tt, tt)
ordered-insert x (z ∷ l) o =
    by-test (leb x z)
    (λ t. simp t ((leb-true x z t, ge_trans x z l (leb-true x z t) o.0), o))
    (λ t. simp t (ge-insert z x l (omega (arith, leb-false x z t)) o.0, ordered-insert x l o.1))

ordered-sorted : (l : List ℕ) → Ordered (sorted l)
unfolding sorted
ordered-sorted [] = tt
ordered-sorted (x ∷ l) = ordered-insert x (sorted l) (ordered-sorted l)

-- ---- its length and its counts are those of the list

length-insert : (x : ℕ) (l : List ℕ) → length (insert x l) ≡ suc (length l)
unfolding insert
length-insert x [] = refl
length-insert x (z ∷ l) = by-test (leb x z) (λ t. simp t) (λ t. simp t (ap suc (length-insert x l)))

length-sorted : (l : List ℕ) → length (sorted l) ≡ length l
unfolding sorted
length-sorted [] = refl
length-sorted (x ∷ l) = length-insert x (sorted l) ∙ ap suc (length-sorted l)

under-insert : (b x : ℕ) (l : List ℕ) → under b (insert x l) ≡ one (ltb x b) + under b l
unfolding insert
under-insert b x [] = refl
under-insert b x (z ∷ l) = by-test (leb x z) (λ t. simp t) (λ t. simp t (omega (arith, under-insert b x l)))

under-sorted : (b : ℕ) (l : List ℕ) → under b (sorted l) ≡ under b l
unfolding sorted
under-sorted b [] = refl
under-sorted b (x ∷ l) = under-insert b x (sorted l) ∙ ap (λ (n : ℕ). one (ltb x b) + n) (under-sorted b l)

-- ---- what stands at place i of an ordered list, by the count of those below b

none-under : (b x : ℕ) (l : List ℕ) → b ≤ x → AllGe x l → under b l ≡ 0
none-under b x [] h g = refl
none-under b x (z ∷ l) h g = simp (le-ltb z b (omega (arith, g.0))) (omega (arith, none-under b x l h g.1))

ge-at : (x : ℕ) (l : List ℕ) (i d : ℕ) → AllGe x l → i < length l → x ≤ get_or l i d
ge-at x [] i d g h = absurd (omega arith)
ge-at x (z ∷ l) zero d g h = g.0
ge-at x (z ∷ l) (suc i) d g h = ge-at x l i d g.1 (omega arith)

at_least : (b : ℕ) (l : List ℕ) (i d : ℕ) → Ordered l → i < length l → under b l ≤ i → b ≤ get_or l i d
at_least b [] i d o h k = absurd (omega arith)
at_least b (x ∷ l) zero d o h k = by-test (ltb x b) (λ t. absurd (omega (arith, simp t at k))) (λ t. ltb-false x b t)
at_least b (x ∷ l) (suc i) d o h k =
    by-test (ltb x b)
    (λ t. at_least b l i d o.1 (omega arith) (omega (arith, simp t at k)))
    (λ t. omega (arith, ltb-false x b t, ge-at x l i d o.0 (omega arith)))

at_most : (b : ℕ) (l : List ℕ) (i d : ℕ) → Ordered l → i < under b l → get_or l i d < b
at_most b [] i d o k = absurd (omega arith)
at_most b (x ∷ l) zero d o k =
    by-test (ltb x b) (λ t. ltb-true x b t) (λ t. absurd (omega (arith, simp t at k, none-under b x l (ltb-false x b t) o.0)))
at_most b (x ∷ l) (suc i) d o k =
    by-test (ltb x b)
    (λ t. at_most b l i d o.1 (omega (arith, simp t at k)))
    (λ t. absurd (omega (arith, simp t at k, none-under b x l (ltb-false x b t) o.0)))

-- ---- the k-th smallest

smallest-least : (b k : ℕ) (l : List ℕ) → 0 < k → k ≤ length l → under b l < k → b ≤ smallest k l
unfolding smallest
smallest-least b k l p h u = at_least b (sorted l) (k - 1) 0 (ordered-sorted l) (omega (arith, length-sorted l)) (omega (arith, under-sorted b l))

smallest-below : (b k : ℕ) (l : List ℕ) → 0 < k → k ≤ under b l → smallest k l < b
unfolding smallest
smallest-below b k l p u = at_most b (sorted l) (k - 1) 0 (ordered-sorted l) (omega (arith, under-sorted b l))

under-le : (b : ℕ) (l : List ℕ) → under b l ≤ length l
under-le b [] = omega arith
under-le b (x ∷ l) = by-test (ltb x b) (λ t. simp t (omega (arith, under-le b l))) (λ t. simp t (omega (arith, under-le b l)))

-- fewer than k are below b, and k or more below b + 1
pub smallest-is : (b k : ℕ) (l : List ℕ) → 0 < k → under b l < k → k ≤ under (b + 1) l → smallest k l ≡ b
smallest-is b k l p u v =
    let low : b ≤ smallest k l = smallest-least b k l p (omega (arith, under-le (b + 1) l)) u in
    omega (arith, smallest-below (b + 1) k l p v)

-- and the other way round
under-smallest : (k : ℕ) (l : List ℕ) → 0 < k → k ≤ length l → (under (smallest k l) l < k) × (k ≤ under (smallest k l + 1) l)
under-smallest k l p h =
    let x = smallest k l in (
      by-test (ltb (under x l) k) (λ t. ltb-true (under x l) k t)
          (λ t. absurd (omega (arith, smallest-below x k l p (ltb-false (under x l) k t)))),
      by-test (ltb (under (x + 1) l) k) (λ t. absurd (omega (arith, smallest-least (x + 1) k l p h (ltb-true (under (x + 1) l) k t))))
          (λ t. ltb-false (under (x + 1) l) k t),
    )

pub smallest-rises : (j k : ℕ) (l : List ℕ) → 0 < j → j ≤ k → k ≤ length l → smallest j l ≤ smallest k l
smallest-rises j k l p h n = smallest-least (smallest j l) k l (omega arith) n (omega (arith, (under-smallest j l p (omega arith)).0))

-- of a higher list no more are below b ..
fewer-under : (b : ℕ) (l m : List ℕ) → Lower l m → under b m ≤ under b l
fewer-under b [] [] o = omega arith
fewer-under b [] (y ∷ m) o = absurd (omega (arith, o.long))
fewer-under b (x ∷ l) [] o = absurd (omega (arith, o.long))
fewer-under b (x ∷ l) (y ∷ m) o =
    by-test (ltb y b)
    (λ t. simp (t, lt-ltb x b (omega (arith, ltb-true y b t, o.at 0 (omega arith)))) (omega (arith, fewer-under b l m (lower-tail o))))
    (λ t. simp t (omega (arith, fewer-under b l m (lower-tail o))))

-- .. so its k-th smallest is no lower
pub lower-smallest : (k : ℕ) (l m : List ℕ) → Lower l m → 0 < k → k ≤ length l → smallest k l ≤ smallest k m
lower-smallest k l m o p h =
    smallest-least (smallest k l) k m p (omega (arith, o.long)) (omega (arith, (under-smallest k l p h).0, fewer-under (smallest k l) l m o))

-- ---- a bin at a time

pub under-zero : (l : List ℕ) → under 0 l ≡ 0
under-zero [] = refl
under-zero (x ∷ l) = simp (le-ltb x 0 (omega arith)) (omega (arith, under-zero l))

one_more : (b x : ℕ) → one (ltb x (b + 1)) ≡ one (ltb x b) + one (eqb b x)
one_more b x =
    by-test (eqb b x)
    (λ t. let e = eqb-true b x t in simp (t, lt-ltb x (b + 1) (omega arith), le-ltb x b (omega arith)))
    (λ t.
    let ne = eqb-false b x t in
    by-test (ltb x b)
    (λ u. simp (t, u, lt-ltb x (b + 1) (omega (arith, ltb-true x b u))))
    (λ u. simp (t, u, le-ltb x (b + 1) (omega (arith, ltb-false x b u)))))

pub under_more : (b : ℕ) (l : List ℕ) → under (b + 1) l ≡ under b l + occ b l
under_more b [] = refl
under_more b (x ∷ l) = omega (arith, one_more b x, under_more b l)

pub under_all : (b : ℕ) (l : List ℕ) → ((i : ℕ) → i < length l → get_or l i 0 < b) → under b l ≡ length l
under_all b [] h = refl
under_all b (x ∷ l) h = simp (lt-ltb x b (h 0 (omega arith))) (omega (arith, under_all b l (λ i g. h (suc i) (omega arith))))

-- the bin, below B, at which rank k is reached
pub reached : (k : ℕ) (l : List ℕ) → 0 < k → (B : ℕ) → k ≤ under B l → (b : ℕ) × (b < B) × (under b l < k) × (k ≤ under (b + 1) l)
reached k l p zero h = absurd (omega (arith, under-zero l))
reached k l p (suc B) h =
    by-test (ltb (under B l) k) (λ t. (B, omega arith, ltb-true (under B l) k t, rw (add-one B) h))
    (λ t. let r = reached k l p B (ltb-false (under B l) k t) in (r.0, omega (arith, r.1), r.2, r.3))

-- ---- with s entries of bin 0 left out

zeros-under : (b : ℕ) (l : List ℕ) → 0 < b → occ 0 l ≤ under b l
zeros-under b [] p = omega arith
zeros-under b (x ∷ l) p =
    by-test (eqb 0 x)
    (λ t. simp (t, lt-ltb x b (omega (arith, eqb-true 0 x t))) (omega (arith, zeros-under b l p)))
    (λ t. simp t (omega (arith, zeros-under b l p)))

pub zeros-le : (l : List ℕ) → occ 0 l ≤ length l
zeros-le l = omega (arith, zeros-under 1 l (omega arith), under-le 1 l)

without-under : (s b : ℕ) (l : List ℕ) → s ≤ occ 0 l → 0 < b → under b (without s l) ≡ under b l - s
unfolding without
without-under zero b l h p = omega arith
without-under (suc s) b [] h p = absurd (omega arith)
without-under (suc s) b (x ∷ l) h p =
    by-test (eqb 0 x)
    (λ t.
    let e = eqb-true 0 x t in
    simp (eq-eqb x 0 (sym e), lt-ltb x b (omega arith)) (omega (arith, without-under s b l (omega (arith, simp t at h)) p)))
    (λ t.
    let ne = eqb-false 0 x t in
    let k : suc s ≤ occ 0 l = omega (arith, simp t at h) in
    simp (ne_eqb x 0 (λ e. ne (sym e))) (omega (arith, without-under (suc s) b l k p, zeros-under b l p)))

stands : (x s k : ℕ) (l : List ℕ) → s ≤ occ 0 l → 0 < k → under x l < s + k → s + k ≤ under (x + 1) l → smallest k (without s l) ≡ x
stands x s k l z p u v = smallest-is x k (without s l) p (low x u) (omega (arith, without-under s (x + 1) l z (omega arith)))
  where
    low : (x : ℕ) → under x l < s + k → under x (without s l) < k
    low zero u = omega (arith, under-zero (without s l))
    low (suc x) u = omega (arith, without-under s (suc x) l z (omega arith))

-- to leave s of them out is to look s ranks further on
pub smallest-without : (s k : ℕ) (l : List ℕ) → s ≤ occ 0 l → 0 < k → s + k ≤ length l → smallest k (without s l) ≡ smallest (s + k) l
smallest-without s k l z p h =
    let w = under-smallest (s + k) l (omega arith) h in
    stands (smallest (s + k) l) s k l z p w.0 w.1
