-- In a list with no NaN some value stands at every rank below the list's length, and `ranked` answers such a one, never its default.
-- Assumes nothing.
use mathlib.Core.Path.{◌≡◌, sym, ◌∙◌}
use mathlib.Core.Bool.{Bool, true, false}
use mathlib.Core.List.{List, [], ◌∷◌}
use Prim.Native.Nat.{ℕ, zero, suc, ◌<◌, ◌≤◌}
use native.Mathlib.Omega.{arith}
use lib.ListN.{length, get_or}
use lib.Dec.{ltb}
use lib.Ieee.{Float, lt, le, is_nan}
use borrow.Author.Tests.{ltb-true, ltb-false, lt-ltb, le-leb, not-true, not-false}
use Rattle.laws.specs.Lists.{count}
use Rattle.laws.proofs.Tests.{by-test, clash, and-true}
use Rattle.model.specs.Numbers.{f0}
use Rattle.model.specs.Bank.{stands_at, first_at, ranked}
use Rattle.laws.proofs.Counts.{count-le}
use Rattle.laws.proofs.Order.{lt-is, le_trans}

abbrev pub NoNan : List Float → Type 0
NoNan l = (i : ℕ) → i < length l → is_nan (get_or l i f0) ≡ false

abbrev under : Float → List Float → ℕ
under x l = count (λ y. lt y x) l

abbrev up_to : Float → List Float → ℕ
up_to x l = count (λ y. le y x) l

record At (r : ℕ) (l : List Float) : Type 0 where
  place : ℕ
  within : place < length l
  low : under (get_or l place f0) l ≤ r
  high : r < up_to (get_or l place f0) l

-- what holds of more counts more
more : (p q : Float → Bool) (l : List Float) → ((i : ℕ) → i < length l → p (get_or l i f0) ≡ true → q (get_or l i f0) ≡ true) → count p l ≤ count q l
more p q [] h = omega arith
more p q (x ∷ l) h =
    let rest = more p q l (λ i k. h (suc i) (omega arith)) in
    by-test (p x) (λ t. rw (t, h 0 (omega arith) t) (omega arith)) (λ t. rw t (omega arith))

-- ---- the order, of two that are no NaN
lt-le : (x y : Float) → lt x y ≡ true → le x y ≡ true
unfolding le
lt-le x y h = rw h

not-lt : (x y : Float) → is_nan x ≡ false → is_nan y ≡ false → lt y x ≡ false → le x y ≡ true
not-lt x y m n h = not-false (le x y) (sym (lt-is x y m n) ∙ h)

lt_not : (x y : Float) → is_nan x ≡ false → is_nan y ≡ false → lt y x ≡ true → le x y ≡ false
lt_not x y m n h = not-true (le x y) (sym (lt-is x y m n) ∙ h)

asym : (x y : Float) → is_nan x ≡ false → is_nan y ≡ false → lt y x ≡ true → lt x y ≡ false
asym x y m n h = by-test (lt x y) (λ t. clash (sym (lt-le x y t) ∙ lt_not x y m n h)) (λ t. t)

irrefl : (x : Float) → is_nan x ≡ false → lt x x ≡ false
irrefl x m = by-test (lt x x) (λ t. asym x x m m t) (λ t. t)

lt_trans : (x y z : Float) → is_nan x ≡ false → is_nan y ≡ false → is_nan z ≡ false → lt x y ≡ true → le y z ≡ true → lt x z ≡ true
lt_trans x y z l m n g h =
    by-test (lt x z) (λ t. t) (λ t. clash (sym (le_trans y z x m n l h (not-lt z x n l t)) ∙ lt_not y x m l g))

-- ---- one value y more, where every rank of l is taken
module _ (y : Float) (l : List Float) (n : NoNan (y ∷ l)) (all : (k : ℕ) → k < length l → At k l) where
  y-no : is_nan y ≡ false
  y-no = n 0 (omega arith)

  no : NoNan l
  no i h = n (suc i) (omega arith)

  -- y stands at r if no more than r are below it
  from_low : (r : ℕ) → r < suc (length l) → under y l ≤ r → At r (y ∷ l)
  from_low zero h low =
      record {
        place = 0;
        within = omega arith;
        low = rw (irrefl y y-no) (omega arith);
        high = rw (not-lt y y y-no y-no (irrefl y y-no)) (omega arith);
      }
  from_low (suc q) h low =
      let b = all q (omega arith) in
      let x = get_or l b.place f0 in
      let x-no = no b.place b.within in
      by-test (lt y x)
      (λ t.
      record {
        place = suc b.place;
        within = omega arith;
        low = rw t (omega arith);
        high = rw (lt-le y x t) (omega arith);
      })
      (λ t.
      let up = more (λ z. le z x) (λ z. le z y) l (λ i k e. le_trans (get_or l i f0) x y (no i k) x-no y-no e (not-lt x y x-no y-no t)) in
      record {
        place = 0;
        within = omega arith;
        low = rw (irrefl y y-no) (omega arith);
        high = rw (not-lt y y y-no y-no (irrefl y y-no)) (omega (arith, up, b.high));
      })

  one_more : (r : ℕ) → r < suc (length l) → At r (y ∷ l)
  one_more r h =
      by-test (ltb r (length l))
      (λ s.
      let b = all r (ltb-true r (length l) s) in
      let x = get_or l b.place f0 in
      let x-no = no b.place b.within in
      by-test (lt x y)
      (λ t.
      record {
        place = suc b.place;
        within = omega arith;
        low = rw (asym y x y-no x-no t) (omega arith);
        high = omega (arith, b.high);
      })
      (λ t.
      from_low r h
      (let down = more (λ z. lt z y) (λ z. lt z x) l (λ i k e. lt_trans (get_or l i f0) y x (no i k) y-no x-no e (not-lt y x y-no x-no t)) in
      omega (arith, down, b.low))))
      (λ s. from_low r h (omega (arith, count-le (λ z. lt z y) l, ltb-false r (length l) s)))

at_each : (l : List Float) → NoNan l → (r : ℕ) → r < length l → At r l
at_each [] n r h = absurd (omega arith)
at_each (y ∷ l) n r h = one_more y l n (at_each l (λ i k. n (suc i) (omega arith))) r h

pub taken : (l : List Float) → NoNan l → (r : ℕ) → r < length l → (i : ℕ) × (i < length l) × (stands_at r l (get_or l i f0) ≡ true)
taken l n r h =
    let b = at_each l n r h in
    let x = get_or l b.place f0 in
    (b.place, b.within, and-true _ _ (le-leb (under x l) r b.low) (lt-ltb r (up_to x l) b.high))

first-stands : (r : ℕ) (l : List Float) (d : Float) (xs : List Float) (i : ℕ) → i < length xs → stands_at r l (get_or xs i f0) ≡ true
    → stands_at r l (first_at r l d xs) ≡ true
unfolding first_at
first-stands r l d [] i h t = absurd (omega arith)
first-stands r l d (x ∷ xs) zero h t = rw t t
first-stands r l d (x ∷ xs) (suc i) h t =
    let rest = first-stands r l d xs i (omega arith) t in
    by-test (stands_at r l x) (λ s. rw s s) (λ s. rw s rest)

pub ranked-stands : (l : List Float) → NoNan l → (r : ℕ) → r < length l → stands_at r l (ranked r l) ≡ true
unfolding ranked
ranked-stands l n r h = let b = taken l n r h in first-stands r l (get_or l 0 f0) l b.0 b.1 b.2
