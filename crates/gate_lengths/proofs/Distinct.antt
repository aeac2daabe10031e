-- Laws on the lengths that a gate is made with, entry by entry: those that making takes, the distinct ones, and their floats.
-- Assumes nothing.
use mathlib.Core.Path.{◌≡◌, refl, sym, ap, ap₂, ◌∙◌}
use mathlib.Core.Bool.{Bool, true, false, cond, ◌||◌}
use mathlib.Core.List.{List, [], ◌∷◌, ◌++◌, append-nil}
use Prim.Native.Nat.{ℕ, zero, suc, ◌+◌, ◌<◌, ◌≤◌}
use native.Mathlib.Nat.{add-zero}
use native.Mathlib.Omega.{arith}
use native.Mathlib.Numerals.{add-one}
use lib.Dec.{eqb}
use lib.ListN.{length, get_or, take}
use lib.Seq.{take-suc, length-take-le}
use borrow.Author.Tests.{eqb-true}
use Rattle.laws.specs.Tests.{within}
use Rattle.laws.proofs.Tests.{by-test, and_l, and_r, within_of}
use Rattle.model.specs.Gate.{among, distinct}
use Rattle.model.specs.GateStores.{look_size, look_start}
use Rattle.model.specs.GateCalls.{all_within, good_lengths}
use Rattle.gate_lengths.specs.Makes.{floats_before, floats_more}

-- one entry more
pub take_more : (l : List ℕ) (i : ℕ) → i < length l → take (i + 1) l ≡ take i l ++ (get_or l i 0 ∷ [])
take_more l i h = ap (λ (k : ℕ). take k l) (add-one i) ∙ take-suc l i 0 h

-- ---- those that making takes

within-at : (l : List ℕ) (i : ℕ) → i < length l → all_within l ≡ true → within 1 375 (get_or l i 0) ≡ true
within-at [] i h a = absurd (omega arith)
within-at (m ∷ l) zero h a = and_l (within 1 375 m) (all_within l) a
within-at (m ∷ l) (suc i) h a = within-at l i (omega arith) (and_r (within 1 375 m) (all_within l) a)

abbrev some : List ℕ → Bool
some l = within 1 8 (length l)

pub few : (l : List ℕ) → good_lengths l ≡ true → length l ≤ 8
unfolding good_lengths
few l h = (within_of 1 8 (length l) (and_l (some l) (all_within l) h)).1

pub short : (l : List ℕ) (i : ℕ) → i < length l → good_lengths l ≡ true → get_or l i 0 ≤ 375
unfolding good_lengths
short l i h g = (within_of 1 375 (get_or l i 0) (within-at l i h (and_r (some l) (all_within l) g))).1

-- ---- the distinct ones

drop-double : (p q r : Bool) → p ≡ true → (p || r) ≡ (p || (q || r))
drop-double p q r h = rw h

regroup : (p q r : Bool) → ((p || q) || r) ≡ (q || (p || r))
regroup true true r = refl
regroup true false r = refl
regroup false q r = refl

abbrev unseen : Bool → ℕ → List ℕ
unseen t x = cond t [] (x ∷ [])

-- an entry at the end counts if it is neither in s nor before it
distinct_snoc : (s l : List ℕ) (x : ℕ) → distinct s (l ++ (x ∷ [])) ≡ distinct s l ++ unseen (among x s || among x l) x
unfolding distinct
distinct_snoc s [] x = by-test (among x s) (λ t. rw t) (λ t. rw t)
distinct_snoc s (m ∷ l) x =
    by-test (among m s)
    (λ t.
    rw t
    (distinct_snoc s l x
    ∙ ap (λ (b : Bool). distinct s l ++ unseen b x)
    (by-test (eqb x m)
    (λ e. drop-double (among x s) (eqb x m) (among x l) (ap (λ (k : ℕ). among k s) (eqb-true x m e) ∙ t))
    (λ e. ap (λ (b : Bool). among x s || (b || among x l)) (sym e)))))
    (λ t.
    rw t
    (ap (λ (r : List ℕ). m ∷ r)
    (distinct_snoc (m ∷ s) l x ∙ ap (λ (b : Bool). distinct (m ∷ s) l ++ unseen b x) (regroup (eqb x m) (among x s) (among x l)))))

-- the distinct lengths among the first i
abbrev pub first_of : List ℕ → ℕ → List ℕ
first_of l i = distinct [] (take i l)

pub first_more : (l : List ℕ) (i : ℕ) → i < length l → first_of l (i + 1) ≡ first_of l i ++ unseen (among (get_or l i 0) (take i l)) (get_or l i 0)
first_more l i h = ap (distinct []) (take_more l i h) ∙ distinct_snoc [] (take i l) (get_or l i 0)

distinct-le : (s l : List ℕ) → length (distinct s l) ≤ length l
unfolding distinct
distinct-le s [] = omega arith
distinct-le s (m ∷ l) =
    by-test (among m s) (λ t. rw t (omega (arith, distinct-le s l))) (λ t. rw t (omega (arith, distinct-le (m ∷ s) l)))

pub first-le : (l : List ℕ) (i : ℕ) → i ≤ length l → length (first_of l i) ≤ i
first-le l i h = omega (arith, distinct-le [] (take i l), length-take-le i l h)

pub distinct-few : (l : List ℕ) → good_lengths l ≡ true → length (distinct [] l) ≤ 8
distinct-few l g = omega (arith, distinct-le [] l, few l g)

-- ---- their floats

swap : (a b c : ℕ) → (a + b) + c ≡ (a + c) + b
swap a b c = omega arith

start-front : (n : ℕ) (f : ℕ → ℕ) (j : ℕ) → look_start n f (suc j) ≡ look_start n (λ i. f (suc i)) j + look_size n (f 0)
start-front n f zero = refl
start-front n f (suc j) =
    ap (λ (k : ℕ). k + look_size n (f (suc j))) (start-front n f j)
    ∙ swap (look_start n (λ i. f (suc i)) j) (look_size n (f 0)) (look_size n (f (suc j)))

pub floats-cons : (n m : ℕ) (ms : List ℕ) → floats_before n (m ∷ ms) ≡ floats_before n ms + look_size n m
floats-cons n m ms = start-front n (λ j. get_or (m ∷ ms) j 0) (length ms)

floats-snoc : (n : ℕ) (ms : List ℕ) (x : ℕ) → floats_before n (ms ++ (x ∷ [])) ≡ floats_before n ms + look_size n x
floats-snoc n [] x = refl
floats-snoc n (m ∷ ms) x =
    floats-cons n m (ms ++ (x ∷ []))
    ∙ ap (λ (k : ℕ). k + look_size n m) (floats-snoc n ms x)
    ∙ swap (floats_before n ms) (look_size n x) (look_size n m)
    ∙ ap (λ (k : ℕ). k + look_size n x) (sym (floats-cons n m ms))

pub floats-turn : (n : ℕ) (l : List ℕ) (i x y : ℕ) → i < length l → x ≡ floats_before n (first_of l i) → y ≡ floats_more n l i
    → x + y ≡ floats_before n (first_of l (i + 1))
unfolding floats_more
floats-turn n l i x y h d e =
    by-test (among (get_or l i 0) (take i l))
    (λ t.
    ap₂ ◌+◌ d (e ∙ rw t)
    ∙ add-zero (floats_before n (first_of l i))
    ∙ sym (ap (floats_before n) (first_more l i h ∙ ap (λ (b : Bool). first_of l i ++ unseen b (get_or l i 0)) t ∙ append-nil (first_of l i))))
    (λ t.
    ap₂ ◌+◌ d (e ∙ rw t)
    ∙ sym
    (ap (floats_before n) (first_more l i h ∙ ap (λ (b : Bool). first_of l i ++ unseen b (get_or l i 0)) t)
    ∙ floats-snoc n (first_of l i) (get_or l i 0)))
