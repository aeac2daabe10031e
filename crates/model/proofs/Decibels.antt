-- R-13: what the dB of a power is without the search, that it rises with the power, and that no hop worked out from powers is refused with 6.
-- Assumes nothing.
use mathlib.Core.Path.{◌≡◌, refl, sym, ap, ap₂, subst, ◌∙◌}
use mathlib.Core.Bool.{Bool, true, false, not, ◌&&◌, ◌||◌}
use mathlib.Core.List.{List, [], ◌∷◌}
use mathlib.Core.Logic.{◌⊎◌, inl, inr, ⊎_elim}
use Prim.Native.Nat.{ℕ, zero, suc, ◌+◌, ◌-◌, ◌/◌, ◌≤◌, ◌<◌}
use native.Mathlib.Nat.{add-zero, add-suc, eq-or-lt_of_le, le_of_suc-le-suc}
use native.Mathlib.Omega.{arith}
use lib.Dec.{eqb, ltb}
use lib.ListN.{length, get_or}
use lib.IntN.{pos}
use lib.Ieee.{Float, nan, inf, fin, binary32, binary64, add, mul, div, lt, le, eq, is_nan, of_int, of_bits, round}
use lib.Ieee.Bits.{is_true}
use borrow.Author.Tests.{eqb-true, ltb-true, ltb-false, lt-ltb}
use Rattle.laws.specs.Tests.{within, differ, first}
use Rattle.laws.proofs.Tests.{clash, by-test, and_l, and_r, and-false-l, none_any, same_of}
use Rattle.laws.proofs.Tabs.{length-tab, get_d-tab}
use Rattle.laws.proofs.Rounding.{le-numbers, add-rises, add_swaps, div-rises, of_int-rises}
use Rattle.laws.proofs.Order.{le_on}
use Rattle.model.specs.Numbers.{f0, epsilon, power_linear}
use Rattle.model.specs.Layout.{block_channels, ladder_min, rung_count}
use Rattle.model.specs.Ladder.{f8, root_of, ten_to, rung_value}
use Rattle.model.specs.Stores.{bank_of, bank_len, bank_f_len, sound_bank}
use Rattle.model.specs.Refusals.{block_size, garbled, bank_refusal, update_refusal}
use Rattle.model.specs.Bank.{FloorBank}
use Rattle.model.specs.Calls.{leaves, bank_update_call}
use Rattle.model.specs.Decibels.{highest_below, highest_rung, rung_db, power_db, NoRung, Named, NanLowest, edges, AllAt, EdgesHold, LouderPower, decibels, NeverGarbled}
use Rattle.model.proofs.RungValues.{value-next}

-- ---- the highest of the rungs below n

-- no rung below n is at most x, or the highest is named
abbrev Found : ℕ → Float → ℕ → Type 0
Found n x r = (r < n) × (le (rung_value r) x ≡ true) × ((i : ℕ) → r < i → i < n → le (rung_value i) x ≡ false)

-- one rung more
last : {P : ℕ → Type 0} (n : ℕ) → P n → ((i : ℕ) → i < n → P i) → (i : ℕ) → i < suc n → P i
last {P} n here below i h = ⊎_elim (λ (e : i ≡ n). subst P (sym e) here) (λ l. below i l) (eq-or-lt_of_le (le_of_suc-le-suc h))

searched : (n : ℕ) (x : Float) → (((i : ℕ) → i < n → le (rung_value i) x ≡ false) × (highest_below n x ≡ 0)) ⊎ Found n x (highest_below n x)
unfolding highest_below
searched zero x = inl ((λ i h. absurd (omega arith)), refl)
searched (suc n) x =
    by-test (le (rung_value n) x) (λ t. rw t (inr (omega arith, t, λ i a b. absurd (omega arith))))
    (λ t.
    rw t
    (⊎_elim (λ a. inl (last n t a.0, a.1))
    (λ b. inr (omega (arith, b.0), b.1, λ i l h. last {P = λ j. highest_below n x < j → le (rung_value j) x ≡ false} n (λ k. t) (λ j m k. b.2 j k m) i h l))
    (searched n x)))

-- what is at most x stays so further down, where the values do not fall from one rung to the next
pub at-most-below : ((r : ℕ) → suc r < rung_count → le (rung_value r) (rung_value (suc r)) ≡ true) → (i d : ℕ) (x : Float) → i + d < rung_count
    → le (rung_value (i + d)) x ≡ true → le (rung_value i) x ≡ true
at-most-below rises i zero x g h = rw add-zero at h
at-most-below rises i (suc d) x g h =
    at-most-below rises i d x (omega arith) (le_on (rung_value (i + d)) (rung_value (suc (i + d))) x (rises (i + d) (omega arith)) (rw add-suc at h))

never-falls : (r : ℕ) → suc r < rung_count → le (rung_value r) (rung_value (suc r)) ≡ true
never-falls r h = is_true (le (rung_value r) (rung_value (suc r))) (value-next r (omega arith))

lowest-db : rung_db 0 ≡ ladder_min
unfolding rung_db of_int of_bits round div add
lowest-db = refl

pub named : Named
unfolding power_db highest_rung
named p =
    let x = power_linear p in
    ⊎_elim (λ a. inl (a.0, ap rung_db a.1 ∙ lowest-db))
    (λ b.
    let r = highest_rung x in
    inr (
      r,
      record {
        on_the_ladder = b.0;
        at_most = λ i h.
            let s : i + (r - i) ≡ r = omega arith in
            at-most-below never-falls i (r - i) x (omega (arith, b.0)) (ap (λ (k : ℕ). le (rung_value k) x) s ∙ b.1);
        above = b.2;
      },
      refl,
    ))
    (searched rung_count x)

no_nan : (x : Float) → le x nan ≡ false
unfolding le lt eq
no_nan nan = refl
no_nan (inf s) = refl
no_nan (fin s m e) = refl

pub nan-lowest : NanLowest
unfolding add
nan-lowest =
    let none : NoRung (power_linear nan) = λ i h. no_nan (rung_value i) in
    (none, ⊎_elim (λ a. a.1) (λ b. clash (sym (b.1.at_most 0 (omega arith)) ∙ no_nan (rung_value 0))) (named nan))

-- ---- edges: a rung that two comparisons name

-- rung r is at most x or the lowest, and the next is not
abbrev names : ℕ → Float → Bool
names r x = (le (rung_value r) x || eqb r 0) && not (ltb (suc r) rung_count && le (rung_value (suc r)) x)

module _ (r : ℕ) (x : Float) (on : r < rung_count) (t : names r x ≡ true) where
  here : (le (rung_value r) x || eqb r 0) ≡ true
  here = and_l (le (rung_value r) x || eqb r 0) (not (ltb (suc r) rung_count && le (rung_value (suc r)) x)) t

  next : not (ltb (suc r) rung_count && le (rung_value (suc r)) x) ≡ true
  next = and_r (le (rung_value r) x || eqb r 0) (not (ltb (suc r) rung_count && le (rung_value (suc r)) x)) t

  lowest : le (rung_value r) x ≡ false → r ≡ 0
  lowest f = eqb-true r 0 (rw f at here)

  -- the highest is not below r, and not above it
  no_lower : (k : ℕ) → Found rung_count x k → k < r → ⊥
  no_lower k b l = let z = lowest (b.2 r l on) in omega arith

  no-higher : (k : ℕ) → Found rung_count x k → r < k → ⊥
  no-higher k b l =
      let s : suc r + (k - suc r) ≡ k = omega arith in
      let u = at-most-below never-falls (suc r) (k - suc r) x (omega (arith, b.0)) (ap (λ (i : ℕ). le (rung_value i) x) s ∙ b.1) in
      clash (sym (rw (lt-ltb (suc r) rung_count (omega (arith, b.0)), u) at next))

  two-name : highest_rung x ≡ r
  unfolding highest_rung
  two-name =
      ⊎_elim (λ a. a.1 ∙ sym (lowest (a.0 r on)))
      (λ b.
      let k = highest_below rung_count x in
      by-test (ltb k r) (λ l. absurd (no_lower k b (ltb-true k r l)))
      (λ l. by-test (ltb r k) (λ m. absurd (no-higher k b (ltb-true r k m))) (λ m. omega (arith, ltb-false k r l, ltb-false r k m))))
      (searched rung_count x)

-- so each edge is two comparisons
edge : (bits r : ℕ) → r < rung_count → names r (power_linear (of_bits binary32 bits)) ≡ true → power_db (of_bits binary32 bits) ≡ rung_db r
unfolding power_db
edge bits r on t = ap rung_db (two-name r (power_linear (of_bits binary32 bits)) on t)

abbrev edges-test : List (ℕ × ℕ) → Bool
edges-test [] = true
edges-test (e ∷ l) = (ltb e.1 rung_count && names e.1 (power_linear (of_bits binary32 e.0))) && edges-test l

edges_at : (l : List (ℕ × ℕ)) → edges-test l ≡ true → AllAt l
edges_at [] t = tt
edges_at (e ∷ l) t =
    let a = ltb e.1 rung_count in
    let b = names e.1 (power_linear (of_bits binary32 e.0)) in
    let h = and_l (a && b) (edges-test l) t in
    (edge e.0 e.1 (ltb-true e.1 rung_count (and_l a b h)) (and_r a b h), edges_at l (and_r (a && b) (edges-test l) t))

pub edges_hold : EdgesHold
unfolding of_bits add le lt eq rung_value root_of ten_to of_int mul round
edges_hold = edges_at edges refl

-- ---- louder power, no lower dB

highest-le : (n : ℕ) (x : Float) → highest_below n x ≤ n
unfolding highest_below
highest-le zero x = omega arith
highest-le (suc n) x = by-test (le (rung_value n) x) (λ t. rw t (omega arith)) (λ t. rw t (omega (arith, highest-le n x)))

highest-rises : (n : ℕ) (x y : Float) → le x y ≡ true → highest_below n x ≤ highest_below n y
unfolding highest_below
highest-rises zero x y h = omega arith
highest-rises (suc n) x y h =
    by-test (le (rung_value n) x)
    (λ t. let u = le_on (rung_value n) x y t h in rw (t, u) (omega arith))
    (λ t.
    by-test (le (rung_value n) y) (λ u. rw (t, u) (highest-le n x)) (λ u. rw (t, u) (highest-rises n x y h)))

db-rises : (a b : ℕ) → a ≤ b → le (rung_db a) (rung_db b) ≡ true
unfolding rung_db of_bits
db-rises a b h =
    let e = div-rises binary64 f8 tt (of_int binary64 (pos a)) (of_int binary64 (pos b)) (of_int-rises binary64 a b h) in
    let x = div binary64 (of_int binary64 (pos a)) f8 in
    let y = div binary64 (of_int binary64 (pos b)) f8 in
    ap₂ le (add_swaps binary64 ladder_min x) (add_swaps binary64 ladder_min y) ∙ add-rises binary64 ladder_min tt x y e

pub louder-power : LouderPower
unfolding power_db highest_rung of_bits
louder-power p q h = db-rises (highest_rung (power_linear p)) (highest_rung (power_linear q)) (highest-rises rung_count (power_linear p) (power_linear q) (add-rises binary64 epsilon tt p q h))

-- ---- refusal 6

db-number : (p : Float) → is_nan (power_db p) ≡ false
unfolding power_db
db-number p = let r = highest_rung (power_linear p) in (le-numbers (rung_db r) (rung_db r) (db-rises r r (omega arith))).0

pub decibels-long : (power : List Float) → length (decibels power) ≡ length power
unfolding decibels
decibels-long power = length-tab (length power) (λ k. power_db (get_or power k f0))

clear : (n : ℕ) (power : List Float) → length power ≡ n → garbled n (decibels power) ≡ false
unfolding garbled decibels
clear n power e =
    none_any (λ k. is_nan (get_or (decibels power) k f0) && ltb 1 (block_size n (k / block_channels))) n
    (λ k h.
    and-false-l (is_nan (get_or (decibels power) k f0)) (ltb 1 (block_size n (k / block_channels)))
    (ap is_nan (get_d-tab (length power) (λ j. power_db (get_or power j f0)) k f0 (omega arith)) ∙ db-number (get_or power k f0)))

-- the refusals of an update from linear power, in their order: the store, then 5
pub linear-refusal : (u : List ℕ) (f : List Float) (power : List Float)
    → update_refusal u f (decibels power) power
    ≡ first (not (eqb (bank_refusal u f) 0)) (bank_refusal u f) (first (differ (length power) (get_or u 0 0)) 5 0)
unfolding update_refusal
linear-refusal u f power =
    let n = get_or u 0 0 in
    ap (first (not (eqb (bank_refusal u f) 0)) (bank_refusal u f))
    (by-test (differ (length power) n) (λ t. rw (decibels-long power, t)) (λ t. rw (decibels-long power, t, clear n power (same_of (length power) n t)) (either (eqb (get_or u 1 0) 0))))
  where
    either : (b : Bool) → ◌≡◌ {A = ℕ} (first (b && false) 6 0) 0
    either true = refl
    either false = refl

-- the numbers of the store's refusals
first-or : (t : Bool) (r rest x : ℕ) → first t r rest ≡ x → (r ≡ x) ⊎ (rest ≡ x)
first-or true r rest x h = inl h
first-or false r rest x h = inr h

of-the-store : (a b c d : Bool) → first a 2 (first b 9 (first c 2 (first d 9 0))) ≡ 6 → ⊥
of-the-store true b c d h = omega arith
of-the-store false true c d h = omega arith
of-the-store false false true d h = omega arith
of-the-store false false false true h = omega arith
of-the-store false false false false h = omega arith

bank-no-six : (u : List ℕ) (f : List Float) → bank_refusal u f ≡ 6 → ⊥
unfolding bank_refusal
bank-no-six u f h =
    let n = get_or u 0 0 in
    of-the-store (ltb (length u) 3) (not (within 1 512 n)) (differ (length u) (bank_len n) || differ (length f) (bank_f_len n)) (not (sound_bank (bank_of u f))) h

answer-is : (r : ℕ) (b : FloorBank) (u : List ℕ) (f : List Float) → (leaves r b u f).0 ≡ r
answer-is zero b u f = refl
answer-is (suc r) b u f = refl

pub never-garbled : NeverGarbled
unfolding bank_update_call
never-garbled u f held power h =
    let r : update_refusal u f (decibels power) power ≡ 6 = sym (answer-is (update_refusal u f (decibels power) power) _ u f) ∙ h in
    ⊎_elim (bank-no-six u f) (λ k. ⊎_elim (λ e. omega arith) (λ e. omega arith) (first-or (differ (length power) (get_or u 0 0)) 5 0 6 k))
    (first-or (not (eqb (bank_refusal u f) 0)) (bank_refusal u f) _ 6 (sym (linear-refusal u f power) ∙ r))
