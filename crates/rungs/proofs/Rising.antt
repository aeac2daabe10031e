-- The rungs rise strictly: one test over the whole table, which antt computes. So the rungs at most x are the lowest ones. Assumes nothing.
use mathlib.Core.Path.{◌≡◌, refl, sym, ap, ap₂, ◌∙◌}
use mathlib.Core.Bool.{Bool, true, false, cond, ◌&&◌}
use mathlib.Core.List.{List, [], ◌∷◌}
use mathlib.Core.Logic.{◌⊎◌, inl, inr}
use Prim.Native.Nat.{ℕ, zero, suc, ◌+◌, ◌-◌, ◌<◌, ◌≤◌}
use native.Mathlib.Nat.{add-zero, add-suc}
use native.Mathlib.Omega.{arith}
use lib.Dec.{ltb}
use borrow.Author.Tests.{ltb-true, ltb-false}
use lib.ListN.{length, get_or}
use lib.Ieee.{Float, nan, lt, le, mul, of_int, round}
use Rattle.laws.proofs.Tests.{and_l, and_r, clash, by-test}
use Rattle.laws.proofs.Tabs.{length-tab, get_d-tab}
use Rattle.laws.proofs.Order.{lt-le}
use Rattle.model.specs.Layout.{rung_count}
use Rattle.model.specs.Ladder.{root_of, ten_to, rung_value}
use Rattle.model.specs.Decibels.{rung_values, highest_below, highest_rung}
use Rattle.model.proofs.Decibels.{at-most-below}
use Rattle.std.specs.List.{AllWithin}
use Rattle.std.specs.List.Sorted.{IsPartitionedBy}
use Rattle.rungs.specs.Rising.{Rising}
use Rattle.rungs.proofs.Grid.{times, grid, ladder, ladder-is}

unfoldable rises_from : Float → List Float → Bool
rises_from x [] = true
rises_from x (y ∷ l) = lt x y && rises_from y l

unfoldable rises : List Float → Bool
unfolding rises_from
rises [] = true
rises (x ∷ l) = rises_from x l

ladder-rises : rises ladder ≡ true
unfolding rises rises_from grid times root_of ten_to rung_value round of_int mul lt
ladder-rises = refl

from_at : (x : Float) (l : List Float) (k : ℕ) → rises_from x l ≡ true → k < length l → lt (get_or (x ∷ l) k nan) (get_or l k nan) ≡ true
unfolding rises_from
from_at x [] k h g = absurd (omega arith)
from_at x (y ∷ l) zero h g = and_l (lt x y) (rises_from y l) h
from_at x (y ∷ l) (suc k) h g = from_at y l k (and_r (lt x y) (rises_from y l) h) (omega arith)

rises-at : (l : List Float) (k : ℕ) → rises l ≡ true → suc k < length l → lt (get_or l k nan) (get_or l (suc k) nan) ≡ true
unfolding rises
rises-at [] k h g = absurd (omega arith)
rises-at (x ∷ l) k h g = from_at x l k h (omega arith)

pub rising : Rising
unfolding rung_values
rising r h =
    ap₂ lt (sym (get_d-tab rung_count rung_value r nan (omega arith))) (sym (get_d-tab rung_count rung_value (suc r) nan h))
    ∙ rises-at rung_values r (ap rises ladder-is ∙ ladder-rises) (omega (arith, length-tab rung_count rung_value))

-- ---- the search

-- from a rung that is above x on there is none at most x
none_above : (m d : ℕ) (x : Float) → m + d ≤ rung_count → le (rung_value m) x ≡ false → highest_below (m + d) x ≡ highest_below m x
unfolding highest_below
none_above m zero x g h = rw add-zero
none_above m (suc d) x g h =
    rw add-suc
    (by-test (le (rung_value (m + d)) x)
    (λ t. clash (sym (at-most-below (λ r l. lt-le (rung_value r) (rung_value (suc r)) (rising r l)) m d x (omega arith) t) ∙ h))
    (λ t. rw t (none_above m d x (omega arith) h)))

-- an entry of the table, whatever stands beyond its end
pub entry : (t : List Float) (r : ℕ) (d : Float) → t ≡ rung_values → r < rung_count → get_or t r d ≡ rung_value r
unfolding rung_values
entry t r d e h = ap (λ (l : List Float). get_or l r d) e ∙ get_d-tab rung_count rung_value r d h

-- the highest stands below m, above which there is none at most x
pub goes_down : (m high : ℕ) (x : Float) → m ≤ high → high ≤ rung_count → highest_below high x ≡ highest_rung x → le (rung_value m) x ≡ false
    → highest_below m x ≡ highest_rung x
goes_down m high x a b e h =
    let s : m + (high - m) ≡ high = omega arith in
    sym (none_above m (high - m) x (omega arith) h) ∙ ap (λ (k : ℕ). highest_below k x) s ∙ e

all : (x : Float) → highest_below rung_count x ≡ highest_rung x
unfolding highest_rung
all x = refl

-- one rung is left
pub ends : (low high : ℕ) (x : Float) → high ≡ suc low → highest_below high x ≡ highest_rung x → (low ≡ 0) ⊎ (le (rung_value low) x ≡ true)
    → low ≡ highest_rung x
unfolding highest_below
ends low high x s e (inr h) = sym (rw h) ∙ ap (λ (k : ℕ). highest_below k x) (sym s) ∙ e
ends low high x s e (inl z) =
    z ∙ sym (lowest (le (rung_value 0) x)) ∙ ap (λ (k : ℕ). highest_below k x) (let o : ◌≡◌ {A = ℕ} 1 high = omega arith in o) ∙ e
  where
    lowest : (b : Bool) → ◌≡◌ {A = ℕ} (cond b 0 0) 0
    lowest true = refl
    lowest false = refl

-- no rung that is at most x comes after one that is not
pub parted : (t : List Float) (x : Float) → t ≡ rung_values → IsPartitionedBy (λ v. le v x) t
unfolding rung_values
parted t x e i j d a h g =
    let n : length t ≡ rung_count = ap length e ∙ length-tab rung_count rung_value in
    let s : i + (j - i) ≡ j = omega arith in
    ap (λ (v : Float). le v x) (entry t i d e (omega arith))
    ∙ at-most-below (λ r l. lt-le (rung_value r) (rung_value (suc r)) (rising r l)) i (j - i) x (omega arith)
    (ap (λ (k : ℕ). le (rung_value k) x) s ∙ sym (ap (λ (v : Float). le v x) (entry t j d e (omega arith))) ∙ g)

-- before m rungs are at most x, and from m on none is
pub point-is : (t : List Float) (x : Float) (m : ℕ) → t ≡ rung_values → m ≤ rung_count → AllWithin (λ v. le v x ≡ true) t 0 m
    → AllWithin (λ v. le v x ≡ false) t m rung_count → m - 1 ≡ highest_rung x
unfolding highest_below
point-is t x zero e h at above =
    (let z : 0 - 1 ≡ 0 = omega arith in z)
    ∙ goes_down 0 rung_count x (omega arith) (omega arith) (all x) (sym (ap (λ (v : Float). le v x) (entry t 0 nan e (omega arith))) ∙ above 0 nan (omega arith) (omega arith))
point-is t x (suc m) e h at above =
    (let z : suc m - 1 ≡ m = omega arith in z)
    ∙ ends m (suc m) x refl
    (by-test (ltb (suc m) rung_count)
    (λ s.
    let lt : suc m < rung_count = ltb-true (suc m) rung_count s in
    goes_down (suc m) rung_count x h (omega arith) (all x) (sym (ap (λ (v : Float). le v x) (entry t (suc m) nan e lt)) ∙ above (suc m) nan (omega arith) lt))
    (λ s. let w : suc m ≡ rung_count = omega (arith, ltb-false (suc m) rung_count s) in ap (λ (k : ℕ). highest_below k x) w ∙ all x))
    (inr (sym (ap (λ (v : Float). le v x) (entry t m nan e h)) ∙ at m nan (omega arith) (omega arith)))
