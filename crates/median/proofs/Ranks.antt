-- Laws on the search for the first value that stands at a rank. Assumes nothing.
use mathlib.Core.Path.{◌≡◌, refl, sym, ap, ◌∙◌}
use mathlib.Core.Bool.{Bool, true, false, cond}
use mathlib.Core.List.{List}
use Prim.Native.Nat.{ℕ, ◌+◌, ◌-◌, ◌<◌, ◌≤◌, min}
use lib.Dec.{leb}
use borrow.Author.Tests.{leb-true, leb-false}
use native.Mathlib.Numerals.{add-one}
use native.Mathlib.Omega.{arith}
use lib.ListN.{length, get_or, take, drop, length-drop}
use lib.Seq.{take_all, drop-cons, drop-length}
use lib.Ieee.{Float}
use Rattle.model.specs.Numbers.{f0}
use Rattle.model.specs.Bank.{stands_at, first_at, ranked}

-- a part of width w, cut where the list ends
pub cut : (a w e : ℕ) (l : List Float) → a ≤ length l → e ≡ min (a + w) (length l) → take (e - a) (drop a l) ≡ take w (drop a l)
cut a w e l h z = by (leb (a + w) (length l)) refl
  where
    by : (b : Bool) → leb (a + w) (length l) ≡ b → take (e - a) (drop a l) ≡ take w (drop a l)
    by true t =
        let k : a + w ≤ length l = leb-true (a + w) (length l) t in
        ap (λ (v : ℕ). take v (drop a l)) (let q : e - a ≡ w = omega arith in q)
    by false t =
        let k : length l < a + w = leb-false (a + w) (length l) t in
        take_all (e - a) (drop a l) (omega (arith, length-drop a l)) ∙ sym (take_all w (drop a l) (omega (arith, length-drop a l)))

-- what is still to be searched decides: none of the first i stands at the rank
pub record Search (r : ℕ) (l : List Float) (i : ℕ) : Type 0 where
  pub within : i ≤ length l
  pub rest : ranked r l ≡ first_at r l (get_or l 0 f0) (drop i l)

pub begins : (r : ℕ) (l : List Float) → Search r l 0
unfolding ranked
begins r l = record { within = omega arith; rest = refl }

looks : (r : ℕ) (l : List Float) (i : ℕ) (d : Float) → Search r l i → i < length l
    → ranked r l ≡ cond (stands_at r l (get_or l i d)) (get_or l i d) (first_at r l (get_or l 0 f0) (drop (i + 1) l))
unfolding first_at
looks r l i d s h =
    s.rest
    ∙ ap (first_at r l (get_or l 0 f0)) (drop-cons l i d h)
    ∙ ap (λ (k : ℕ). cond (stands_at r l (get_or l i d)) (get_or l i d) (first_at r l (get_or l 0 f0) (drop k l))) (sym (add-one i))

pub found : (r : ℕ) (l : List Float) (i : ℕ) (d : Float) → Search r l i → i < length l → stands_at r l (get_or l i d) ≡ true → get_or l i d ≡ ranked r l
found r l i d s h t = sym (looks r l i d s h ∙ rw t)

pub goes_on : (r : ℕ) (l : List Float) (i : ℕ) (d : Float) → Search r l i → i < length l → stands_at r l (get_or l i d) ≡ false → Search r l (i + 1)
goes_on r l i d s h t = record { within = omega arith; rest = looks r l i d s h ∙ rw t }

pub ends : (r : ℕ) (l : List Float) (i : ℕ) → Search r l i → length l ≤ i → get_or l 0 f0 ≡ ranked r l
unfolding first_at
ends r l i s h =
    let e : i ≡ length l = omega arith in
    sym (s.rest ∙ ap (first_at r l (get_or l 0 f0)) (ap (λ (k : ℕ). drop k l) e ∙ drop-length l))
