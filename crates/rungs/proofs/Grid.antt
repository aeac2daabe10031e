-- The rungs' values as a product: each power of ten times each root, row by row. So each power and each root is worked out once while the whole
-- table is computed, and one computation of it stays within the prover's limit of steps. Assumes nothing.
use mathlib.Core.Path.{◌≡◌, refl, ap, ap₂, ◌∙◌}
use mathlib.Core.List.{List, [], ◌∷◌, ◌++◌, map}
use Prim.Native.Nat.{ℕ, zero, suc, ◌+◌, ◌*◌, ◌/◌, ◌%◌, ◌<◌}
use native.Mathlib.Nat.{mul-suc, mul-zero}
use native.Mathlib.Omega.{arith}
use lib.IntN.{pos}
use lib.Ieee.{Float, binary64, mul, of_int}
use Rattle.laws.specs.Lists.{tab, tab_from}
use Rattle.laws.proofs.Tabs.{tab-ext, tab_from-shift, tab_from-append}
use Rattle.model.specs.Layout.{rungs_below, rungs_above}
use Rattle.model.specs.Ladder.{roots, root_of, ten_to, rung_value}
use Rattle.model.specs.Decibels.{rung_values}

-- t times each
unfoldable pub times : Float → List Float → List Float
times t [] = []
times t (x ∷ xs) = mul binary64 x t ∷ times t xs

unfoldable pub grid : List Float → List Float → List Float
grid [] xs = []
grid (t ∷ ts) xs = times t xs ++ grid ts xs

abbrev pub root_floats : List Float
root_floats = map (λ t. of_int binary64 (pos t)) roots

cell : ℕ → ℕ → Float
cell q j = mul binary64 (of_int binary64 (pos (root_of j))) (ten_to q)

value-at : (q j : ℕ) → j < 80 → rung_value (80 * q + j) ≡ cell q j
unfolding rung_value cell
value-at q j h =
    let a : (80 * q + j) % 80 ≡ j = omega arith in
    let b : (80 * q + j) / 80 ≡ q = omega arith in
    rw (a, b)

product : (t : Float) → tab 80 (λ j. mul binary64 (of_int binary64 (pos (root_of j))) t) ≡ times t root_floats
unfolding root_of times
product t = refl

row_is : (q : ℕ) → tab_from (80 * q) 80 rung_value ≡ times (ten_to q) root_floats
unfolding cell
row_is q =
    ap (λ (k : ℕ). tab_from k 80 rung_value) (omega arith) ∙ tab_from-shift (80 * q) 0 80 rung_value
    ∙ tab-ext 80 (λ j. rung_value (80 * q + j)) (cell q) (λ k l. value-at q k l) ∙ product (ten_to q)

pub grid-is : (i n : ℕ) → tab_from (80 * i) (80 * n) rung_value ≡ grid (tab_from i n ten_to) root_floats
unfolding grid
grid-is i zero = ap (λ (k : ℕ). tab_from (80 * i) k rung_value) (mul-zero 80)
grid-is i (suc n) =
    ap (λ (k : ℕ). tab_from (80 * i) k rung_value) (let e : 80 * suc n ≡ 80 + 80 * n = omega (arith, mul-suc 80 n) in e)
    ∙ tab_from-append (80 * i) 80 (80 * n) rung_value
    ∙ ap₂ (λ (a b : List Float). a ++ b) (row_is i)
    (ap (λ (k : ℕ). tab_from k (80 * n) rung_value) (let e : 80 * i + 80 ≡ 80 * suc i = omega (arith, mul-suc 80 i) in e) ∙ grid-is (suc i) n)

-- the whole ladder: a row for every ten dB, and the highest rung
abbrev rows : ℕ
rows = (rungs_below + rungs_above) / 80

abbrev pub ladder : List Float
ladder = grid (tab rows ten_to) root_floats ++ (rung_value (80 * rows) ∷ [])

pub ladder-is : rung_values ≡ ladder
unfolding rung_values
ladder-is = tab_from-append 0 (80 * rows) 1 rung_value ∙ ap (λ (l : List Float). l ++ (rung_value (80 * rows) ∷ [])) (grid-is 0 rows)
