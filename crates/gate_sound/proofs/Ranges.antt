-- A search over the numbers below n, as the library walks them, and as the definitions say it. Assumes nothing.
use mathlib.Core.Path.{◌≡◌, refl, sym, ap, ap₂, ◌∙◌}
use mathlib.Core.Bool.{Bool, true, false, ◌&&◌, ◌||◌}
use mathlib.Core.List.{List, [], ◌∷◌, map}
use Prim.Native.Nat.{ℕ, zero, suc}
use native.Mathlib.Omega.{arith}
use native.Mathlib.Numerals.{add-one}
use Rattle.std.specs.List.{list_all, list_any, range_with_len}
use Rattle.std.proofs.lemmas.List.Folds.{list_all-append, list_all-map, list_any-append}
use Rattle.std.proofs.lemmas.List.FromFn.{map-range_with_len_more}
use Rattle.laws.specs.Tests.{all_below, any_below}

and-true : (p : Bool) → (p && true) ≡ p
and-true true = refl
and-true false = refl

or-false : (p : Bool) → (p || false) ≡ p
or-false true = refl
or-false false = refl

abbrev range : ℕ → List ℕ
range n = range_with_len 0 n

pub all_in_range : (p : ℕ → Bool) (n : ℕ) → list_all p (range_with_len 0 n) ≡ all_below n p
unfolding all_below
all_in_range p zero = refl
all_in_range p (suc n) =
    sym (list_all-map p (λ k. k) (range (suc n)))
    ∙ ap (λ (k : ℕ). list_all p (map (λ k. k) (range k))) (sym (add-one n))
    ∙ ap (list_all p) (map-range_with_len_more (λ k. k) 0 n n (omega arith))
    ∙ list_all-append p (map (λ k. k) (range n)) (n ∷ [])
    ∙ ap₂ (λ (a b : Bool). a && b) (list_all-map p (λ k. k) (range n) ∙ all_in_range p n) (and-true (p n))

any_as_it_is : (p : ℕ → Bool) (xs : List ℕ) → list_any p (map (λ k. k) xs) ≡ list_any p xs
any_as_it_is p [] = refl
any_as_it_is p (x ∷ xs) = ap (λ (b : Bool). p x || b) (any_as_it_is p xs)

pub any_in_range : (p : ℕ → Bool) (n : ℕ) → list_any p (range_with_len 0 n) ≡ any_below n p
unfolding any_below
any_in_range p zero = refl
any_in_range p (suc n) =
    sym (any_as_it_is p (range (suc n)))
    ∙ ap (λ (k : ℕ). list_any p (map (λ k. k) (range k))) (sym (add-one n))
    ∙ ap (list_any p) (map-range_with_len_more (λ k. k) 0 n n (omega arith))
    ∙ list_any-append p (map (λ k. k) (range n)) (n ∷ [])
    ∙ ap₂ (λ (a b : Bool). a || b) (any_as_it_is p (range n) ∙ any_in_range p n) (or-false (p n))
