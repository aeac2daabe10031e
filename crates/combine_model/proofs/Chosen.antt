-- Laws on the selection. Assumes nothing.
use mathlib.Core.Path.{◌≡◌, refl, sym, ap, ◌∙◌}
use mathlib.Core.Bool.{Bool, true, false, cond}
use mathlib.Core.List.{List}
use Prim.Native.Nat.{ℕ, ◌%◌, ◌^◌, ◌<◌}
use native.Mathlib.Omega.{arith}
use lib.ListN.{length, get_or}
use Rattle.laws.proofs.Tabs.{length-tab, get_d-tab, tab-ext, tab-get_d}
use Rattle.log_model.specs.Whole.{Below, Hops}
use Rattle.combine_model.specs.Choose.{is_second, chosen_at, selected}
use Rattle.combine_model.proofs.Taken.{below-tab, below-cond}

pub cond_same : {A : Type 0} (t : Bool) (x : A) → cond t x x ≡ x
cond_same true x = refl
cond_same false x = refl

pub length-selected : (p q x y : List ℕ) → length (selected p q x y) ≡ length x
unfolding selected
length-selected p q x y = length-tab (length x) (chosen_at p q x y)

pub selected-at : (p q x y : List ℕ) (i : ℕ) → i < length x → get_or (selected p q x y) i 0 ≡ chosen_at p q x y i
unfolding selected
selected-at p q x y i h = get_d-tab (length x) (chosen_at p q x y) i 0 h

-- a list chosen from itself
pub selected-self : (p x : List ℕ) → selected p p x x ≡ x
unfolding selected
selected-self p x =
    tab-ext (length x) (chosen_at p p x x) (λ k. get_or x k 0) (λ k h. cond_same (is_second (get_or p k 0) (get_or p k 0)) (get_or x k 0)) ∙ tab-get_d x 0 (length x) refl

selected-below : (b : ℕ) (p q x y : List ℕ) → length y ≡ length x → Below b x → Below b y → Below b (selected p q x y)
unfolding selected
selected-below b p q x y e f g =
    below-tab b (length x) (chosen_at p q x y) (λ k h. below-cond b (is_second (get_or p k 0) (get_or q k 0)) (get_or y k 0) (get_or x k 0) (g k (omega arith)) (f k h))

-- the writer takes a selection of hops that it takes
pub hops-selected : (n : ℕ) (d p e q : List ℕ) → Hops n d p → Hops n e q → length e ≡ length d → Hops n (selected p q d e) (selected p q p q)
hops-selected n d p e q h k same =
    record {
      some = h.some;
      most = h.most;
      alike = length-selected p q p q ∙ h.alike ∙ sym (length-selected p q d e);
      whole = ap (λ (l : ℕ). l % n) (length-selected p q d e) ∙ h.whole;
      dbs = selected-below (2 ^ 64) p q d e same h.dbs k.dbs;
      powers = selected-below (2 ^ 32) p q p q (k.alike ∙ same ∙ sym h.alike) h.powers k.powers;
    }
