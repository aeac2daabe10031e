-- Marks: one test, and one test after another. Assumes nothing.
use mathlib.Core.Path.{◌≡◌, refl, sym, ◌∙◌}
use mathlib.Core.Bool.{Bool, true, false, ◌||◌}
use mathlib.Core.List.{List}
use Prim.Native.Nat.{ℕ, zero, suc}
use lib.ListN.{length, get_or}
use Rattle.laws.specs.Lists.{tab, one}
use Rattle.laws.proofs.Tabs.{tab-ext, tab-get_d}
use Rattle.window_rises.specs.Marking.{marked}

-- a mark that is there, a channel without one, and a test that fails
pub marked-stays : (x : ℕ) (b : Bool) → (x ≡ 0 → ⊥) → x ≡ marked x b
marked-stays zero b h = absurd (h refl)
marked-stays (suc x) b h = refl

pub marked-anew : (x : ℕ) (b : Bool) → x ≡ 0 → one b ≡ marked x b
marked-anew x b h = rw h

pub marked-not : (x : ℕ) (b : Bool) → b ≡ false → x ≡ marked x b
marked-not zero b h = rw h
marked-not (suc x) b h = refl

-- the marks of which no test holds stay
pub none-marked : (l : List ℕ) (p : ℕ → Bool) → ((k : ℕ) → p k ≡ false) → l ≡ tab (length l) (λ k. marked (get_or l k 0) (p k))
none-marked l p h = sym (tab-get_d l 0 (length l) refl) ∙ tab-ext (length l) _ _ (λ k _. marked-not (get_or l k 0) (p k) (h k))

-- a test as a mark, and two tests one after another
pub marked-one : (a b : Bool) → marked (one a) b ≡ one (a || b)
marked-one true b = refl
marked-one false b = refl

pub marked-twice : (x : ℕ) (a b : Bool) → marked (marked x a) b ≡ marked x (a || b)
marked-twice zero a b = marked-one a b
marked-twice (suc x) a b = refl
