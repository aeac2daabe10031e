-- Laws for a loop that turns a list into another from the front on, entry by entry or row by row, beside other lists. Assumes nothing.
use mathlib.Core.Path.{◌≡◌, refl, sym, ap, ap₂, ◌∙◌}
use mathlib.Core.List.{List, ◌++◌, append_assoc, append-nil}
use Prim.Native.Nat.{ℕ, ◌+◌, ◌*◌, ◌<◌, ◌≤◌}
use native.Mathlib.Nat.{mul-suc, zero-add, add-zero}
use native.Mathlib.Numerals.{add-one}
use native.Mathlib.Omega.{arith}
use lib.ListN.{length, get_or, set, take, drop, length-append, length-drop, take-append-drop, drop_of_length-le, length-take}
use lib.Seq.{drop-drop, set-append_left, get_or-append-add, get_or-drop}
use Rattle.laws.specs.Lists.{part, tab, joined}
use Rattle.laws.proofs.Counting.{set-append-add}
use Rattle.laws.proofs.Tabs.{length-tab, fill-next, tab-snoc, joined_snoc, length-joined}

module _ {A : Type 0} where
  -- a place past a first list
  pub set-skip : (p l : List A) (a i j : ℕ) (v : A) → length p ≡ a → j ≡ a + i → set (p ++ l) j v ≡ p ++ set l i v
  set-skip p l a i j v e h = set-append-add p l i v j (omega arith)

  pub get_d-skip : (p l : List A) (a i j : ℕ) (d : A) → length p ≡ a → j ≡ a + i → get_or (p ++ l) j d ≡ get_or l i d
  get_d-skip p l a i j d e h = ap (λ (k : ℕ). get_or (p ++ l) k d) (let z : j ≡ length p + i = omega arith in z) ∙ get_or-append-add p l i d

  -- the first k entries are those of f
  abbrev pub begun : ℕ → (ℕ → A) → List A → List A
  begun k f l = tab k f ++ drop k l

  pub begun-long : (k : ℕ) (f : ℕ → A) (l : List A) → k ≤ length l → length (begun k f l) ≡ length l
  begun-long k f l h = omega (arith, length-append (tab k f) (drop k l), length-tab k f, length-drop k l)

  -- entry k is still the old one
  pub begun-at : (k : ℕ) (f : ℕ → A) (l : List A) (d : A) → get_or (begun k f l) k d ≡ get_or l k d
  begun-at k f l d =
      get_d-skip (tab k f) (drop k l) k 0 k d (length-tab k f) (sym (add-zero k)) ∙ get_or-drop k l 0 d ∙ ap (λ (i : ℕ). get_or l i d) (add-zero k)

  pub begun-next : (k : ℕ) (f : ℕ → A) (l : List A) (v : A) → k < length l → v ≡ f k → set (begun k f l) k v ≡ begun (k + 1) f l
  begun-next k f l v h e = fill-next 0 k k l (begun k f l) f v (sym (zero-add k)) (omega arith) refl e

  pub begun-done : (k : ℕ) (f : ℕ → A) (l : List A) → length l ≡ k → begun k f l ≡ tab k f
  begun-done k f l e = ap (λ (r : List A). tab k f ++ r) (drop_of_length-le l {i = k} (omega arith)) ∙ append-nil (tab k f)

-- ---- rows of width w

module _ {A : Type 0} (w : ℕ) where
  -- the first k rows are those of f
  abbrev pub rowed : ℕ → (ℕ → List A) → List A → List A
  rowed k f l = joined (tab k f) ++ drop (w * k) l

module _ {A : Type 0} (w k : ℕ) (f : ℕ → List A) (l : List A) (wide : (j : ℕ) → j < k → length (f j) ≡ w) where
  pub rowed-long : w * k ≤ length l → length (rowed w k f l) ≡ length l
  rowed-long h = omega (arith, length-append (joined (tab k f)) (drop (w * k) l), length-joined w k f wide, length-drop (w * k) l)

  -- row k is still the old one
  pub rowed-at : (i : ℕ) (d : A) → get_or (rowed w k f l) (w * k + i) d ≡ get_or l (w * k + i) d
  rowed-at i d = get_d-skip (joined (tab k f)) (drop (w * k) l) (w * k) i (w * k + i) d (length-joined w k f wide) refl ∙ get_or-drop (w * k) l i d

  -- one place of row k is written
  pub rowed-next : (i : ℕ) (v : A) → i < w → w * k + w ≤ length l → set (part (w * k) w l) i v ≡ f k
      → set (rowed w k f l) (w * k + i) v ≡ rowed w (k + 1) f l
  rowed-next i v h n e =
      set-skip J D (w * k) i (w * k + i) v (length-joined w k f wide) refl
      ∙ ap (λ (r : List A). J ++ set r i v) (sym (take-append-drop w D))
      ∙ ap (λ (r : List A). J ++ r)
      (set-append_left (take w D) (drop w D) i v (omega (arith, length-take w D, length-drop (w * k) l))
      ∙ ap₂ (λ (r s : List A). r ++ s) e (drop-drop w (w * k) l))
      ∙ sym (append_assoc J (f k) (drop (w * k + w) l))
      ∙ ap₂ (λ (r : List A) (j : ℕ). r ++ drop j l) (sym (joined_snoc (tab k f) (f k)) ∙ ap joined (sym (tab-snoc k f)))
      (sym (mul-suc w k) ∙ ap (λ (j : ℕ). w * j) (sym (add-one k)))
    where
      J : List A
      J = joined (tab k f)

      D : List A
      D = drop (w * k) l

  pub rowed-done : length l ≡ w * k → rowed w k f l ≡ joined (tab k f)
  rowed-done e = ap (λ (r : List A). joined (tab k f) ++ r) (drop_of_length-le l {i = w * k} (omega arith)) ∙ append-nil (joined (tab k f))
