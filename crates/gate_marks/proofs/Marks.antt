-- What the gate marks of a channel, from its stores. Assumes nothing.
use mathlib.Core.Path.{◌≡◌, refl, sym, ap, ap₂, ◌∙◌}
use mathlib.Core.Bool.{Bool, false, not, ◌&&◌, ◌||◌}
use mathlib.Core.List.{List}
use Prim.Native.Nat.{ℕ, ◌+◌, ◌-◌, ◌<◌}
use native.Mathlib.Nat.{zero-add}
use native.Mathlib.Numerals.{add-one}
use native.Mathlib.Omega.{arith}
use lib.Dec.{eqb}
use lib.ListN.{length, get_or}
use lib.Ieee.{Float, nan, binary64, add, le, lt}
use borrow.Author.Tests.{eq-eqb, ne_eqb}
use Rattle.laws.specs.Lists.{part, tab, one}
use Rattle.laws.specs.Tests.{any_below}
use Rattle.laws.proofs.Lists.{get_d_part}
use Rattle.laws.proofs.Tabs.{length-tab, get_d-tab, tab-ext, tab-same}
use Rattle.laws.proofs.Defaults.{get_d_any}
use Rattle.model.specs.Numbers.{f0}
use Rattle.model.specs.Bank.{FloorBank}
use Rattle.model.specs.Readings.{effective_at}
use Rattle.model.specs.Windows.{any_rises}
use Rattle.model.specs.Gate.{Gate, level_of, early_rise, window_rise, is_drop_at, rise_bytes, drop_bytes}
use Rattle.model.specs.GateStores.{pair_start, gate_of}
use Rattle.model.specs.GoodGate.{GateReady}
use Rattle.model.proofs.GoodGates.{n-of, threshold-of}
use Rattle.window_rises.specs.Marking.{marked}
use Rattle.window_rises.proofs.Marking.{none-marked, marked-one, marked-twice}
use Rattle.gate_cursors.proofs.Lengths.{smooth-within, rises_at, any-is}

-- ---- one channel

pub smooth-at : (u : List ℕ) (f : List Float) (k : ℕ) → GateReady u f → k < get_or u 0 0 → get_or f k nan ≡ get_or (gate_of u f).smooth k f0
unfolding gate_of
smooth-at u f k r h =
    get_d_any f k nan f0 (omega (arith, smooth-within u f r))
    ∙ sym (get_d_part 0 (get_or u 0 0) f k f0 h ∙ ap (λ (i : ℕ). get_or f i f0) (zero-add k))

module _ (u : List ℕ) (f : List Float) (b : FloorBank) (k : ℕ) (r : GateReady u f) (h : k < get_or u 0 0) where
  module _ (e : Float) (q : e ≡ effective_at b k) where
    pub early-is : (not (eqb (get_or u 4 0) 65535) && le (add binary64 e (level_of (get_or u 4 0))) (get_or f k nan)) ≡ early_rise (gate_of u f) b k
    unfolding early_rise gate_of
    early-is = λ i. not (eqb (get_or u 4 0) 65535) && le (add binary64 (q i) (level_of (get_or u 4 0))) (smooth-at u f k r h i)

    pub drop-is : lt (get_or f k nan) (add binary64 e (level_of (get_or u 3 0))) ≡ is_drop_at (gate_of u f) b k
    unfolding is_drop_at gate_of
    drop-is = λ i. lt (smooth-at u f k r h i) (add binary64 (q i) (level_of (get_or u 3 0)))

-- ---- the windows, length by length

-- the remembered thresholds, the last n floats
pub thresholds-are : (u : List ℕ) (f : List Float) (n : ℕ) → GateReady u f → n ≡ get_or u 0 0
    → part (length f - n) (length f - (length f - n)) f ≡ (gate_of u f).threshold
thresholds-are u f n r e =
    let a : length f - n ≡ pair_start u + get_or u 0 0 = omega (arith, r.long_f) in
    let w : length f - (length f - n) ≡ get_or u 0 0 = omega (arith, r.long_f) in
    ap₂ (λ (b v : ℕ). part b v f) a w ∙ sym (threshold-of u f)

module _ (u : List ℕ) (f : List Float) where
  -- length j rises for channel k
  abbrev pub rises : ℕ → ℕ → Bool
  rises k = rises_at u f (get_or (gate_of u f).threshold k f0) k

  pub window-is : (k : ℕ) → any_below (get_or u 5 0) (rises k) ≡ window_rise (gate_of u f) k
  unfolding window_rise
  window-is k =
      any-is u f (get_or (gate_of u f).threshold k f0) k
      ∙ ap (λ (n : ℕ). any_rises n (get_or (gate_of u f).threshold k f0) k (gate_of u f).looks) (sym (n-of u f))

  module _ (l₀ : List ℕ) where
    -- the mark of channel k once the first j lengths are tested, l₀ the marks before
    abbrev pub mark_after : ℕ → ℕ → ℕ
    mark_after j k = marked (get_or l₀ k 0) (any_below j (rises k))

    pub none_yet : l₀ ≡ tab (length l₀) (mark_after 0)
    unfolding any_below
    none_yet = none-marked l₀ _ (λ k. refl)

    pub one_more : (j n : ℕ) (l : List ℕ) → l ≡ tab n (mark_after j) → tab n (λ k. marked (get_or l k 0) (rises k j)) ≡ tab n (mark_after (j + 1))
    unfolding any_below
    one_more j n l e =
        tab-ext n _ _
        (λ k h.
        ap (λ (x : ℕ). marked x (rises k j)) (ap (λ (m : List ℕ). get_or m k 0) e ∙ get_d-tab n (mark_after j) k 0 h)
        ∙ marked-twice (get_or l₀ k 0) (any_below j (rises k)) (rises k j)
        ∙ ap (λ (i : ℕ). mark_after i k) (sym (add-one j)))

    pub all_tested : (j n : ℕ) → j ≡ get_or u 5 0 → tab n (mark_after j) ≡ tab n (λ k. marked (get_or l₀ k 0) (window_rise (gate_of u f) k))
    all_tested j n e =
        tab-ext n _ _ (λ k _. ap (λ (b : Bool). marked (get_or l₀ k 0) b) (ap (λ (i : ℕ). any_below i (rises k)) e ∙ window-is k))

-- ---- early rise alone

-- s is the header's started
pub before-first : (s : ℕ) (e : Bool) → s ≡ 0 → false ≡ (not (eqb s 0) && e)
before-first s e h = rw (eq-eqb s 0 h)

pub after_first : (s : ℕ) (b e : Bool) → (s ≡ 0 → ⊥) → b ≡ e → b ≡ (not (eqb s 0) && e)
after_first s b e h q = rw (ne_eqb s 0 h) q

-- ---- all channels

-- the early rise first, and then the windows; l the marks between the two
pub both-tested : (g : Gate) (b : FloorBank) (n : ℕ) (l r : List ℕ) → l ≡ tab n (λ k. one (early_rise g b k))
    → r ≡ tab (length l) (λ k. marked (get_or l k 0) (window_rise g k)) → r ≡ tab n (λ k. one (early_rise g b k || window_rise g k))
both-tested g b n l r e h =
    let long : length l ≡ n = ap length e ∙ length-tab n (λ k. one (early_rise g b k)) in
    h
    ∙ tab-same (length l) n _ _ long
    (λ k lt.
    ap (λ (x : ℕ). marked x (window_rise g k)) (ap (λ (m : List ℕ). get_or m k 0) e ∙ get_d-tab n (λ i. one (early_rise g b i)) k 0 (omega arith))
    ∙ marked-one (early_rise g b k) (window_rise g k))

module _ (g : Gate) (b : FloorBank) (n : ℕ) (l : List ℕ) (e : n ≡ g.n) where
  module _ (z : g.started ≡ 0 → ⊥) where
    pub rises-marked : l ≡ tab n (λ k. one (early_rise g b k || window_rise g k)) → l ≡ rise_bytes g b
    unfolding rise_bytes
    rises-marked h =
        h
        ∙ tab-same n g.n _ _ e
        (λ k _. ap (λ (t : Bool). one (not t && (early_rise g b k || window_rise g k))) (sym (ne_eqb g.started 0 z)))

    pub drops-marked : l ≡ tab n (λ k. one (is_drop_at g b k)) → l ≡ drop_bytes g b
    unfolding drop_bytes
    drops-marked h = h ∙ tab-same n g.n _ _ e (λ k _. ap (λ (t : Bool). one (not t && is_drop_at g b k)) (sym (ne_eqb g.started 0 z)))

  module _ (z : g.started ≡ 0) (h : l ≡ tab n (λ k. 0)) where
    pub rises-cleared : l ≡ rise_bytes g b
    unfolding rise_bytes
    rises-cleared =
        h
        ∙ tab-same n g.n _ _ e
        (λ k _. ap (λ (t : Bool). one (not t && (early_rise g b k || window_rise g k))) (sym (eq-eqb g.started 0 z)))

    pub drops-cleared : l ≡ drop_bytes g b
    unfolding drop_bytes
    drops-cleared = h ∙ tab-same n g.n _ _ e (λ k _. ap (λ (t : Bool). one (not t && is_drop_at g b k)) (sym (eq-eqb g.started 0 z)))
