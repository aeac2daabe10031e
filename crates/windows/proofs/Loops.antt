-- What the loops over the channels of one length read and leave: of the windows s of n channels, the first k are done.
-- Assumes nothing.
use mathlib.Core.Path.{◌≡◌, refl, sym, ap, ap₂, ◌∙◌}
use mathlib.Core.List.{List, ◌++◌}
use Prim.Native.Nat.{ℕ, ◌+◌, ◌-◌, ◌*◌, ◌<◌, ◌≤◌}
use native.Mathlib.Nat.{mul-zero}
use native.Mathlib.Numerals.{add-one}
use native.Mathlib.Omega.{arith}
use lib.ListN.{length, get_or, set, take, drop, length-set, drop_of_length-le, get_or-append}
use lib.Seq.{set-append_left, take_at, drop_at, drop-cons}
use lib.Ieee.{Float, binary64, add, sub, nan}
use Rattle.laws.specs.Lists.{part, joined}
use Rattle.laws.proofs.Lists.{width, row, get_d_part, length_part, part-add}
use Rattle.laws.proofs.Defaults.{get_d_any}
use Rattle.model.specs.Numbers.{f0}
use Rattle.model.specs.Windows.{PowerLooks, ring_of, old_at, middle_at, middle_of, push_look, rebase_look, total}
use Rattle.model.specs.GateStores.{look_f}
use Rattle.model.proofs.WindowStores.{Shaped, rings_long, ring-part, part-front}
use Rattle.windows.proofs.Begun.{begun, begun-long, begun-at, begun-next, begun-done, set-skip, get_d-skip, rowed, rowed-long, rowed-at, rowed-next, rowed-done}

-- the rings as they stand in the part
abbrev flat : PowerLooks → List Float
flat s = joined s.rings

-- ---- the sums, after the a entries of p: recent n, previous n, of which k are written

module _ (f g : ℕ → Float) (p r q : List Float) (a n k : ℕ) (long : length p ≡ a) (r-long : length r ≡ n) (q_long : length q ≡ n) (h : k < n) where
  begun-r : length (begun k f r) ≡ n
  begun-r = begun-long k f r (omega arith) ∙ r-long

  recent-at : get_or (p ++ (begun k f r ++ begun k g q)) (a + k) nan ≡ get_or r k f0
  recent-at =
      get_d-skip p (begun k f r ++ begun k g q) a k (a + k) nan long refl
      ∙ get_or-append (begun k f r) (begun k g q) nan k (omega (arith, begun-r))
      ∙ begun-at k f r nan
      ∙ get_d_any r k nan f0 (omega arith)

  previous-at : get_or (p ++ (begun k f r ++ begun k g q)) (a + n + k) nan ≡ get_or q k f0
  previous-at =
      get_d-skip p (begun k f r ++ begun k g q) a (n + k) (a + n + k) nan long (omega arith)
      ∙ get_d-skip (begun k f r) (begun k g q) n k (n + k) nan begun-r refl
      ∙ begun-at k g q nan
      ∙ get_d_any q k nan f0 (omega arith)

  sums-turn : (x y : Float) → x ≡ g k → y ≡ f k
      → set (set (p ++ (begun k f r ++ begun k g q)) (a + n + k) x) (a + k) y ≡ p ++ (begun (k + 1) f r ++ begun (k + 1) g q)
  sums-turn x y ex ey =
      ap (λ (l : List Float). set l (a + k) y)
      (set-skip p (begun k f r ++ begun k g q) a (n + k) (a + n + k) x long (omega arith)
      ∙ ap (λ (l : List Float). p ++ l)
      (set-skip (begun k f r) (begun k g q) n k (n + k) x begun-r refl
      ∙ ap (λ (l : List Float). begun k f r ++ l) (begun-next k g q x (omega arith) ex)))
      ∙ set-skip p (begun k f r ++ begun (k + 1) g q) a k (a + k) y long refl
      ∙ ap (λ (l : List Float). p ++ l)
      (set-append_left (begun k f r) (begun (k + 1) g q) k y (omega (arith, begun-r))
      ∙ ap (λ (l : List Float). l ++ begun (k + 1) g q) (begun-next k f r y (omega arith) ey))

-- ---- each channel takes its sample

abbrev ring_after : (ℕ → Float) → PowerLooks → ℕ → List Float
ring_after sample s k = set (ring_of s k) s.cursor (sample k)

abbrev recent_after : (ℕ → Float) → PowerLooks → ℕ → Float
recent_after sample s k = add binary64 (get_or s.recent k f0) (sub binary64 (sample k) (middle_at s k))

abbrev previous_after : (ℕ → Float) → PowerLooks → ℕ → Float
previous_after sample s k = add binary64 (get_or s.previous k f0) (sub binary64 (middle_at s k) (old_at s k))

abbrev pub pushed_to : (ℕ → Float) → PowerLooks → ℕ → List Float
pushed_to sample s k =
    rowed (2 * s.m) k (ring_after sample s) (flat s)
    ++ (begun k (recent_after sample s) s.recent ++ begun k (previous_after sample s) s.previous)

module _ (sample : ℕ → Float) (n : ℕ) (s : PowerLooks) (sh : Shaped n s) where
  after-long : (j : ℕ) → j < n → length (ring_after sample s j) ≡ 2 * s.m
  after-long j h = length-set (ring_of s j) s.cursor (sample j) ∙ sh.ring_long j h

  pub push-begins : look_f s ≡ pushed_to sample s 0
  push-begins = ap (λ (a : ℕ). drop a (flat s) ++ (s.recent ++ s.previous)) (sym (mul-zero (2 * s.m)))

  pub push-done : pushed_to sample s n ≡ look_f (push_look n sample s)
  unfolding push_look
  push-done = λ i.
      rowed-done (2 * s.m) n (ring_after sample s) (flat s) after-long (rings_long n s sh) i
      ++ (begun-done n (recent_after sample s) s.recent sh.recent_long i ++ begun-done n (previous_after sample s) s.previous sh.previous_long i)

  module _ (k : ℕ) (h : k < n) (c : s.cursor < 2 * s.m) where
    abbrev W : ℕ
    W = 2 * s.m

    abbrev A : List Float
    A = rowed W k (ring_after sample s) (flat s)

    wide : (j : ℕ) → j < k → length (ring_after sample s j) ≡ W
    wide j l = after-long j (omega arith)

    A-long : length A ≡ W * n
    A-long = rowed-long W k (ring_after sample s) (flat s) wide (omega (arith, rings_long n s sh, row W k n h)) ∙ rings_long n s sh

    ring-at : (i : ℕ) → i < W → get_or (pushed_to sample s k) (W * k + i) nan ≡ get_or (ring_of s k) i f0
    ring-at i b =
        get_or-append A _ nan (W * k + i) (omega (arith, A-long, row W k n h))
        ∙ rowed-at W k (ring_after sample s) (flat s) wide i nan
        ∙ sym (get_d_part (W * k) W (flat s) i nan b)
        ∙ ap (λ (r : List Float). get_or r i nan) (ring-part n s sh k h)
        ∙ get_d_any (ring_of s k) i nan f0 (omega (arith, sh.ring_long k h))

    -- what channel k's turn reads of l, and writes to it
    pub push-turns : (mid : ℕ) (l : List Float) (v : Float) → mid ≡ middle_of s.m s.cursor → mid < W → l ≡ pushed_to sample s k → v ≡ sample k
        → set
        (set
        (set l (W * n + n + k) (add binary64 (get_or l (W * n + n + k) nan) (sub binary64 (get_or l (W * k + mid) nan) (get_or l (W * k + s.cursor) nan))))
        (W * n + k) (add binary64 (get_or l (W * n + k) nan) (sub binary64 v (get_or l (W * k + mid) nan))))
        (W * k + s.cursor) v
        ≡ pushed_to sample s (k + 1)
    push-turns mid l v em b is ev =
        (λ i.
        set
        (set
        (set (is i) (W * n + n + k) (add binary64 (previous i) (sub binary64 (middle i) (old i))))
        (W * n + k) (add binary64 (recent i) (sub binary64 (ev i) (middle i))))
        (W * k + s.cursor) (ev i))
        ∙ ap (λ (x : List Float). set x (W * k + s.cursor) (sample k))
        (sums-turn (recent_after sample s) (previous_after sample s) A s.recent s.previous (W * n) n k A-long sh.recent_long sh.previous_long h
        (previous_after sample s k) (recent_after sample s k) refl refl)
        ∙ set-append_left A _ (W * k + s.cursor) (sample k) (omega (arith, A-long, row W k n h))
        ∙ ap (λ (x : List Float). x ++ (begun (k + 1) (recent_after sample s) s.recent ++ begun (k + 1) (previous_after sample s) s.previous))
        (rowed-next W k (ring_after sample s) (flat s) wide s.cursor (sample k) c (omega (arith, rings_long n s sh, row W k n h))
        (ap (λ (x : List Float). set x s.cursor (sample k)) (ring-part n s sh k h)))
      where
        old : get_or l (W * k + s.cursor) nan ≡ old_at s k
        old = ap (λ (x : List Float). get_or x (W * k + s.cursor) nan) is ∙ ring-at s.cursor c

        middle : get_or l (W * k + mid) nan ≡ middle_at s k
        middle = ap (λ (x : List Float). get_or x (W * k + mid) nan) is ∙ ring-at mid b ∙ ap (λ (i : ℕ). get_or (ring_of s k) i f0) em

        recent : get_or l (W * n + k) nan ≡ get_or s.recent k f0
        recent =
            ap (λ (x : List Float). get_or x (W * n + k) nan) is
            ∙ recent-at (recent_after sample s) (previous_after sample s) A s.recent s.previous (W * n) n k A-long sh.recent_long sh.previous_long h

        previous : get_or l (W * n + n + k) nan ≡ get_or s.previous k f0
        previous =
            ap (λ (x : List Float). get_or x (W * n + n + k) nan) is
            ∙ previous-at (recent_after sample s) (previous_after sample s) A s.recent s.previous (W * n) n k A-long sh.recent_long sh.previous_long h

-- ---- the sums taken afresh

abbrev recent_sum : PowerLooks → ℕ → Float
recent_sum s k = total f0 (drop s.m (ring_of s k))

abbrev previous_sum : PowerLooks → ℕ → Float
previous_sum s k = total f0 (take s.m (ring_of s k))

abbrev pub rebased_to : PowerLooks → ℕ → List Float
rebased_to s k = flat s ++ (begun k (recent_sum s) s.recent ++ begun k (previous_sum s) s.previous)

module _ (n : ℕ) (s : PowerLooks) (sh : Shaped n s) where
  pub rebase-done : rebased_to s n ≡ look_f (rebase_look n s)
  unfolding rebase_look
  rebase-done = λ i.
      flat s ++ (begun-done n (recent_sum s) s.recent sh.recent_long i ++ begun-done n (previous_sum s) s.previous sh.previous_long i)

  module _ (k : ℕ) (h : k < n) (l : List Float) (is : l ≡ rebased_to s k) where
    -- the halves of channel k's ring, as they are lent
    abbrev a : ℕ
    a = 2 * s.m * k

    inside : a + s.m + s.m ≤ length (flat s)
    inside = omega (arith, rings_long n s sh, row (2 * s.m) k n h)

    halves : ring_of s k ≡ part a s.m (flat s) ++ part (a + s.m) s.m (flat s)
    halves =
        sym (ring-part n s sh k h)
        ∙ ap (λ (w : ℕ). part a w (flat s)) (let z : 2 * s.m ≡ s.m + s.m = omega arith in z)
        ∙ part-add a s.m s.m (flat s)

    half-long : length (part a s.m (flat s)) ≡ s.m
    half-long = length_part a s.m (flat s) (omega (arith, inside))

    lent : (b : ℕ) → b + s.m ≤ length (flat s) → part b (b + s.m - b) l ≡ part b s.m (flat s)
    lent b f = ap₂ (λ (w : ℕ) (r : List Float). part b w r) (width b s.m) is ∙ part-front (flat s) _ b s.m f

    pub first-half : part a (a + s.m - a) l ≡ take s.m (ring_of s k)
    first-half =
        lent a (omega (arith, inside))
        ∙ sym (take_at (part a s.m (flat s)) (part (a + s.m) s.m (flat s)) s.m half-long)
        ∙ ap (take s.m) (sym halves)

    pub last-half : part (a + s.m) (a + s.m + s.m - (a + s.m)) l ≡ drop s.m (ring_of s k)
    last-half =
        lent (a + s.m) inside
        ∙ sym (drop_at (part a s.m (flat s)) (part (a + s.m) s.m (flat s)) s.m half-long)
        ∙ ap (drop s.m) (sym halves)

    pub rebase-turns : (x y : Float) → x ≡ previous_sum s k → y ≡ recent_sum s k
        → set (set l (2 * s.m * n + n + k) x) (2 * s.m * n + k) y ≡ rebased_to s (k + 1)
    rebase-turns x y ex ey =
        ap (λ (r : List Float). set (set r (2 * s.m * n + n + k) x) (2 * s.m * n + k) y) is
        ∙ sums-turn (recent_sum s) (previous_sum s) (flat s) s.recent s.previous (2 * s.m * n) n k (rings_long n s sh) sh.recent_long
        sh.previous_long h x y ex ey

-- ---- a sum, left to right

pub total-turns : (x : Float) (l : List Float) (i : ℕ) (a : Float) → i < length l → x ≡ total a (drop i l)
    → x ≡ total (add binary64 a (get_or l i nan)) (drop (i + 1) l)
unfolding total
total-turns x l i a h e =
    e ∙ ap (total a) (drop-cons l i nan h) ∙ ap (λ (j : ℕ). total (add binary64 a (get_or l i nan)) (drop j l)) (sym (add-one i))

pub total-done : (x : Float) (l : List Float) (i : ℕ) (a : Float) → length l ≤ i → x ≡ total a (drop i l) → a ≡ x
unfolding total
total-done x l i a h e = sym (e ∙ ap (total a) (drop_of_length-le l {i = i} h))
