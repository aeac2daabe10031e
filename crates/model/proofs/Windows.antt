-- The windows of one length: from one cursor, 4m hops forget whatever the rings, the sums and filled were. Uses no law of floats.
-- Assumes nothing.
use mathlib.Core.Path.{◌≡◌, refl, sym, ap, ap₂, ◌∙◌, subst}
use mathlib.Core.List.{List, [], ◌∷◌, ◌++◌}
use Prim.Native.Nat.{ℕ, zero, suc, ◌+◌, ◌*◌, ◌%◌, ◌≤◌, ◌<◌, min}
use native.Mathlib.Nat.{mod-eq_of_lt, mod_self, mod-lt, mod-add-mod, add-zero}
use native.Mathlib.Numerals.{add-one}
use native.Mathlib.Omega.{arith}
use lib.Dec.{ltb}
use borrow.Author.Tests.{ltb-true, ltb-false}
use lib.ListN.{length, get_or, set, take, drop, length-set}
use lib.Seq.{take-suc-set, take_all}
use lib.Ieee.{Float}
use Rattle.laws.specs.Lists.{tab}
use Rattle.laws.proofs.Tests.{by-test}
use Rattle.laws.proofs.Tabs.{get_d-tab, tab-ext}
use Rattle.model.specs.Numbers.{f0}
use Rattle.model.specs.Windows.{PowerLooks, turned, grown, ring_of, push_look, advance_look, rebase_look, settle_at, step_look, total}
use Rattle.model.specs.Gate.{sample_of}
use Rattle.model.specs.GateCalls.{GateHop}
use Rattle.model.specs.GoodGate.{GoodLook}
use Rattle.model.proofs.FreshGates.{good-step-look, step-look-m}

abbrev pub run_look : ℕ → PowerLooks → List GateHop → PowerLooks
run_look n l [] = l
run_look n l (h ∷ hs) = run_look n (step_look n (sample_of h.power) l) hs

-- ---- filled apart, which the steps do not look at

abbrev refilled : ℕ → PowerLooks → PowerLooks
refilled f l = record { m = l.m; cursor = l.cursor; filled = f; rings = l.rings; recent = l.recent; previous = l.previous }

abbrev bare : PowerLooks → PowerLooks
bare l = refilled 0 l

same-bare : (l r : PowerLooks) → bare l ≡ bare r → l.filled ≡ r.filled → l ≡ r
same-bare l r e f = λ i. refilled (f i) (e i)

bare_step : (n : ℕ) (sample : ℕ → Float) (l : PowerLooks) → bare (step_look n sample l) ≡ bare (step_look n sample (bare l))
unfolding step_look advance_look push_look rebase_look
bare_step n sample l = go (turned l.m l.cursor)
  where
    go : (c : ℕ) → bare (settle_at c n (advance_look (push_look n sample l))) ≡ bare (settle_at c n (advance_look (push_look n sample (bare l))))
    go zero = refl
    go (suc c) = refl

bare-run : (n : ℕ) (hs : List GateHop) (l r : PowerLooks) → bare l ≡ bare r → bare (run_look n l hs) ≡ bare (run_look n r hs)
bare-run n [] l r e = e
bare-run n (h ∷ hs) l r e =
    bare-run n hs (step_look n (sample_of h.power) l) (step_look n (sample_of h.power) r)
    (bare_step n (sample_of h.power) l
    ∙ ap (λ (x : PowerLooks). bare (step_look n (sample_of h.power) x)) e
    ∙ sym (bare_step n (sample_of h.power) r))

-- ---- one step: its cursor, filled and rings

settled : (c n : ℕ) (a : PowerLooks)
    → ((settle_at c n a).cursor ≡ a.cursor) × ((settle_at c n a).filled ≡ a.filled) × ((settle_at c n a).rings ≡ a.rings)
unfolding rebase_look
settled zero n a = (refl, refl, refl)
settled (suc c) n a = (refl, refl, refl)

module _ (n : ℕ) (sample : ℕ → Float) (l : PowerLooks) where
  cursor-step : (step_look n sample l).cursor ≡ turned l.m l.cursor
  unfolding step_look advance_look push_look
  cursor-step = (settled (turned l.m l.cursor) n (advance_look (push_look n sample l))).0

  filled-step : (step_look n sample l).filled ≡ grown l.m l.filled
  unfolding step_look advance_look push_look
  filled-step = (settled (turned l.m l.cursor) n (advance_look (push_look n sample l))).1

  rings-step : (step_look n sample l).rings ≡ tab n (λ k. set (ring_of l k) l.cursor (sample k))
  unfolding step_look advance_look push_look
  rings-step = (settled (turned l.m l.cursor) n (advance_look (push_look n sample l))).2

  ring-step : (k : ℕ) → k < n → ring_of (step_look n sample l) k ≡ set (ring_of l k) l.cursor (sample k)
  ring-step k h = ap (λ (r : List (List Float)). get_or r k []) rings-step ∙ get_d-tab n (λ k. set (ring_of l k) l.cursor (sample k)) k [] h

  -- where the cursor comes to 0, the sums are those of the rings
  step_end : turned l.m l.cursor ≡ 0 → step_look n sample l ≡ rebase_look n (advance_look (push_look n sample l))
  unfolding step_look advance_look push_look
  step_end e = ap (λ (c : ℕ). settle_at c n (advance_look (push_look n sample l))) e

-- ---- two looks with the same cursor

-- the fronts of their rings, up to c
abbrev Front : ℕ → ℕ → PowerLooks → PowerLooks → Type 0
Front n c l r = (k : ℕ) → k < n → take c (ring_of l k) ≡ take c (ring_of r k)

record Level (n : ℕ) (l r : PowerLooks) : Type 0 where
  good : GoodLook n l
  good' : GoodLook n r
  same_m : l.m ≡ r.m
  same_cursor : l.cursor ≡ r.cursor

level-step : (n : ℕ) (sample : ℕ → Float) (l r : PowerLooks) → Level n l r → Level n (step_look n sample l) (step_look n sample r)
level-step n sample l r v =
    record {
      good = good-step-look n sample l v.good;
      good' = good-step-look n sample r v.good';
      same_m = step-look-m n sample l ∙ v.same_m ∙ sym (step-look-m n sample r);
      same_cursor = cursor-step n sample l ∙ ap₂ turned v.same_m v.same_cursor ∙ sym (cursor-step n sample r);
    }

front-step : (n : ℕ) (sample : ℕ → Float) (l r : PowerLooks) → Level n l r → Front n l.cursor l r
    → Front n (suc l.cursor) (step_look n sample l) (step_look n sample r)
front-step n sample l r v e k h =
    ap (take (suc l.cursor)) (ring-step n sample l k h)
    ∙ take-suc-set (ring_of l k) l.cursor (sample k) (omega (arith, v.good.ring_long k h, v.good.cursor))
    ∙ ap (λ (f : List Float). f ++ (sample k ∷ [])) (e k h)
    ∙ sym (take-suc-set (ring_of r k) l.cursor (sample k) (omega (arith, v.good.cursor, v.good'.ring_long k h, v.same_m)))
    ∙ ap (λ (c : ℕ). take (suc l.cursor) (set (ring_of r k) c (sample k))) v.same_cursor
    ∙ sym (ap (take (suc l.cursor)) (ring-step n sample r k h))

turn_on : (m c : ℕ) → suc c < 2 * m → turned m c ≡ suc c
turn_on m c h = rw add-one (mod-eq_of_lt h)

turn_end : (m c : ℕ) → suc c ≡ 2 * m → turned m c ≡ 0
turn_end m c e = rw (add-one, e) (mod_self (2 * m))

-- equal fronts, and the cursor turns: all but filled is equal
meet : (n : ℕ) (sample : ℕ → Float) (l r : PowerLooks) → Level n l r → Front n l.cursor l r → suc l.cursor ≡ 2 * l.m
    → bare (step_look n sample l) ≡ bare (step_look n sample r)
unfolding rebase_look advance_look push_look
meet n sample l r v e t =
    ap bare (step_end n sample l (turn_end l.m l.cursor t))
    ∙ rebased
    ∙ sym (ap bare (step_end n sample r (turn_end r.m r.cursor (omega (arith, v.same_m, v.same_cursor)))))
  where
    ring : (k : ℕ) → k < n → set (ring_of l k) l.cursor (sample k) ≡ set (ring_of r k) r.cursor (sample k)
    ring k h =
        sym
        (take_all (suc l.cursor) (set (ring_of l k) l.cursor (sample k))
        (omega (arith, v.good.ring_long k h, length-set (ring_of l k) l.cursor (sample k))))
        ∙ sym (ap (take (suc l.cursor)) (ring-step n sample l k h))
        ∙ front-step n sample l r v e k h
        ∙ ap (take (suc l.cursor)) (ring-step n sample r k h)
        ∙ take_all (suc l.cursor) (set (ring_of r k) r.cursor (sample k))
        (omega (arith, v.same_m, v.good'.ring_long k h, length-set (ring_of r k) r.cursor (sample k)))

    rings : tab n (λ k. set (ring_of l k) l.cursor (sample k)) ≡ tab n (λ k. set (ring_of r k) r.cursor (sample k))
    rings = tab-ext n _ _ ring

    rebased : bare (rebase_look n (advance_look (push_look n sample l))) ≡ bare (rebase_look n (advance_look (push_look n sample r)))
    rebased =
        λ i.
        record {
          m = v.same_m i;
          cursor = turned (v.same_m i) (v.same_cursor i);
          filled = 0;
          rings = rings i;
          recent = tab n (λ k. total f0 (drop (v.same_m i) (get_or (rings i) k [])));
          previous = tab n (λ k. total f0 (take (v.same_m i) (get_or (rings i) k [])));
        }

-- equal fronts and enough hops to reach the end of the ring: equal ever after, but for filled
merge : (n : ℕ) (hs : List GateHop) (l r : PowerLooks) → Level n l r → Front n l.cursor l r → 2 * l.m ≤ l.cursor + length hs
    → bare (run_look n l hs) ≡ bare (run_look n r hs)
merge n [] l r v e h = absurd (omega (arith, v.good.cursor))
merge n (x ∷ hs) l r v e h =
    let l' = step_look n (sample_of x.power) l in
    let r' = step_look n (sample_of x.power) r in
    by-test (ltb (suc l.cursor) (2 * l.m))
    (λ t.
    let c : l'.cursor ≡ suc l.cursor = cursor-step n (sample_of x.power) l ∙ turn_on l.m l.cursor (ltb-true (suc l.cursor) (2 * l.m) t) in
    merge n hs l' r' (level-step n (sample_of x.power) l r v)
    (subst (λ (i : ℕ). Front n i l' r') (sym c) (front-step n (sample_of x.power) l r v e))
    (omega (arith, c, step-look-m n (sample_of x.power) l)))
    (λ t.
    bare-run n hs l' r'
    (meet n (sample_of x.power) l r v e (omega (arith, v.good.cursor, ltb-false (suc l.cursor) (2 * l.m) t))))

-- whatever the rings and sums hold: after 4m hops all but filled is equal
forget : (n : ℕ) (hs : List GateHop) (l r : PowerLooks) → Level n l r → 4 * l.m ≤ l.cursor + length hs
    → bare (run_look n l hs) ≡ bare (run_look n r hs)
forget n [] l r v h = absurd (omega (arith, v.good.cursor, v.good.some))
forget n (x ∷ hs) l r v h =
    let l' = step_look n (sample_of x.power) l in
    let r' = step_look n (sample_of x.power) r in
    by-test (ltb (suc l.cursor) (2 * l.m))
    (λ t.
    let c : l'.cursor ≡ suc l.cursor = cursor-step n (sample_of x.power) l ∙ turn_on l.m l.cursor (ltb-true (suc l.cursor) (2 * l.m) t) in
    forget n hs l' r' (level-step n (sample_of x.power) l r v) (omega (arith, c, step-look-m n (sample_of x.power) l)))
    (λ t.
    let u : suc l.cursor ≡ 2 * l.m = omega (arith, v.good.cursor, ltb-false (suc l.cursor) (2 * l.m) t) in
    let c : l'.cursor ≡ 0 = cursor-step n (sample_of x.power) l ∙ turn_end l.m l.cursor u in
    merge n hs l' r' (level-step n (sample_of x.power) l r v) (subst (λ (i : ℕ). Front n i l' r') (sym c) (λ k q. refl))
    (omega (arith, c, step-look-m n (sample_of x.power) l)))

-- ---- a run: its length, cursor and filled

pub m-run : (n : ℕ) (hs : List GateHop) (l : PowerLooks) → (run_look n l hs).m ≡ l.m
m-run n [] l = refl
m-run n (h ∷ hs) l = m-run n hs (step_look n (sample_of h.power) l) ∙ step-look-m n (sample_of h.power) l

pub good-run-look : (n : ℕ) (hs : List GateHop) (l : PowerLooks) → GoodLook n l → GoodLook n (run_look n l hs)
good-run-look n [] l g = g
good-run-look n (h ∷ hs) l g = good-run-look n hs (step_look n (sample_of h.power) l) (good-step-look n (sample_of h.power) l g)

-- the cursor is the start's and the number of hops; in the end all places are filled
pub cursor-run : (n : ℕ) (hs : List GateHop) (l : PowerLooks) → l.cursor < 2 * l.m → (run_look n l hs).cursor ≡ (l.cursor + length hs) % (2 * l.m)
cursor-run n [] l h = rw add-zero (sym (mod-eq_of_lt h))
cursor-run n (x ∷ hs) l h =
    let s = sample_of x.power in
    let below : turned l.m l.cursor < 2 * l.m = mod-lt (l.cursor + 1) (omega arith) in
    cursor-run n hs (step_look n s l) (rw (cursor-step n s l, step-look-m n s l) below)
    ∙ ap₂ (λ (c m : ℕ). (c + length hs) % (2 * m)) (cursor-step n s l) (step-look-m n s l)
    ∙ mod-add-mod (l.cursor + 1) (2 * l.m) (length hs)
    ∙ ap (λ (k : ℕ). k % (2 * l.m)) (omega arith)

filled-run : (n : ℕ) (hs : List GateHop) (l : PowerLooks) → l.filled ≤ 2 * l.m → (run_look n l hs).filled ≡ min (l.filled + length hs) (2 * l.m)
filled-run n [] l h = omega arith
filled-run n (x ∷ hs) l h =
    let s = sample_of x.power in
    filled-run n hs (step_look n s l) (omega (arith, filled-step n s l, step-look-m n s l)) ∙ omega (arith, filled-step n s l, step-look-m n s l)

-- 1,500 hops are enough for every length that making takes
pub look-forgets : (n : ℕ) (fs : List GateHop) (l r : PowerLooks) → GoodLook n l → GoodLook n r → l.m ≡ r.m → l.cursor ≡ r.cursor → 1500 ≤ length fs
    → run_look n l fs ≡ run_look n r fs
look-forgets n fs l r g q e c h =
    same-bare (run_look n l fs) (run_look n r fs)
    (forget n fs l r (record { good = g; good' = q; same_m = e; same_cursor = c }) (omega (arith, g.few)))
    (omega (arith, filled-run n fs l g.filled, filled-run n fs r q.filled, g.few))
