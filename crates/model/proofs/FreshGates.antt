-- A fresh gate is sound, and a gate update keeps a gate sound. Assumes nothing.
use mathlib.Core.Path.{◌≡◌, refl, sym, ap, subst, ◌∙◌}
use mathlib.Core.Bool.{Bool, true, false, cond}
use mathlib.Core.List.{List, [], ◌∷◌, map}
use mathlib.Core.Logic.{◌⊎◌}
use Prim.Native.Nat.{ℕ, zero, suc, ◌+◌, ◌*◌, ◌%◌, ◌<◌, ◌≤◌}
use native.Mathlib.Nat.{mod-lt, mod-eq_of_lt}
use native.Mathlib.Omega.{arith}
use lib.Dec.{eqb}
use lib.ListN.{length, get_or, set, replicate, length-map, length-set, length-replicate, get_or-replicate}
use lib.Ieee.{Float, nan}
use borrow.Author.Tests.{eqb-false}
use Rattle.laws.specs.Lists.{tab}
use Rattle.laws.specs.Tests.{within}
use Rattle.laws.proofs.Tests.{and_l, and_r, or_l, or_r, within_of}
use Rattle.laws.proofs.Tabs.{length-tab, get_d-tab}
use Rattle.model.specs.Numbers.{f0}
use Rattle.model.specs.Bank.{FloorBank}
use Rattle.model.specs.Windows.{PowerLooks, ring_of, push_look, advance_look, rebase_look, settle_at, step_look, fresh_look}
use Rattle.model.specs.Gate.{Gate, Settings, among, distinct, fresh_gate, gate_step, refresh, update_step, hold_at, hold_step, sample_of, db_after}
use Rattle.model.specs.GateCalls.{all_within, good_lengths}
use Rattle.model.specs.GoodGate.{GoodLook, GoodGate, look_at}

-- ---- a step keeps a length sound

good-push : (n : ℕ) (sample : ℕ → Float) (l : PowerLooks) → GoodLook n l → GoodLook n (push_look n sample l)
unfolding push_look
good-push n sample l g =
    record {
      some = g.some;
      few = g.few;
      cursor = g.cursor;
      filled = g.filled;
      at_start = g.at_start;
      rings_long = length-tab n _;
      ring_long =
          λ k h.
          ap length (get_d-tab n (λ k. set (ring_of l k) l.cursor (sample k)) k [] h) ∙ length-set (ring_of l k) l.cursor (sample k) ∙ g.ring_long k h;
      recent_long = length-tab n _;
      previous_long = length-tab n _;
    }

good-advance : (n : ℕ) (l : PowerLooks) → GoodLook n l → GoodLook n (advance_look l)
unfolding advance_look
good-advance n l g =
    record {
      some = g.some;
      few = g.few;
      cursor = mod-lt (l.cursor + 1) (omega (arith, g.some));
      filled = omega arith;
      at_start = λ h.
          let less : l.filled + 1 < 2 * l.m = omega arith in
          let same : l.cursor ≡ l.filled = g.at_start (omega arith) in
          let e : (l.cursor + 1) % (2 * l.m) ≡ l.cursor + 1 = mod-eq_of_lt (omega arith) in
          omega arith;
      rings_long = g.rings_long;
      ring_long = g.ring_long;
      recent_long = g.recent_long;
      previous_long = g.previous_long;
    }

good-rebase : (n : ℕ) (l : PowerLooks) → GoodLook n l → GoodLook n (rebase_look n l)
unfolding rebase_look
good-rebase n l g =
    record {
      some = g.some;
      few = g.few;
      cursor = g.cursor;
      filled = g.filled;
      at_start = g.at_start;
      rings_long = g.rings_long;
      ring_long = g.ring_long;
      recent_long = length-tab n _;
      previous_long = length-tab n _;
    }

good-settle : (c n : ℕ) (l : PowerLooks) → GoodLook n l → GoodLook n (settle_at c n l)
good-settle zero n l g = good-rebase n l g
good-settle (suc c) n l g = g

pub good-step-look : (n : ℕ) (sample : ℕ → Float) (l : PowerLooks) → GoodLook n l → GoodLook n (step_look n sample l)
unfolding step_look
good-step-look n sample l g =
    let a = advance_look (push_look n sample l) in good-settle a.cursor n a (good-advance n (push_look n sample l) (good-push n sample l g))

settle-m : (c n : ℕ) (l : PowerLooks) → (settle_at c n l).m ≡ l.m
unfolding rebase_look
settle-m zero n l = refl
settle-m (suc c) n l = refl

pub step-look-m : (n : ℕ) (sample : ℕ → Float) (l : PowerLooks) → (step_look n sample l).m ≡ l.m
unfolding step_look push_look advance_look
step-look-m n sample l = let a = advance_look (push_look n sample l) in settle-m a.cursor n a

get_d_map : {A B : Type 0} (f : A → B) (l : List A) (j : ℕ) (d : A) (e : B) → j < length l → get_or (map f l) j e ≡ f (get_or l j d)
get_d_map f [] j d e h = absurd (omega arith)
get_d_map f (x ∷ l) zero d e h = refl
get_d_map f (x ∷ l) (suc j) d e h = get_d_map f l j d e (omega arith)

-- ---- the parts of a gate update: the smoothed dB, the windows, started

abbrev pub with_smooth : Gate → List Float → Gate
with_smooth g x = record { n = g.n; started = g.started; on = g.on; off = g.off; early = g.early; looks = g.looks; smooth = x; used = g.used; threshold = g.threshold }

abbrev pub with_looks : Gate → List PowerLooks → Gate
with_looks g ls = record { n = g.n; started = g.started; on = g.on; off = g.off; early = g.early; looks = ls; smooth = g.smooth; used = g.used; threshold = g.threshold }

abbrev pub with_started : Gate → ℕ → Gate
with_started g s = record { n = g.n; started = s; on = g.on; off = g.off; early = g.early; looks = g.looks; smooth = g.smooth; used = g.used; threshold = g.threshold }

-- R-3: the pairs
abbrev pub with_pairs : Gate → List Float → List Float → Gate
with_pairs g x y =
    record { n = g.n; started = g.started; on = g.on; off = g.off; early = g.early; looks = g.looks; smooth = g.smooth; used = x; threshold = y }

-- the gate but for its pairs
abbrev pub bare : Gate → Gate
bare g = with_pairs g [] []

abbrev pub smooth_after : Gate → List Float → List Float
smooth_after g db = tab g.n (λ k. db_after g.started (get_or g.smooth k f0) (get_or db k f0))

pub step-parts : (g : Gate) (db power : List Float)
    → gate_step g db power ≡ with_started (with_looks (with_smooth g (smooth_after g db)) (map (step_look g.n (sample_of power)) g.looks)) 1
unfolding gate_step
step-parts g db power = refl

pub good-smooth : (g : Gate) (x : List Float) → GoodGate g → length x ≡ g.n → GoodGate (with_smooth g x)
good-smooth g x s e =
    record {
      low = s.low;
      high = s.high;
      started = s.started;
      on = s.on;
      off = s.off;
      early = s.early;
      some = s.some;
      few = s.few;
      smooth_long = e;
      used_long = s.used_long;
      threshold_long = s.threshold_long;
      look = s.look;
      distinct = s.distinct;
    }

pub good-started : (g : Gate) (t : ℕ) → GoodGate g → t ≤ 1 → GoodGate (with_started g t)
good-started g t s h =
    record {
      low = s.low;
      high = s.high;
      started = h;
      on = s.on;
      off = s.off;
      early = s.early;
      some = s.some;
      few = s.few;
      smooth_long = s.smooth_long;
      used_long = s.used_long;
      threshold_long = s.threshold_long;
      look = s.look;
      distinct = s.distinct;
    }

-- each length replaced by one that is sound and as long
pub good-looks : (g : Gate) (S : PowerLooks → PowerLooks) → GoodGate g → ((l : PowerLooks) → (S l).m ≡ l.m)
    → ((l : PowerLooks) → GoodLook g.n l → GoodLook g.n (S l)) → GoodGate (with_looks g (map S g.looks))
good-looks g S s same good =
    record {
      low = s.low;
      high = s.high;
      started = s.started;
      on = s.on;
      off = s.off;
      early = s.early;
      some = omega (arith, s.some, count);
      few = omega (arith, s.few, count);
      smooth_long = s.smooth_long;
      used_long = s.used_long;
      threshold_long = s.threshold_long;
      look = λ j h. subst (GoodLook g.n) (sym (at j (omega (arith, count)))) (good (look_at g j) (s.look j (omega (arith, count))));
      distinct =
          λ i j l h e.
          s.distinct i j l (omega (arith, count)) (sym (m-at i (omega (arith, count))) ∙ e ∙ m-at j (omega (arith, count)));
    }
  where
    count : length (map S g.looks) ≡ length g.looks
    count = length-map g.looks S

    at : (j : ℕ) → j < length g.looks → get_or (map S g.looks) j (fresh_look 0 0) ≡ S (look_at g j)
    at j h = get_d_map S g.looks j (fresh_look 0 0) (fresh_look 0 0) h

    m-at : (j : ℕ) → j < length g.looks → (get_or (map S g.looks) j (fresh_look 0 0)).m ≡ (look_at g j).m
    m-at j h = ap (λ (l : PowerLooks). l.m) (at j h) ∙ same (look_at g j)

pub good-pairs : (g : Gate) (x y : List Float) → GoodGate g → length x ≡ g.n → length y ≡ g.n → GoodGate (with_pairs g x y)
good-pairs g x y s d e =
    record {
      low = s.low;
      high = s.high;
      started = s.started;
      on = s.on;
      off = s.off;
      early = s.early;
      some = s.some;
      few = s.few;
      smooth_long = s.smooth_long;
      used_long = d;
      threshold_long = e;
      look = s.look;
      distinct = s.distinct;
    }

pub good-refresh : (g : Gate) (b : FloorBank) → GoodGate g → GoodGate (refresh g b)
unfolding refresh
good-refresh g b s = good-pairs g _ _ s (length-tab g.n _) (length-tab g.n _)

pub good-gate-step : (g : Gate) (db power : List Float) → GoodGate g → GoodGate (gate_step g db power)
good-gate-step g db power s =
    let x = smooth_after g db in
    let S = step_look g.n (sample_of power) in
    let t = good-smooth g x s (length-tab g.n (λ k. db_after g.started (get_or g.smooth k f0) (get_or db k f0))) in
    let v = good-looks (with_smooth g x) S t (step-look-m g.n (sample_of power)) (good-step-look g.n (sample_of power)) in
    subst GoodGate (sym (step-parts g db power)) (good-started (with_looks (with_smooth g x) (map S g.looks)) 1 v (omega arith))

pub good-update : (g : Gate) (b : FloorBank) (db power : List Float) → GoodGate g → GoodGate (update_step g b db power)
unfolding update_step
good-update g b db power s = good-refresh (gate_step g db power) b (good-gate-step g db power s)

good-hold-at : (t : ℕ) (g : Gate) (b : FloorBank) → GoodGate g → GoodGate (hold_at t g b)
good-hold-at zero g b s = s
good-hold-at (suc t) g b s = good-refresh g b s

pub good-hold : (g : Gate) (b : FloorBank) → GoodGate g → GoodGate (hold_step g b)
unfolding hold_step
good-hold g b s = good-hold-at g.started g b s

-- ---- a fresh gate

pub good-fresh-look : (n m : ℕ) → 1 ≤ m → m ≤ 375 → GoodLook n (fresh_look n m)
unfolding fresh_look
good-fresh-look n m some few =
    record {
      some = some;
      few = few;
      cursor = omega arith;
      filled = omega arith;
      at_start = λ h. refl;
      rings_long = length-replicate n (replicate (2 * m) f0);
      ring_long = λ k h. ap length (get_or-replicate n k (replicate (2 * m) f0) [] h) ∙ length-replicate (2 * m) f0;
      recent_long = length-replicate n f0;
      previous_long = length-replicate n f0;
    }

fresh-m : (n m : ℕ) → (fresh_look n m).m ≡ m
unfolding fresh_look
fresh-m n m = refl

-- doubles are dropped: no more lengths than were handed over ..
pub distinct-few : (seen ms : List ℕ) → length (distinct seen ms) ≤ length ms
unfolding distinct
distinct-few seen [] = omega arith
distinct-few seen (m ∷ ms) = go (among m seen) (distinct-few seen ms) (distinct-few (m ∷ seen) ms)
  where
    go : (t : Bool) → length (distinct seen ms) ≤ length ms → length (distinct (m ∷ seen) ms) ≤ length ms
        → length (cond t (distinct seen ms) (m ∷ distinct (m ∷ seen) ms)) ≤ suc (length ms)
    go true a b = omega arith
    go false a b = omega arith

-- .. at least one ..
pub distinct-some : (ms : List ℕ) → 1 ≤ length ms → 1 ≤ length (distinct [] ms)
unfolding distinct
distinct-some [] h = h
distinct-some (m ∷ ms) h = omega arith

-- .. each within the bounds ..
pub distinct-within : (seen ms : List ℕ) → all_within ms ≡ true → (j : ℕ) → j < length (distinct seen ms) → within 1 375 (get_or (distinct seen ms) j 0) ≡ true
unfolding distinct
distinct-within seen [] t j h = absurd (omega arith)
distinct-within seen (m ∷ ms) t j h =
    go (among m seen) j h (distinct-within seen ms (and_r (within 1 375 m) (all_within ms) t)) (distinct-within (m ∷ seen) ms (and_r (within 1 375 m) (all_within ms) t))
  where
    go : (b : Bool) (j : ℕ) → j < length (cond b (distinct seen ms) (m ∷ distinct (m ∷ seen) ms))
        → ((j : ℕ) → j < length (distinct seen ms) → within 1 375 (get_or (distinct seen ms) j 0) ≡ true)
        → ((j : ℕ) → j < length (distinct (m ∷ seen) ms) → within 1 375 (get_or (distinct (m ∷ seen) ms) j 0) ≡ true)
        → within 1 375 (get_or (cond b (distinct seen ms) (m ∷ distinct (m ∷ seen) ms)) j 0) ≡ true
    go true j h p q = p j h
    go false zero h p q = and_l (within 1 375 m) (all_within ms) t
    go false (suc j) h p q = q j (omega arith)

-- .. none that was seen ..
distinct-new : (seen ms : List ℕ) (j : ℕ) → j < length (distinct seen ms) → among (get_or (distinct seen ms) j 0) seen ≡ false
unfolding distinct
distinct-new seen [] j h = absurd (omega arith)
distinct-new seen (m ∷ ms) j h = go (among m seen) refl j h (distinct-new seen ms) (distinct-new (m ∷ seen) ms)
  where
    go : (b : Bool) → among m seen ≡ b → (j : ℕ) → j < length (cond b (distinct seen ms) (m ∷ distinct (m ∷ seen) ms))
        → ((j : ℕ) → j < length (distinct seen ms) → among (get_or (distinct seen ms) j 0) seen ≡ false)
        → ((j : ℕ) → j < length (distinct (m ∷ seen) ms) → among (get_or (distinct (m ∷ seen) ms) j 0) (m ∷ seen) ≡ false)
        → among (get_or (cond b (distinct seen ms) (m ∷ distinct (m ∷ seen) ms)) j 0) seen ≡ false
    go true e j h p q = p j h
    go false e zero h p q = e
    go false e (suc j) h p q =
        let x = get_or (distinct (m ∷ seen) ms) j 0 in or_r (eqb x m) (among x seen) (q j (omega arith))

-- .. and no two equal
pub distinct_apart : (seen ms : List ℕ) (i j : ℕ) → i < j → j < length (distinct seen ms) → get_or (distinct seen ms) i 0 ≡ get_or (distinct seen ms) j 0 → ⊥
unfolding distinct
distinct_apart seen [] i j l h e = absurd (omega arith)
distinct_apart seen (m ∷ ms) i j l h e = go (among m seen) i j l h e (distinct_apart seen ms) (distinct_apart (m ∷ seen) ms)
  where
    go : (b : Bool) (i j : ℕ) → i < j → j < length (cond b (distinct seen ms) (m ∷ distinct (m ∷ seen) ms))
        → get_or (cond b (distinct seen ms) (m ∷ distinct (m ∷ seen) ms)) i 0 ≡ get_or (cond b (distinct seen ms) (m ∷ distinct (m ∷ seen) ms)) j 0
        → ((i j : ℕ) → i < j → j < length (distinct seen ms) → get_or (distinct seen ms) i 0 ≡ get_or (distinct seen ms) j 0 → ⊥)
        → ((i j : ℕ) → i < j → j < length (distinct (m ∷ seen) ms) → get_or (distinct (m ∷ seen) ms) i 0 ≡ get_or (distinct (m ∷ seen) ms) j 0 → ⊥) → ⊥
    go true i j l h e p q = p i j l h e
    go false i zero l h e p q = absurd (omega arith)
    go false zero (suc j) l h e p q =
        let x = get_or (distinct (m ∷ seen) ms) j 0 in
        eqb-false x m (or_l (eqb x m) (among x seen) (distinct-new (m ∷ seen) ms j (omega arith))) (sym e)
    go false (suc i) (suc j) l h e p q = q i j (omega arith) (omega arith) e

pub good-fresh-gate : (s : Settings) → 1 ≤ s.n → s.n ≤ 512 → s.on ≤ 1600 → s.off ≤ 1600 → (s.early ≡ 65535) ⊎ (s.early ≤ 1600)
    → good_lengths s.lengths ≡ true → GoodGate (fresh_gate s)
unfolding fresh_gate good_lengths
good-fresh-gate s low high on off early t =
    record {
      low = low;
      high = high;
      started = omega arith;
      on = on;
      off = off;
      early = early;
      some = omega (arith, count, distinct-some s.lengths many.0);
      few = omega (arith, count, distinct-few [] s.lengths, many.1);
      smooth_long = length-replicate s.n f0;
      used_long = length-replicate s.n nan;
      threshold_long = length-replicate s.n f0;
      look =
          λ j h.
          let l : j < length D = omega (arith, count) in
          let w = within_of 1 375 (get_or D j 0) (distinct-within [] s.lengths (and_r (within 1 8 (length s.lengths)) (all_within s.lengths) t) j l) in
          subst (GoodLook s.n) (sym (at j l)) (good-fresh-look s.n (get_or D j 0) w.0 w.1);
      distinct =
          λ i j l h e.
          distinct_apart [] s.lengths i j l (omega (arith, count)) (sym (m-at i (omega (arith, count))) ∙ e ∙ m-at j (omega (arith, count)));
    }
  where
    D : List ℕ
    D = distinct [] s.lengths

    many : (1 ≤ length s.lengths) × (length s.lengths ≤ 8)
    many = within_of 1 8 (length s.lengths) (and_l (within 1 8 (length s.lengths)) (all_within s.lengths) t)

    count : length (map (fresh_look s.n) D) ≡ length D
    count = length-map D (fresh_look s.n)

    at : (j : ℕ) → j < length D → get_or (map (fresh_look s.n) D) j (fresh_look 0 0) ≡ fresh_look s.n (get_or D j 0)
    at j h = get_d_map (fresh_look s.n) D j 0 (fresh_look 0 0) h

    m-at : (j : ℕ) → j < length D → (get_or (map (fresh_look s.n) D) j (fresh_look 0 0)).m ≡ get_or D j 0
    m-at j h = ap (λ (l : PowerLooks). l.m) (at j h) ∙ fresh-m s.n (get_or D j 0)
