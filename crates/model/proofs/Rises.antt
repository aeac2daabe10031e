-- The gate's half of demand 3: gates of equal settings whose numbers of accepted updates agree modulo twice every length have equal windows
-- after the same 1,500 updates or more, and so equal rises where early rise is absent. Uses no law of floats. Assumes nothing.
use mathlib.Core.Path.{◌≡◌, refl, sym, ap, ap₂, ◌∙◌}
use mathlib.Core.List.{List, [], ◌∷◌, map, map-id, map-map}
use mathlib.Core.Bool.{Bool, true, false, ◌||◌}
use Prim.Native.Nat.{ℕ, ◌*◌, ◌%◌, ◌≤◌, ◌<◌}
use native.Mathlib.Nat.{zero-add}
use native.Mathlib.Omega.{arith}
use lib.ListN.{length}
use lib.Dec.{eqb}
use borrow.Author.Tests.{eqb-true, eq-eqb}
use Rattle.laws.specs.Tests.{within}
use Rattle.laws.proofs.Tests.{by-test, and_l, and_r, within_of}
use Rattle.laws.proofs.Tabs.{tab-same}
use Rattle.model.specs.Bank.{FloorBank}
use Rattle.model.specs.Windows.{PowerLooks, fresh_look, step_look}
use Rattle.model.specs.Gate.{Gate, Settings, among, distinct, fresh_gate, sample_of, gate_step, threshold_of, early_rise}
use Rattle.model.specs.GateCalls.{GateHop, all_within, good_lengths}
use Rattle.model.specs.GoodGate.{GoodLook}
use Rattle.model.specs.Anew.{window_rise_anew, rise_bytes_anew}
use Rattle.model.proofs.FreshGates.{bare, good-fresh-look}
use Rattle.model.proofs.Windows.{run_look, good-run-look, m-run, cursor-run, look-forgets}

abbrev pub run_gate : Gate → List GateHop → Gate
run_gate g [] = g
run_gate g (h ∷ hs) = run_gate (gate_step g h.db h.power) hs

-- ---- what an update does not change, and what it does to each length

pub record SameMake (g h : Gate) : Type 0 where
  pub n : g.n ≡ h.n
  pub on : g.on ≡ h.on
  pub early : g.early ≡ h.early

pub make-run : (hs : List GateHop) (g : Gate) → SameMake (run_gate g hs) g
unfolding gate_step
make-run [] g = record { n = refl; on = refl; early = refl }
make-run (h ∷ hs) g = let r = make-run hs (gate_step g h.db h.power) in record { n = r.n; on = r.on; early = r.early }

pub started-run : (hs : List GateHop) (g : Gate) → 0 < length hs → (run_gate g hs).started ≡ 1
started-run [] g l = absurd (omega arith)
started-run (h ∷ []) g l = (unfold gate_step in refl)
started-run (h ∷ h' ∷ hs) g l = started-run (h' ∷ hs) (gate_step g h.db h.power) (omega arith)

looks-run : (hs : List GateHop) (g : Gate) → (run_gate g hs).looks ≡ map (λ (l : PowerLooks). run_look g.n l hs) g.looks
unfolding gate_step
looks-run [] g = sym (map-id g.looks)
looks-run (h ∷ hs) g =
    looks-run hs (gate_step g h.db h.power) ∙ map-map (λ (l : PowerLooks). run_look g.n l hs) (step_look g.n (sample_of h.power)) g.looks

-- ---- the lengths

-- a length that making takes, and on which two numbers of accepted updates agree
record Length (a b m : ℕ) : Type 0 where
  some : 1 ≤ m
  few : m ≤ 375
  agree : a % (2 * m) ≡ b % (2 * m)

within-among : (m : ℕ) (ms : List ℕ) → all_within ms ≡ true → among m ms ≡ true → within 1 375 m ≡ true
within-among m [] w a = absurd (let z : ◌≡◌ {A = ℕ} 0 1 = cc in omega arith)
within-among m (x ∷ ms) w a =
    by-test (eqb m x) (λ t. rw (eqb-true m x t) (and_l (within 1 375 x) (all_within ms) w))
    (λ t. within-among m ms (and_r (within 1 375 x) (all_within ms) w) (rw t at a))

or-r-true : (p q : Bool) → q ≡ true → (p || q) ≡ true
or-r-true true q h = refl
or-r-true false q h = h

-- what holds of each length holds of each distinct one
abbrev Every : (ℕ → Type 0) → List ℕ → Type 0
Every P [] = Unit {0}
Every P (m ∷ ms) = P m × Every P ms

every-distinct : (P : ℕ → Type 0) (seen ms : List ℕ) → ((m : ℕ) → among m ms ≡ true → P m) → Every P (distinct seen ms)
unfolding distinct
every-distinct P seen [] h = tt
every-distinct P seen (m ∷ ms) h =
    by-test (among m seen) (λ t. rw t (every-distinct P seen ms rest))
    (λ t. rw t (h m (rw (eq-eqb m m refl)), every-distinct P (m ∷ seen) ms rest))
  where
    rest : (x : ℕ) → among x ms ≡ true → P x
    rest x a = h x (or-r-true (eqb x m) (among x ms) a)

-- ---- two histories of one length, and what follows

look-history : (n m : ℕ) (xs ys fs : List GateHop) → Length (length xs) (length ys) m → 1500 ≤ length fs
    → run_look n (run_look n (fresh_look n m) xs) fs ≡ run_look n (run_look n (fresh_look n m) ys) fs
look-history n m xs ys fs e h =
    look-forgets n fs (run_look n l xs) (run_look n l ys) (good-run-look n xs l good) (good-run-look n ys l good) (m-run n xs l ∙ sym (m-run n ys l))
    (cursor xs ∙ e.agree ∙ sym (cursor ys)) h
  where
    l : PowerLooks
    l = fresh_look n m

    good : GoodLook n (fresh_look n m)
    good = good-fresh-look n m e.some e.few

    cursor : (hs : List GateHop) → (run_look n (fresh_look n m) hs).cursor ≡ length hs % (2 * m)
    cursor hs = cursor-run n hs (fresh_look n m) good.cursor ∙ (unfold fresh_look in ap (λ (k : ℕ). k % (2 * m)) (zero-add (length hs)))

-- ---- all lengths

fresh-n : (s : Settings) (hs : List GateHop) → (run_gate (bare (fresh_gate s)) hs).n ≡ s.n
unfolding fresh_gate
fresh-n s hs = (make-run hs (bare (fresh_gate s))).n

pub fresh-looks : (s : Settings) (hs : List GateHop)
    → (run_gate (bare (fresh_gate s)) hs).looks ≡ map (λ (m : ℕ). run_look s.n (fresh_look s.n m) hs) (distinct [] s.lengths)
unfolding fresh_gate
fresh-looks s hs = looks-run hs (bare (fresh_gate s)) ∙ map-map (λ (l : PowerLooks). run_look s.n l hs) (fresh_look s.n) (distinct [] s.lengths)

pub looks-forget : (s : Settings) (xs ys fs : List GateHop) → good_lengths s.lengths ≡ true
    → ((m : ℕ) → among m s.lengths ≡ true → length xs % (2 * m) ≡ length ys % (2 * m)) → 1500 ≤ length fs
    → (run_gate (run_gate (bare (fresh_gate s)) xs) fs).looks ≡ (run_gate (run_gate (bare (fresh_gate s)) ys) fs).looks
looks-forget s xs ys fs good agree h =
    looks-are xs
    ∙ each (distinct [] s.lengths) (every-distinct (Length (length xs) (length ys)) [] s.lengths taken)
    ∙ sym (looks-are ys)
  where
    after : List GateHop → ℕ → PowerLooks
    after hs m = run_look s.n (run_look s.n (fresh_look s.n m) hs) fs

    looks-are : (hs : List GateHop) → (run_gate (run_gate (bare (fresh_gate s)) hs) fs).looks ≡ map (after hs) (distinct [] s.lengths)
    looks-are hs =
        looks-run fs (run_gate (bare (fresh_gate s)) hs)
        ∙ ap₂ (λ (n : ℕ) (ls : List PowerLooks). map (λ (l : PowerLooks). run_look n l fs) ls) (fresh-n s hs) (fresh-looks s hs)
        ∙ map-map (λ (l : PowerLooks). run_look s.n l fs) (λ (m : ℕ). run_look s.n (fresh_look s.n m) hs) (distinct [] s.lengths)

    taken : (m : ℕ) → among m s.lengths ≡ true → Length (length xs) (length ys) m
    taken m a =
        let w = within_of 1 375 m (within-among m s.lengths (unfold good_lengths in and_r (within 1 8 (length s.lengths)) (all_within s.lengths) good) a) in
        record { some = w.0; few = w.1; agree = agree m a }

    each : (ms : List ℕ) → Every (Length (length xs) (length ys)) ms → map (after xs) ms ≡ map (after ys) ms
    each [] t = refl
    each (m ∷ ms) t = ap₂ (λ (a : PowerLooks) (r : List PowerLooks). a ∷ r) (look-history s.n m xs ys fs t.0 h) (each ms t.1)

-- ---- the rises of two gates with equal windows, early absent, against banks with equal rise floors, as the ladder gives them

pub rises-same : (g h : Gate) (b d : FloorBank) → SameMake g h → g.early ≡ 65535 → g.looks ≡ h.looks → g.started ≡ h.started → b.rise ≡ d.rise
    → rise_bytes_anew g b ≡ rise_bytes_anew h d
unfolding rise_bytes_anew early_rise window_rise_anew threshold_of
rises-same g h b d s e l t r = tab-same g.n h.n _ _ s.n (λ k _. rw (e, sym s.early ∙ e, s.n, s.on, l, t, r))
