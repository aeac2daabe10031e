-- A loop over the lengths of a gate that replaces each by its next state, S: what k turns leave in the two stores. Assumes nothing.
use mathlib.Core.Path.{◌≡◌, refl, sym, ap, ap₂, subst, ◌∙◌}
use mathlib.Core.List.{List, [], ◌∷◌, ◌++◌, map}
use Prim.Native.Nat.{ℕ, ◌+◌, ◌-◌, ◌*◌, ◌<◌, ◌≤◌}
use native.Mathlib.Nat.{add-zero}
use native.Mathlib.Omega.{arith}
use lib.ListN.{length, get_or, take, drop, set, replicate, length-drop, take-append-drop}
use lib.Seq.{take_all, drop-drop, get_or-drop, take-set-le, drop-set-add}
use lib.Ieee.{Float}
use Rattle.laws.specs.Lists.{part, splice, tab, joined}
use Rattle.laws.proofs.Lists.{length-splice, get_d_past, splice-mid}
use Rattle.laws.proofs.Tabs.{length-tab, map-tab, length-joined, parts-turn}
use Rattle.laws.proofs.Runs.{replaced, run-upto, run_long, run_lent, run-turns}
use Rattle.model.specs.Windows.{PowerLooks, step_look}
use Rattle.model.specs.Gate.{Gate}
use Rattle.model.specs.GateStores.{triple, gate_u16s, gate_floats, m_at, look_f, gate_of}
use Rattle.model.specs.GoodGate.{GoodLook, GoodGate, GateReady}
use Rattle.model.proofs.GateStores.{gate-forth-u, gate-forth-f, look_in, start_at, size_at, starts-meet, header, zeros-forth, pairs-forth}
use Rattle.model.proofs.GoodGates.{looks-of, smooth-of, used-of, threshold-of, gate-back, good-gate-ready, sizes, look-good, look-fits, length-look_f}
use Rattle.model.proofs.FreshGates.{with_looks, with_smooth, with_started, good-step-look, step-look-m}

-- ---- the two stores after k turns

abbrev pub looks_f : List ℕ → List Float → (PowerLooks → PowerLooks) → ℕ → List Float
looks_f u f S k = replaced (start_at u) k f (λ j. look_f (S (look_in u f j)))

abbrev pub looks_u : List ℕ → List Float → (PowerLooks → PowerLooks) → ℕ → List ℕ
looks_u u f S k = splice 6 (3 * k) u (joined (tab k (λ j. triple (S (look_in u f j)))))

-- S keeps m and the floats of each length
pub record Steady (u : List ℕ) (f : List Float) (S : PowerLooks → PowerLooks) : Type 0 where
  pub same : (j : ℕ) → j < get_or u 5 0 → (S (look_in u f j)).m ≡ m_at u j
  pub long : (j : ℕ) → j < get_or u 5 0 → length (look_f (S (look_in u f j))) ≡ size_at u j

set-three : (l : List ℕ) (c t : ℕ) → 3 ≤ length l → set (set l 1 c) 2 t ≡ get_or l 0 0 ∷ c ∷ t ∷ drop 3 l
set-three [] c t h = absurd (omega arith)
set-three (x ∷ []) c t h = absurd (omega arith)
set-three (x ∷ y ∷ []) c t h = absurd (omega arith)
set-three (x ∷ y ∷ z ∷ l) c t h = refl

-- the second and the third of three entries written
set-triple : (a : ℕ) (l : List ℕ) (c t : ℕ) → a + 3 ≤ length l → set (set l (a + 1) c) (a + 2) t ≡ splice a 3 l (get_or l a 0 ∷ c ∷ t ∷ [])
set-triple a l c t h =
    sym (take-append-drop a (set (set l (a + 1) c) (a + 2) t))
    ∙ ap₂ (λ (p q : List ℕ). p ++ q)
    (take-set-le a (set l (a + 1) c) (a + 2) t (omega arith) ∙ take-set-le a l (a + 1) c (omega arith))
    (drop-set-add a (set l (a + 1) c) 2 t
    ∙ ap (λ (q : List ℕ). set q 2 t) (drop-set-add a l 1 c)
    ∙ set-three (drop a l) c t (omega (arith, length-drop a l))
    ∙ ap (λ (m : ℕ). m ∷ c ∷ t ∷ drop 3 (drop a l)) (get_or-drop a l 0 0 ∙ ap (λ (k : ℕ). get_or l k 0) (add-zero a)))

module _ (u : List ℕ) (f : List Float) (S : PowerLooks → PowerLooks) (r : GateReady u f) (s : Steady u f S) (k : ℕ) where
  smooth-fits : start_at u 0 ≤ length f
  smooth-fits = let z = look-fits u f 0 r (sizes u f r).some in omega (arith, z)

  pub looks-long-f : k ≤ get_or u 5 0 → length (looks_f u f S k) ≡ length f
  looks-long-f h =
      run_long (start_at u) (size_at u) k f (λ j. look_f (S (look_in u f j))) (starts-meet u k) (λ j l. s.long j (omega arith)) smooth-fits
      (omega (arith, r.long_f, run-upto (start_at u) (size_at u) (get_or u 5 0) k (starts-meet u (get_or u 5 0)) h))

  pub looks-long-u : k ≤ get_or u 5 0 → length (looks_u u f S k) ≡ 30
  looks-long-u h =
      length-splice 6 (3 * k) u (joined (tab k (λ j. triple (S (look_in u f j))))) (omega (arith, r.long, (sizes u f r).few)) (length-joined 3 k (λ j. triple (S (look_in u f j))) (λ j l. refl))
      ∙ r.long

  -- the part of length k is still as it was
  pub looks-lent : k < get_or u 5 0 → part (start_at u k) (size_at u k) (looks_f u f S k) ≡ part (start_at u k) (size_at u k) f
  looks-lent h =
      run_lent (start_at u) (size_at u) k (size_at u k) f (λ j. look_f (S (look_in u f j))) (starts-meet u k) (λ j l. s.long j (omega arith)) smooth-fits

  -- and so are the entries from the triple k on
  pub looks-ahead : (i : ℕ) → 6 + 3 * k ≤ i → get_or (looks_u u f S k) i 0 ≡ get_or u i 0
  looks-ahead i h =
      get_d_past 6 (3 * k) u (joined (tab k (λ j. triple (S (look_in u f j))))) i 0 (length-joined 3 k (λ j. triple (S (look_in u f j))) (λ j l. refl)) (omega (arith, r.long)) h

  pub looks-turn-f : k < get_or u 5 0 → splice (start_at u k) (size_at u k) (looks_f u f S k) (look_f (S (look_in u f k))) ≡ looks_f u f S (k + 1)
  looks-turn-f h =
      run-turns (start_at u) (size_at u) k f (λ j. look_f (S (look_in u f j))) (starts-meet u (k + 1)) (λ j l. s.long j (omega arith)) smooth-fits

  pub looks-turn-u : k < get_or u 5 0
      → set (set (looks_u u f S k) (6 + 3 * k + 1) (S (look_in u f k)).cursor) (6 + 3 * k + 2) (S (look_in u f k)).filled ≡ looks_u u f S (k + 1)
  looks-turn-u h =
      set-triple (6 + 3 * k) (looks_u u f S k) (S (look_in u f k)).cursor (S (look_in u f k)).filled (omega (arith, looks-long-u (omega arith), (sizes u f r).few))
      ∙ ap (λ (m : ℕ). splice (6 + 3 * k) 3 (looks_u u f S k) (m ∷ (S (look_in u f k)).cursor ∷ (S (look_in u f k)).filled ∷ []))
      (looks-ahead (6 + 3 * k) (omega arith) ∙ sym (s.same k h))
      ∙ parts-turn 6 3 k u (λ j. triple (S (look_in u f j))) (λ j l. refl) (omega (arith, r.long, (sizes u f r).few))

module _ (u : List ℕ) (f : List Float) (S : PowerLooks → PowerLooks) (r : GateReady u f) where
  stepped : map S (gate_of u f).looks ≡ tab (get_or u 5 0) (λ j. S (look_in u f j))
  stepped = ap (map S) (looks-of u f) ∙ map-tab S (get_or u 5 0) (look_in u f)

  pub looks-end-f : looks_f u f S (get_or u 5 0) ≡ gate_floats (with_looks (gate_of u f) (map S (gate_of u f).looks))
  looks-end-f =
      (λ i.
      sym (smooth-of u f) i
      ++ (joined (sym (ap (map look_f) stepped ∙ map-tab look_f C (λ j. S (look_in u f j))) i)
      ++ sym (ap₂ (λ (p q : List Float). p ++ q) (used-of u f) (threshold-of u f) ∙ pairs-forth u f r.long_f) i))
    where
      C : ℕ
      C = get_or u 5 0

  pub looks-end-u : looks_u u f S (get_or u 5 0) ≡ gate_u16s (with_looks (gate_of u f) (map S (gate_of u f).looks))
  unfolding gate_of
  looks-end-u =
      ap₂ (λ (p q : List ℕ). p ++ (joined (tab C (λ j. triple (S (look_in u f j)))) ++ q)) (sym (ap (take 6) (header u (omega (arith, r.long))))) rest
      ∙ sym
      (ap (λ (ls : List PowerLooks). gate_u16s (with_looks (gate_of u f) ls)) stepped
      ∙ ap₂
      (λ (k : ℕ) (ts : List (List ℕ)).
      get_or u 0 0 ∷ get_or u 1 0 ∷ get_or u 2 0 ∷ get_or u 3 0 ∷ get_or u 4 0 ∷ k ∷ (joined ts ++ replicate (24 - 3 * k) 0))
      (length-tab C (λ j. S (look_in u f j))) (map-tab triple C (λ j. S (look_in u f j))))
    where
      C : ℕ
      C = get_or u 5 0

      rest : drop (3 * C) (drop 6 u) ≡ replicate (24 - 3 * C) 0
      rest =
          drop-drop (3 * C) 6 u
          ∙ sym (take_all (24 - 3 * C) (drop (6 + 3 * C) u) (omega (arith, length-drop (6 + 3 * C) u, r.long)))
          ∙ sym (zeros-forth u (6 + 3 * C) (24 - 3 * C) (omega (arith, r.long, (sizes u f r).few)) (λ i h l. r.unused i h (omega (arith, (sizes u f r).few))))

pub steady : (u : List ℕ) (f : List Float) (S : PowerLooks → PowerLooks) → GateReady u f → ((l : PowerLooks) → (S l).m ≡ l.m)
    → ((l : PowerLooks) → GoodLook (get_or u 0 0) l → GoodLook (get_or u 0 0) (S l)) → Steady u f S
steady u f S r same good =
    record {
      same = λ j h. same (look_in u f j);
      long = λ j h. length-look_f (get_or u 0 0) (S (look_in u f j)) (good (look_in u f j) (look-good u f j r h)) ∙ ap (λ (m : ℕ). 2 * m * get_or u 0 0 + get_or u 0 0 + get_or u 0 0) (same (look_in u f j));
    }

-- the step of document 01
pub steady-step : (u : List ℕ) (f : List Float) (sample : ℕ → Float) → GateReady u f → Steady u f (step_look (get_or u 0 0) sample)
steady-step u f sample r =
    steady u f (step_look (get_or u 0 0) sample) r (step-look-m (get_or u 0 0) sample) (good-step-look (get_or u 0 0) sample)

-- ---- the other parts of a gate update

pub put-smooth : (g : Gate) (x : List Float) → length g.smooth ≡ g.n → splice 0 g.n (gate_floats g) x ≡ gate_floats (with_smooth g x)
put-smooth g x e = splice-mid [] g.smooth (joined (map look_f g.looks) ++ (g.used ++ g.threshold)) x 0 g.n refl e

pub put-started : (g : Gate) (s : ℕ) → set (gate_u16s g) 1 s ≡ gate_u16s (with_started g s)
put-started g s = refl

-- ---- two stores and the gate that they hold

pub holds-u : (u : List ℕ) (f : List Float) → GateReady u f → u ≡ gate_u16s (gate_of u f)
holds-u u f r = sym (gate-forth-u u f r.long (sizes u f r).few r.unused)

pub holds-f : (u : List ℕ) (f : List Float) → GateReady u f → f ≡ gate_floats (gate_of u f)
holds-f u f r = sym (gate-forth-f u f r.long_f)

pub held-ready : (u : List ℕ) (f : List Float) (g : Gate) → GoodGate g → u ≡ gate_u16s g → f ≡ gate_floats g → GateReady u f
held-ready u f g s a b =
    subst (λ (v : List ℕ). GateReady v f) (sym a) (subst (GateReady (gate_u16s g)) (sym b) (good-gate-ready g s))

pub held-is : (u : List ℕ) (f : List Float) (g : Gate) → GoodGate g → u ≡ gate_u16s g → f ≡ gate_floats g → gate_of u f ≡ g
held-is u f g s a b = ap₂ gate_of a b ∙ gate-back g s
