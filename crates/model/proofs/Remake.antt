-- R-14: a gate remade is the gate made with those settings. Assumes nothing.
use mathlib.Core.Path.{◌≡◌, refl, sym, ap, ap₂, ◌∙◌}
use mathlib.Core.Bool.{true, false, not, ◌&&◌, ◌||◌}
use mathlib.Core.List.{List, [], ◌∷◌}
use Prim.Native.Nat.{ℕ, zero, suc, ◌+◌, ◌*◌, ◌<◌}
use native.Mathlib.Omega.{arith}
use lib.ListN.{length, get_or}
use lib.IntN.{ℤ}
use lib.Ieee.{Float}
use borrow.Author.Tests.{not-false, eq-eqb, ne_eqb}
use Rattle.laws.specs.Lists.{tab_from, tab}
use Rattle.laws.specs.Tests.{within, first}
use Rattle.laws.proofs.Tests.{inside}
use Rattle.laws.proofs.Tabs.{length-tab, get_d-tab}
use Rattle.model.specs.Gate.{among, distinct}
use Rattle.model.specs.GateStores.{m_at, look_start, look_size, floats, gate_f_len}
use Rattle.model.specs.GateCalls.{all_within, good_lengths, good_level, absent, floats_for, gate_make_refusal, gate_new_call}
use Rattle.model.specs.GoodGate.{GateReady}
use Rattle.model.specs.Remake.{lengths_in, remake_refusal, gate_remake_call, Remade}
use Rattle.model.proofs.GoodGates.{gate-ready, sizes, look-good, look-of, count_of}

-- ---- distinct lengths stay as they are

-- none of those from i on stands in `seen`, and no two of them are equal
distinct_from : (i n : ℕ) (m : ℕ → ℕ) (seen : List ℕ) → ((j : ℕ) → i + 0 < suc j → j < i + n → among (m j) seen ≡ false)
    → ((a b : ℕ) → i < suc a → a < b → b < i + n → m a ≡ m b → ⊥) → distinct seen (tab_from i n m) ≡ tab_from i n m
unfolding distinct
distinct_from i zero m seen new apart = refl
distinct_from i (suc n) m seen new apart =
    let here : among (m i) seen ≡ false = new i (omega arith) (omega arith) in
    rw here
    (ap (λ (l : List ℕ). m i ∷ l)
    (distinct_from (suc i) n m (m i ∷ seen)
    (λ j l h. rw (ne_eqb (m j) (m i) (λ e. apart i j (omega arith) (omega arith) (omega arith) (sym e)), new j (omega arith) (omega arith)))
    (λ a b l h k. apart a b (omega arith) h (omega arith))))

pub distinct-tab : (n : ℕ) (m : ℕ → ℕ) → ((a b : ℕ) → a < b → b < n → m a ≡ m b → ⊥) → distinct [] (tab n m) ≡ tab n m
distinct-tab n m apart = distinct_from 0 n m [] (λ j l h. refl) (λ a b l h k. apart a b h (omega arith))

-- ---- the lengths of a sound gate

within-from : (i n : ℕ) (m : ℕ → ℕ) → ((j : ℕ) → i < suc j → j < i + n → within 1 375 (m j) ≡ true) → all_within (tab_from i n m) ≡ true
within-from i zero m h = refl
within-from i (suc n) m h = rw (h i (omega arith) (omega arith), within-from (suc i) n m (λ j l k. h j (omega arith) (omega arith)))

starts-alike : (n : ℕ) (m l : ℕ → ℕ) (c : ℕ) → ((j : ℕ) → j < c → m j ≡ l j) → look_start n m c ≡ look_start n l c
starts-alike n m l zero h = refl
starts-alike n m l (suc c) h = ap₂ ◌+◌ (starts-alike n m l c (λ j k. h j (omega arith))) (ap (look_size n) (h c (omega arith)))

in_bounds : (low high x : ℕ) → not (within low high x) ≡ false → within low high x ≡ true
in_bounds low high x = not-false (within low high x)

module _ (u : List ℕ) (f : List Float) (r : GateReady u f) where
  abbrev count : ℕ
  count = get_or u 5 0

  pub lengths-distinct : distinct [] (lengths_in u) ≡ lengths_in u
  lengths-distinct =
      distinct-tab count (m_at u)
      (λ a b l h e.
      r.good.distinct a b l (omega (arith, count_of u f)) (ap (λ l. l.m) (look-of u f a (omega arith)) ∙ e ∙ sym (ap (λ l. l.m) (look-of u f b h))))

  pub lengths-taken : good_lengths (lengths_in u) ≡ true
  unfolding good_lengths
  lengths-taken =
      let s = sizes u f r in
      let few : within 1 8 (length (lengths_in u)) ≡ true =
      ap (within 1 8) (length-tab count (m_at u)) ∙ in_bounds 1 8 count (inside 1 8 count s.some s.few) in
      rw (
        few,
        within-from 0 count (m_at u) (λ j l h. let g = look-good u f j r (omega arith) in in_bounds 1 375 (m_at u j) (inside 1 375 (m_at u j) g.some g.few)),
      )

  pub floats_same : floats_for (get_or u 0 0) (distinct [] (lengths_in u)) ≡ gate_f_len u
  floats_same =
      ap (floats_for (get_or u 0 0)) lengths-distinct
      ∙ ap (λ (c : ℕ). floats (get_or u 0 0) (λ j. get_or (lengths_in u) j 0) c) (length-tab count (m_at u))
      ∙ ap (λ (s : ℕ). s + 2 * get_or u 0 0) (starts-alike (get_or u 0 0) (λ j. get_or (lengths_in u) j 0) (m_at u) count (λ j h. get_d-tab count (m_at u) j 0 h))

  -- making refuses for the levels alone
  pub makes : (on off early : ℤ) → gate_make_refusal (length u) (length f) (get_or u 0 0) on off early (lengths_in u)
      ≡ first (not (good_level on && good_level off && (absent early || good_level early))) 4 0
  unfolding gate_make_refusal
  makes on off early =
      let s = sizes u f r in
      rw (
        inside 1 512 (get_or u 0 0) s.low s.high,
        lengths-taken,
        r.long,
        eq-eqb (length f) (floats_for (get_or u 0 0) (distinct [] (lengths_in u))) (r.long_f ∙ sym floats_same),
      )

pub remade : Remade
unfolding gate_remake_call remake_refusal gate_new_call
remade u f on off early passes =
    rw (passes, makes u f (gate-ready u f passes) on off early)
