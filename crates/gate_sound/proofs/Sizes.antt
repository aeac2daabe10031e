-- Laws on the lengths of the gate's stores and on its refusals, each from the tests that lead to it. Assumes nothing.
use mathlib.Core.Path.{◌≡◌, refl, ◌∙◌}
use mathlib.Core.Bool.{Bool, true, not, ◌&&◌, ◌||◌}
use mathlib.Core.List.{List}
use Prim.Native.Nat.{ℕ, ◌*◌, ◌<◌, ◌≤◌}
use native.Mathlib.Nat.{mul-le-mul_right}
use native.Mathlib.Omega.{arith}
use lib.Dec.{eqb, ltb, leb}
use lib.ListN.{length, get_or}
use lib.Ieee.{Float}
use borrow.Author.Tests.{lt-ltb}
use Rattle.laws.specs.Tests.{all_below, within, differ, first}
use Rattle.laws.proofs.Tests.{and_l, and_r, all-at, passed, same_of, within_of}
use Rattle.model.specs.GateStores.{m_at, cursor_at, filled_at, gate_f_len, sound_level, sound_triple, new_length, sound_triples, sound_head, sound_gate}
use Rattle.model.specs.GateCalls.{gate_refusal}
use Rattle.gate_sound.specs.Checks.{sound_length}

-- the one product of two unknowns
pub ring-small : (n m : ℕ) → n ≤ 512 → m ≤ 375 → 2 * m * n ≤ 384000
ring-small n m h k = let z : 2 * m ≤ 750 = omega arith in omega (arith, mul-le-mul_right n z)

-- ---- the u16 store

pub triples-are : (u : List ℕ) → all_below 8 (sound_length u) ≡ sound_triples u
unfolding sound_triples sound_length
triples-are u = refl

in_use : (u : List ℕ) (j : ℕ) → j < get_or u 5 0 → sound_length u j ≡ true → m_at u j ≤ 375
unfolding sound_length
in_use u j h t =
    let w = within 1 375 (m_at u j) in
    let c = ltb (cursor_at u j) (2 * m_at u j) in
    let s = rw (lt-ltb j (get_or u 5 0) h) at t in
    let q = and_l (sound_triple (m_at u j) (cursor_at u j) (filled_at u j)) (new_length (m_at u) j) s in
    (within_of 1 375 (m_at u j) (and_l w c (and_l (w && c) _ (and_l _ _ q)))).1

-- what the lengths of a sound gate ask
pub record Sized (u : List ℕ) : Type 0 where
  pub high : get_or u 0 0 ≤ 512
  pub few : get_or u 5 0 ≤ 8
  pub short : (j : ℕ) → j < get_or u 5 0 → m_at u j ≤ 375

abbrev head_of : List ℕ → Bool
head_of u = sound_head (get_or u 0 0) (get_or u 1 0) (get_or u 2 0) (get_or u 3 0) (get_or u 4 0) (get_or u 5 0)

head-n : (n started on off early count : ℕ) → sound_head n started on off early count ≡ true → (n ≤ 512) × (count ≤ 8)
head-n n started on off early count h =
    let a = within 1 512 n in
    let b = a && leb started 1 in
    let c = b && sound_level on in
    let d = c && sound_level off in
    let e = d && (eqb early 65535 || sound_level early) in
    let w = and_l a _ (and_l b _ (and_l c _ (and_l d _ (and_l e (within 1 8 count) h)))) in
    ((within_of 1 512 n w).1, (within_of 1 8 count (and_r e (within 1 8 count) h)).1)

pub sized : (u : List ℕ) → sound_gate u ≡ true → Sized u
unfolding sound_gate
sized u h =
    let s = head-n (get_or u 0 0) (get_or u 1 0) (get_or u 2 0) (get_or u 3 0) (get_or u 4 0) (get_or u 5 0) (and_l (head_of u) (sound_triples u) h) in
    record {
      high = s.0;
      few = s.1;
      short = λ j k. in_use u j k (all-at (sound_length u) 8 j (triples-are u ∙ and_r (head_of u) (sound_triples u) h) (omega arith));
    }

-- ---- the gate

-- a gate that is not refused has its header
pub thirty : (u : List ℕ) (f : List Float) → gate_refusal u f ≡ 0 → length u ≡ 30
unfolding gate_refusal
thirty u f e = same_of (length u) 30 (passed (differ (length u) 30) 2 (first (not (sound_gate u)) 9 (first (differ (length f) (gate_f_len u)) 2 0)) (omega arith) e).0
