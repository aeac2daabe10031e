-- A gate in its two stores: stores of the right lengths are their gate's, and what the parts of an encoded gate read. Assumes nothing.
use mathlib.Core.Path.{◌≡◌, refl, sym, ap, ap₂, ◌∙◌}
use mathlib.Core.List.{List, [], ◌∷◌, ◌++◌, append_assoc, map}
use Prim.Native.Nat.{ℕ, ◌+◌, ◌-◌, ◌*◌, ◌<◌, ◌≤◌}
use native.Mathlib.Omega.{arith}
use native.Mathlib.Numerals.{add-one}
use native.Mathlib.Nat.{add-zero}
use lib.ListN.{length, get_or, take, drop, replicate, length-drop, take-append-drop, length-replicate, get_or-replicate}
use lib.Seq.{take_all, ext_get_or, get_or-drop}
use lib.Ieee.{Float}
use Rattle.laws.specs.Lists.{part, tab, joined}
use Rattle.laws.proofs.Lists.{length_part, get_d_part}
use Rattle.laws.proofs.Tabs.{length-tab, tab-ext, map-tab}
use Rattle.laws.proofs.Joined.{joined-parts, parts_meet}
use Rattle.laws.proofs.Runs.{Meets, run-within, run-parts}
use Rattle.model.specs.Windows.{PowerLooks}
use Rattle.model.specs.GateStores.{triple, gate_u16s, gate_floats, m_at, cursor_at, filled_at, look_f, look_size, look_start, look_of, pair_start, gate_of, gate_f_len}
use Rattle.model.proofs.WindowStores.{look-forth}

-- ---- where the lengths stand

-- the floats of length j
abbrev pub size_at : List ℕ → ℕ → ℕ
size_at u j = look_size (get_or u 0 0) (m_at u j)

abbrev pub start_at : List ℕ → ℕ → ℕ
start_at u j = look_start (get_or u 0 0) (m_at u) j

abbrev pub look_in : List ℕ → List Float → ℕ → PowerLooks
look_in u f j = look_of (get_or u 0 0) (m_at u j) (cursor_at u j) (filled_at u j) (part (start_at u j) (size_at u j) f)

pub starts-meet : (u : List ℕ) (c : ℕ) → Meets (start_at u) (size_at u) c
starts-meet u c = λ j h. refl

pub start-next : (u : List ℕ) (j : ℕ) → start_at u (j + 1) ≡ start_at u j + size_at u j
start-next u j = ap (start_at u) (add-one j)

-- length j lies in its store
pub part-fits : (u : List ℕ) (f : List Float) (j : ℕ) → length f ≡ gate_f_len u → j < get_or u 5 0 → start_at u j + size_at u j ≤ length f
part-fits u f j e h = omega (arith, run-within (start_at u) (size_at u) (get_or u 5 0) j (starts-meet u (get_or u 5 0)) h)

-- ---- stores of the right lengths are their gate's

first_three : (l : List ℕ) → 3 ≤ length l → take 3 l ≡ get_or l 0 0 ∷ get_or l 1 0 ∷ get_or l 2 0 ∷ []
first_three [] h = absurd (omega arith)
first_three (x ∷ []) h = absurd (omega arith)
first_three (x ∷ y ∷ []) h = absurd (omega arith)
first_three (x ∷ y ∷ z ∷ l) h = refl

-- three entries from a on
pub three : (a : ℕ) (l : List ℕ) → a + 3 ≤ length l → part a 3 l ≡ get_or l a 0 ∷ get_or l (a + 1) 0 ∷ get_or l (a + 2) 0 ∷ []
three a l h =
    first_three (drop a l) (omega (arith, length-drop a l))
    ∙ (λ i. (get_or-drop a l 0 0 ∙ ap (λ (k : ℕ). get_or l k 0) (add-zero a)) i ∷ get_or-drop a l 1 0 i ∷ get_or-drop a l 2 0 i ∷ [])

-- the pairs: what stands behind the last length
pub pairs-forth : (u : List ℕ) (f : List Float) → length f ≡ gate_f_len u
    → part (pair_start u) (get_or u 0 0) f ++ part (pair_start u + get_or u 0 0) (get_or u 0 0) f ≡ drop (pair_start u) f
pairs-forth u f e =
    parts_meet (pair_start u) (get_or u 0 0) (pair_start u + get_or u 0 0) (get_or u 0 0) f refl
    ∙ take_all (get_or u 0 0 + get_or u 0 0) (drop (pair_start u) f) (omega (arith, length-drop (pair_start u) f))

pub gate-forth-f : (u : List ℕ) (f : List Float) → length f ≡ gate_f_len u → gate_floats (gate_of u f) ≡ f
unfolding gate_of
gate-forth-f u f e =
    ap₂ (λ (r s : List Float). take (get_or u 0 0) f ++ (r ++ s))
    (ap joined
    (map-tab look_f C (look_in u f)
    ∙ tab-ext C (λ j. look_f (look_in u f j)) (λ j. part (start_at u j) (size_at u j) f)
    (λ j h.
    look-forth (get_or u 0 0) (m_at u j) (cursor_at u j) (filled_at u j) (part (start_at u j) (size_at u j) f)
    (length_part (start_at u j) (size_at u j) f (part-fits u f j e h)))))
    (pairs-forth u f e)
    ∙ sym (append_assoc (take (get_or u 0 0) f) (joined (tab C (λ j. part (start_at u j) (size_at u j) f))) (drop (pair_start u) f))
    ∙ ap (λ (r : List Float). r ++ drop (pair_start u) f) (run-parts (start_at u) (size_at u) C f (starts-meet u C))
    ∙ take-append-drop (start_at u C) f
  where
    C : ℕ
    C = get_or u 5 0

pub header : (u : List ℕ) → 6 ≤ length u → get_or u 0 0 ∷ get_or u 1 0 ∷ get_or u 2 0 ∷ get_or u 3 0 ∷ get_or u 4 0 ∷ get_or u 5 0 ∷ drop 6 u ≡ u
header [] e = absurd (omega arith)
header (a ∷ []) e = absurd (omega arith)
header (a ∷ b ∷ []) e = absurd (omega arith)
header (a ∷ b ∷ c ∷ []) e = absurd (omega arith)
header (a ∷ b ∷ c ∷ d ∷ []) e = absurd (omega arith)
header (a ∷ b ∷ c ∷ d ∷ x ∷ []) e = absurd (omega arith)
header (a ∷ b ∷ c ∷ d ∷ x ∷ y ∷ u) e = refl

-- the triples
triples-forth : (u : List ℕ) (f : List Float) (c : ℕ) → 6 + 3 * c ≤ length u → joined (map triple (tab c (look_in u f))) ≡ part 6 (3 * c) u
triples-forth u f c e =
    ap joined
    (map-tab triple c (look_in u f)
    ∙ tab-ext c (λ j. triple (look_in u f j)) (λ j. part (6 + 3 * j) 3 u) (λ j h. sym (three (6 + 3 * j) u (omega arith))))
    ∙ joined-parts 6 3 c u

-- entries that are not used are zero
pub zeros-forth : (u : List ℕ) (a w : ℕ) → a + w ≤ length u → ((i : ℕ) → a ≤ i → i < a + w → get_or u i 0 ≡ 0) → replicate w 0 ≡ part a w u
zeros-forth u a w e zero-at =
    ext_get_or 0 (replicate w 0) (part a w u) (length-replicate {A = ℕ} w 0 ∙ sym (length_part a w u e))
    (λ i h.
    let k : i < w = omega (arith, length-replicate {A = ℕ} w 0) in
    get_or-replicate {A = ℕ} w i 0 0 k ∙ sym (get_d_part a w u i 0 k ∙ zero-at (a + i) (omega arith) (omega arith)))

pub gate-forth-u : (u : List ℕ) (f : List Float) → length u ≡ 30 → get_or u 5 0 ≤ 8 → ((i : ℕ) → 6 + 3 * get_or u 5 0 ≤ i → i < 30 → get_or u i 0 ≡ 0)
    → gate_u16s (gate_of u f) ≡ u
unfolding gate_of
gate-forth-u u f e few unused =
    ap (λ (k : ℕ). get_or u 0 0 ∷ get_or u 1 0 ∷ get_or u 2 0 ∷ get_or u 3 0 ∷ get_or u 4 0 ∷ k ∷ (joined (map triple (tab C (look_in u f))) ++ replicate (24 - 3 * k) 0))
    (length-tab C (look_in u f))
    ∙ ap (λ (r : List ℕ). get_or u 0 0 ∷ get_or u 1 0 ∷ get_or u 2 0 ∷ get_or u 3 0 ∷ get_or u 4 0 ∷ C ∷ r) rest
    ∙ header u (omega arith)
  where
    C : ℕ
    C = get_or u 5 0

    rest : joined (map triple (tab C (look_in u f))) ++ replicate (24 - 3 * C) 0 ≡ drop 6 u
    rest =
        ap₂ (λ (r s : List ℕ). r ++ s) (triples-forth u f C (omega arith))
        (zeros-forth u (6 + 3 * C) (24 - 3 * C) (omega arith) (λ i h l. unused i h (omega arith)))
        ∙ parts_meet 6 (3 * C) (6 + 3 * C) (24 - 3 * C) u refl
        ∙ take_all (3 * C + (24 - 3 * C)) (drop 6 u) (omega (arith, length-drop 6 u))
