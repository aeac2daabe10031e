-- A sound gate: it comes back from its stores, they pass the test of the refusals, and what passes that test is sound. Assumes nothing.
use mathlib.Core.Path.{◌≡◌, refl, sym, ap, subst, ◌∙◌}
use mathlib.Core.Bool.{Bool, true, not, cond, ◌&&◌, ◌||◌}
use mathlib.Core.List.{List, [], ◌∷◌, ◌++◌, append_assoc, map}
use mathlib.Core.Logic.{◌⊎◌, inl, inr}
use Prim.Native.Nat.{ℕ, ◌+◌, ◌-◌, ◌*◌, ◌/◌, ◌<◌, ◌≤◌}
use native.Mathlib.Nat.{add-zero}
use native.Mathlib.Omega.{arith}
use lib.Dec.{eqb, ltb, leb}
use lib.ListN.{length, get_or, replicate, length-append, length-replicate, get_or-replicate}
use lib.Seq.{get_or-append-add}
use lib.Ieee.{Float}
use borrow.Author.Tests.{ltb-true, ltb-false, leb-true, eqb-true, eqb-false, lt-ltb, le-ltb, le-leb, eq-eqb, ne_eqb, not-true, not-false}
use Rattle.laws.specs.Lists.{part, tab, joined}
use Rattle.laws.specs.Tests.{all_below, within, differ}
use Rattle.laws.proofs.Lists.{length_part, get_d_part, part-mid, row}
use Rattle.laws.proofs.Tabs.{length-tab, get_d-tab, tab-ext, tab-get_d, map-tab, length-joined}
use Rattle.laws.proofs.Joined.{part-joined, part-skip, part-last}
use Rattle.laws.proofs.Runs.{run-within, run-part, run_length, part-in-first}
use Rattle.laws.proofs.Tests.{by-test, and_l, and_r, and-true, all-at, all_true, passed, same_of, within_of}
use Rattle.model.specs.Windows.{PowerLooks, fresh_look}
use Rattle.model.specs.Gate.{Gate}
use Rattle.model.specs.GateStores.{triple, gate_u16s, gate_floats, m_at, cursor_at, filled_at, look_f, look_size, look_of, pair_start, gate_of, gate_f_len, sound_level, sound_triple, new_length, sound_triples, sound_head, sound_gate}
use Rattle.model.specs.GateCalls.{gate_refusal}
use Rattle.model.proofs.WindowStores.{Shaped, look-long, look-back}
use Rattle.model.specs.GoodGate.{GoodLook, GoodGate, GateReady, look_at}
use Rattle.model.proofs.GateStores.{look_in, start_at, size_at, starts-meet, part-fits}

-- ---- what two ready stores hold

pub n-of : (u : List ℕ) (f : List Float) → (gate_of u f).n ≡ get_or u 0 0
unfolding gate_of
n-of u f = refl

pub started_of : (u : List ℕ) (f : List Float) → (gate_of u f).started ≡ get_or u 1 0
unfolding gate_of
started_of u f = refl

pub on_of : (u : List ℕ) (f : List Float) → (gate_of u f).on ≡ get_or u 2 0
unfolding gate_of
on_of u f = refl

pub off_of : (u : List ℕ) (f : List Float) → (gate_of u f).off ≡ get_or u 3 0
unfolding gate_of
off_of u f = refl

pub early-of : (u : List ℕ) (f : List Float) → (gate_of u f).early ≡ get_or u 4 0
unfolding gate_of
early-of u f = refl

pub looks-of : (u : List ℕ) (f : List Float) → (gate_of u f).looks ≡ tab (get_or u 5 0) (look_in u f)
unfolding gate_of
looks-of u f = refl

pub smooth-of : (u : List ℕ) (f : List Float) → (gate_of u f).smooth ≡ part 0 (get_or u 0 0) f
unfolding gate_of
smooth-of u f = refl

pub used-of : (u : List ℕ) (f : List Float) → (gate_of u f).used ≡ part (pair_start u) (get_or u 0 0) f
unfolding gate_of
used-of u f = refl

pub threshold-of : (u : List ℕ) (f : List Float) → (gate_of u f).threshold ≡ part (pair_start u + get_or u 0 0) (get_or u 0 0) f
unfolding gate_of
threshold-of u f = refl

pub count_of : (u : List ℕ) (f : List Float) → length (gate_of u f).looks ≡ get_or u 5 0
count_of u f = ap length (looks-of u f) ∙ length-tab (get_or u 5 0) (look_in u f)

pub look-of : (u : List ℕ) (f : List Float) (j : ℕ) → j < get_or u 5 0 → look_at (gate_of u f) j ≡ look_in u f j
look-of u f j h = ap (λ (ls : List PowerLooks). get_or ls j (fresh_look 0 0)) (looks-of u f) ∙ get_d-tab (get_or u 5 0) (look_in u f) j (fresh_look 0 0) h

-- the entries of the header: n, started, on, off, early, how many lengths
pub record Head (n s a b e c : ℕ) : Type 0 where
  pub low : 1 ≤ n
  pub high : n ≤ 512
  pub started : s ≤ 1
  pub on : a ≤ 1600
  pub off : b ≤ 1600
  pub early : (e ≡ 65535) ⊎ (e ≤ 1600)
  pub some : 1 ≤ c
  pub few : c ≤ 8

pub sizes : (u : List ℕ) (f : List Float) → GateReady u f → Head (get_or u 0 0) (get_or u 1 0) (get_or u 2 0) (get_or u 3 0) (get_or u 4 0) (get_or u 5 0)
unfolding gate_of
sizes u f r =
    record {
      low = r.good.low;
      high = r.good.high;
      started = r.good.started;
      on = r.good.on;
      off = r.good.off;
      early = r.good.early;
      some = omega (arith, r.good.some, count_of u f);
      few = omega (arith, r.good.few, count_of u f);
    }

-- length j, as the stores have it
pub look-good : (u : List ℕ) (f : List Float) (j : ℕ) → GateReady u f → j < get_or u 5 0 → GoodLook (get_or u 0 0) (look_in u f j)
look-good u f j r h =
    subst (λ (l : PowerLooks). GoodLook (get_or u 0 0) l) (look-of u f j h)
    (subst (λ (n : ℕ). GoodLook n (look_at (gate_of u f) j)) (n-of u f) (r.good.look j (omega (arith, count_of u f))))

pub look-fits : (u : List ℕ) (f : List Float) (j : ℕ) → GateReady u f → j < get_or u 5 0 → start_at u j + size_at u j ≤ length f
look-fits u f j r h = part-fits u f j r.long_f h

-- ---- one length

pub shaped : (n : ℕ) (l : PowerLooks) → GoodLook n l → Shaped n l
shaped n l g = record { rings_many = g.rings_long; ring_long = g.ring_long; recent_long = g.recent_long; previous_long = g.previous_long }

pub length-look_f : (n : ℕ) (l : PowerLooks) → GoodLook n l → length (look_f l) ≡ look_size n l.m
length-look_f n l g = look-long n l (shaped n l g)

-- ---- a sound gate comes back from its stores

written : {A : Type 0} (F : PowerLooks → List A) (g : Gate) → joined (map F g.looks) ≡ joined (tab (length g.looks) (λ j. F (look_at g j)))
written F g =
    ap (λ (ls : List PowerLooks). joined (map F ls)) (sym (tab-get_d g.looks (fresh_look 0 0) (length g.looks) refl))
    ∙ ap joined (map-tab F (length g.looks) (look_at g))

triples-long : (g : Gate) → length (joined (map triple g.looks)) ≡ 3 * length g.looks
triples-long g = ap length (written triple g) ∙ length-joined 3 (length g.looks) (λ j. triple (look_at g j)) (λ j h. refl)

triple-back : (g : Gate) (j : ℕ) → j < length g.looks → part (6 + 3 * j) 3 (gate_u16s g) ≡ triple (look_at g j)
triple-back g j h =
    part-skip (g.n ∷ g.started ∷ g.on ∷ g.off ∷ g.early ∷ length g.looks ∷ []) (T ++ replicate (24 - 3 * length g.looks) 0) 6 (3 * j) (6 + 3 * j) 3 refl refl
    ∙ part-in-first T (replicate (24 - 3 * length g.looks) 0) (3 * j) 3 (omega (arith, triples-long g))
    ∙ ap (part (3 * j) 3) (written triple g)
    ∙ part-joined 3 (length g.looks) j (λ i. triple (look_at g i)) (λ i l. refl) h
  where
    T : List ℕ
    T = joined (map triple g.looks)

module _ (g : Gate) (j : ℕ) (h : j < length g.looks) where
  entry-back : (i : ℕ) → i < 3 → get_or (gate_u16s g) (6 + 3 * j + i) 0 ≡ get_or (triple (look_at g j)) i 0
  entry-back i l = sym (get_d_part (6 + 3 * j) 3 (gate_u16s g) i 0 l) ∙ ap (λ (t : List ℕ). get_or t i 0) (triple-back g j h)

  pub m-back : m_at (gate_u16s g) j ≡ (look_at g j).m
  m-back = sym (ap (λ (i : ℕ). get_or (gate_u16s g) i 0) (add-zero (6 + 3 * j))) ∙ entry-back 0 (omega arith)

  pub cursor-back : cursor_at (gate_u16s g) j ≡ (look_at g j).cursor
  cursor-back = entry-back 1 (omega arith)

  pub filled-back : filled_at (gate_u16s g) j ≡ (look_at g j).filled
  filled-back = entry-back 2 (omega arith)

module _ (g : Gate) (s : GoodGate g) where
  size_back : (j : ℕ) → j < length g.looks → length (look_f (look_at g j)) ≡ size_at (gate_u16s g) j
  size_back j h = length-look_f g.n (look_at g j) (s.look j h) ∙ ap (look_size g.n) (sym (m-back g j h))

  -- the smoothed dB and the lengths, before the pairs
  abbrev pub front : List Float
  front = g.smooth ++ joined (map look_f g.looks)

  pub front_long : length front ≡ pair_start (gate_u16s g)
  front_long =
      omega (
        arith,
        length-append g.smooth (joined (map look_f g.looks)),
        s.smooth_long,
        ap length (written look_f g),
        run_length (start_at (gate_u16s g)) (size_at (gate_u16s g)) (length g.looks) (λ i. look_f (look_at g i)) (starts-meet (gate_u16s g) (length g.looks)) size_back,
      )

  pub fronted : gate_floats g ≡ front ++ (g.used ++ g.threshold)
  fronted = sym (append_assoc g.smooth (joined (map look_f g.looks)) (g.used ++ g.threshold))

  -- the floats of length j
  pub floats-back : (j : ℕ) → j < length g.looks → part (start_at (gate_u16s g) j) (size_at (gate_u16s g) j) (gate_floats g) ≡ look_f (look_at g j)
  floats-back j h =
      ap (part (start_at (gate_u16s g) j) (size_at (gate_u16s g) j)) fronted
      ∙ part-in-first front (g.used ++ g.threshold) (start_at (gate_u16s g) j) (size_at (gate_u16s g) j)
      (omega (arith, front_long, run-within (start_at (gate_u16s g)) (size_at (gate_u16s g)) (length g.looks) j (starts-meet (gate_u16s g) (length g.looks)) h))
      ∙ ap (λ (r : List Float). part (start_at (gate_u16s g) j) (size_at (gate_u16s g) j) (g.smooth ++ r)) (written look_f g)
      ∙ run-part (start_at (gate_u16s g)) (size_at (gate_u16s g)) (length g.looks) j g.smooth (λ i. look_f (look_at g i))
      (starts-meet (gate_u16s g) (length g.looks)) size_back s.smooth_long h

  -- R-3: the pairs
  used-back : part (pair_start (gate_u16s g)) g.n (gate_floats g) ≡ g.used
  used-back =
      ap (part (pair_start (gate_u16s g)) g.n) fronted ∙ part-mid front g.used g.threshold (pair_start (gate_u16s g)) g.n front_long s.used_long

  threshold-back : part (pair_start (gate_u16s g) + g.n) g.n (gate_floats g) ≡ g.threshold
  threshold-back =
      ap (part (pair_start (gate_u16s g) + g.n) g.n) fronted
      ∙ part-skip front (g.used ++ g.threshold) (pair_start (gate_u16s g)) g.n (pair_start (gate_u16s g) + g.n) g.n front_long refl
      ∙ part-last g.used g.threshold g.n g.n s.used_long s.threshold_long

  look-in-back : (j : ℕ) → j < length g.looks → look_in (gate_u16s g) (gate_floats g) j ≡ look_at g j
  look-in-back j h =
      (λ i. look_of g.n (m-back g j h i) (cursor-back g j h i) (filled-back g j h i) (floats-back j h i))
      ∙ look-back g.n (look_at g j) (shaped g.n (look_at g j) (s.look j h))

  looks-back : tab (length g.looks) (look_in (gate_u16s g) (gate_floats g)) ≡ g.looks
  looks-back =
      tab-ext (length g.looks) (look_in (gate_u16s g) (gate_floats g)) (look_at g) look-in-back
      ∙ tab-get_d g.looks (fresh_look 0 0) (length g.looks) refl

  pub gate-back : gate_of (gate_u16s g) (gate_floats g) ≡ g
  unfolding gate_of
  gate-back =
      λ i.
      record {
        n = g.n;
        started = g.started;
        on = g.on;
        off = g.off;
        early = g.early;
        looks = looks-back i;
        smooth = part-mid [] g.smooth (joined (map look_f g.looks) ++ (g.used ++ g.threshold)) 0 g.n refl s.smooth_long i;
        used = used-back i;
        threshold = threshold-back i;
      }

  pub length-gate_u : length (gate_u16s g) ≡ 30
  length-gate_u =
      omega (
        arith,
        length-append (joined (map triple g.looks)) (replicate (24 - 3 * length g.looks) 0),
        triples-long g,
        length-replicate {A = ℕ} (24 - 3 * length g.looks) 0,
        s.few,
      )

  pub length-gate_f : length (gate_floats g) ≡ gate_f_len (gate_u16s g)
  length-gate_f =
      omega (
        arith,
        ap length fronted,
        length-append front (g.used ++ g.threshold),
        front_long,
        length-append g.used g.threshold,
        s.used_long,
        s.threshold_long,
      )

  unused-back : (i : ℕ) → 6 + 3 * length g.looks ≤ i → i < 30 → get_or (gate_u16s g) i 0 ≡ 0
  unused-back i h l =
      let z : i ≡ length P + (i - (6 + 3 * length g.looks)) = omega (arith, triples-long g) in
      ap (λ (k : ℕ). get_or (gate_u16s g) k 0) z
      ∙ get_or-append-add P (replicate (24 - 3 * length g.looks) 0) (i - (6 + 3 * length g.looks)) 0
      ∙ get_or-replicate {A = ℕ} (24 - 3 * length g.looks) (i - (6 + 3 * length g.looks)) 0 0 (omega arith)
    where
      P : List ℕ
      P = g.n ∷ g.started ∷ g.on ∷ g.off ∷ g.early ∷ length g.looks ∷ joined (map triple g.looks)

  pub good-gate-ready : GateReady (gate_u16s g) (gate_floats g)
  good-gate-ready = record { long = length-gate_u; long_f = length-gate_f; unused = unused-back; good = subst GoodGate (sym gate-back) s }

-- ---- the test of the stores

early-sound : (e : ℕ) → (e ≡ 65535) ⊎ (e ≤ 1600) → (eqb e 65535 || sound_level e) ≡ true
early-sound e (inl x) = rw (eq-eqb e 65535 x)
early-sound e (inr x) = by-test (eqb e 65535) (λ t. rw t) (λ t. rw (t, le-leb e 1600 x))

early-fact : (e : ℕ) → (eqb e 65535 || sound_level e) ≡ true → (e ≡ 65535) ⊎ (e ≤ 1600)
early-fact e h = by-test (eqb e 65535) (λ t. inl (eqb-true e 65535 t)) (λ t. inr (leb-true e 1600 (rw t at h)))

triple-sound : (n : ℕ) (l : PowerLooks) → GoodLook n l → sound_triple l.m l.cursor l.filled ≡ true
triple-sound n l g =
    rw (le-leb 1 l.m g.some, le-leb l.m 375 g.few, lt-ltb l.cursor (2 * l.m) g.cursor, le-leb l.filled (2 * l.m) g.filled)
    (by-test (ltb l.filled (2 * l.m)) (λ t. rw (t, eq-eqb l.cursor l.filled (g.at_start (ltb-true l.filled (2 * l.m) t)))) (λ t. rw t))

pub record Triple (m c t : ℕ) : Type 0 where
  pub some : 1 ≤ m
  pub few : m ≤ 375
  pub cursor : c < 2 * m
  pub filled : t ≤ 2 * m
  pub at_start : t < 2 * m → c ≡ t

pub triple-facts : (m c t : ℕ) → sound_triple m c t ≡ true → Triple m c t
triple-facts m c t h =
    let last = and_r A (cond (ltb t (2 * m)) (eqb c t) true) h in
    let h₁ = and_l A (cond (ltb t (2 * m)) (eqb c t) true) h in
    let h₂ = and_l (within 1 375 m && ltb c (2 * m)) (leb t (2 * m)) h₁ in
    let w = within_of 1 375 m (and_l (within 1 375 m) (ltb c (2 * m)) h₂) in
    record {
      some = w.0;
      few = w.1;
      cursor = ltb-true c (2 * m) (and_r (within 1 375 m) (ltb c (2 * m)) h₂);
      filled = leb-true t (2 * m) (and_r (within 1 375 m && ltb c (2 * m)) (leb t (2 * m)) h₁);
      at_start = λ l. eqb-true c t (rw (lt-ltb t (2 * m) l) at last);
    }
  where
    A : Bool
    A = within 1 375 m && ltb c (2 * m) && leb t (2 * m)

pub head-facts : (n started on off early count : ℕ) → sound_head n started on off early count ≡ true → Head n started on off early count
head-facts n started on off early count h =
    let h₁ = and_l (within 1 512 n && leb started 1 && sound_level on && sound_level off && (eqb early 65535 || sound_level early)) (within 1 8 count) h in
    let h₂ = and_l (within 1 512 n && leb started 1 && sound_level on && sound_level off) (eqb early 65535 || sound_level early) h₁ in
    let h₃ = and_l (within 1 512 n && leb started 1 && sound_level on) (sound_level off) h₂ in
    let h₄ = and_l (within 1 512 n && leb started 1) (sound_level on) h₃ in
    let size = within_of 1 512 n (and_l (within 1 512 n) (leb started 1) h₄) in
    let many = within_of 1 8 count (and_r (within 1 512 n && leb started 1 && sound_level on && sound_level off && (eqb early 65535 || sound_level early)) (within 1 8 count) h) in
    record {
      low = size.0;
      high = size.1;
      started = leb-true started 1 (and_r (within 1 512 n) (leb started 1) h₄);
      on = leb-true on 1600 (and_r (within 1 512 n && leb started 1) (sound_level on) h₃);
      off = leb-true off 1600 (and_r (within 1 512 n && leb started 1 && sound_level on) (sound_level off) h₂);
      early = early-fact early (and_r (within 1 512 n && leb started 1 && sound_level on && sound_level off) (eqb early 65535 || sound_level early) h₁);
      some = many.0;
      few = many.1;
    }

head-sound : (n s a b e c : ℕ) → Head n s a b e c → sound_head n s a b e c ≡ true
head-sound n s a b e c h =
    rw (
      le-leb 1 n h.low,
      le-leb n 512 h.high,
      le-leb s 1 h.started,
      le-leb a 1600 h.on,
      le-leb b 1600 h.off,
      early-sound e h.early,
      le-leb 1 c h.some,
      le-leb c 8 h.few,
    )

-- the test of the triple j
abbrev triple_test : List ℕ → ℕ → Bool
triple_test u j =
    cond (ltb j (get_or u 5 0)) (sound_triple (m_at u j) (cursor_at u j) (filled_at u j) && new_length (m_at u) j)
    (eqb (m_at u j) 0 && eqb (cursor_at u j) 0 && eqb (filled_at u j) 0)

-- ---- what is ready passes

m-of : (u : List ℕ) (f : List Float) (j : ℕ) → j < get_or u 5 0 → (look_at (gate_of u f) j).m ≡ m_at u j
m-of u f j h = ap (λ (l : PowerLooks). l.m) (look-of u f j h)

module _ (u : List ℕ) (f : List Float) (r : GateReady u f) where
  new-passes : (j : ℕ) → j < get_or u 5 0 → new_length (m_at u) j ≡ true
  new-passes j h =
      all_true (λ i. not (eqb (m_at u i) (m_at u j))) j
      (λ i l.
      rw
      (ne_eqb (m_at u i) (m_at u j)
      (λ e. r.good.distinct i j l (omega (arith, count_of u f)) (m-of u f i (omega arith) ∙ e ∙ sym (m-of u f j h)))))

  triple-passes : (j : ℕ) → j < 8 → triple_test u j ≡ true
  triple-passes j l =
      by-test (ltb j (get_or u 5 0))
      (λ t.
      let h : j < get_or u 5 0 = ltb-true j (get_or u 5 0) t in
      rw t
      (and-true (sound_triple (m_at u j) (cursor_at u j) (filled_at u j)) (new_length (m_at u) j) (triple-sound (get_or u 0 0) (look_in u f j) (look-good u f j r h))
      (new-passes j h)))
      (λ t.
      let h : get_or u 5 0 ≤ j = ltb-false j (get_or u 5 0) t in
      rw (
        t,
        r.unused (6 + 3 * j) (omega arith) (omega arith),
        r.unused (6 + 3 * j + 1) (omega arith) (omega arith),
        r.unused (6 + 3 * j + 2) (omega arith) (omega arith),
      ))

  pub ready-sound : sound_gate u ≡ true
  unfolding sound_gate sound_triples
  ready-sound =
      and-true (sound_head (get_or u 0 0) (get_or u 1 0) (get_or u 2 0) (get_or u 3 0) (get_or u 4 0) (get_or u 5 0)) (all_below 8 (triple_test u))
      (head-sound (get_or u 0 0) (get_or u 1 0) (get_or u 2 0) (get_or u 3 0) (get_or u 4 0) (get_or u 5 0) (sizes u f r)) (all_true (triple_test u) 8 triple-passes)

  pub gate-not-refused : gate_refusal u f ≡ 0
  unfolding gate_refusal
  gate-not-refused = rw (eq-eqb (length u) 30 r.long, ready-sound, eq-eqb (length f) (gate_f_len u) r.long_f)

-- a sound gate's stores are not refused
pub gate_passes : (g : Gate) → GoodGate g → gate_refusal (gate_u16s g) (gate_floats g) ≡ 0
gate_passes g s = gate-not-refused (gate_u16s g) (gate_floats g) (good-gate-ready g s)

-- ---- what passes is ready

pub record Used (u : List ℕ) (j : ℕ) : Type 0 where
  pub triple : Triple (m_at u j) (cursor_at u j) (filled_at u j)
  pub new : (i : ℕ) → i < j → m_at u i ≡ m_at u j → ⊥

pub record Unused (u : List ℕ) (j : ℕ) : Type 0 where
  pub m : m_at u j ≡ 0
  pub cursor : cursor_at u j ≡ 0
  pub filled : filled_at u j ≡ 0

-- the facts of a sound u16 store
pub record SoundU (u : List ℕ) : Type 0 where
  pub head : Head (get_or u 0 0) (get_or u 1 0) (get_or u 2 0) (get_or u 3 0) (get_or u 4 0) (get_or u 5 0)
  pub used : (j : ℕ) → j < get_or u 5 0 → Used u j
  pub unused : (j : ℕ) → get_or u 5 0 ≤ j → j < 8 → Unused u j

used-triple : (u : List ℕ) (j : ℕ) → j < get_or u 5 0 → triple_test u j ≡ true → Used u j
used-triple u j l h =
    let t : (sound_triple (m_at u j) (cursor_at u j) (filled_at u j) && new_length (m_at u) j) ≡ true = rw (lt-ltb j (get_or u 5 0) l) at h in
    let new = and_r (sound_triple (m_at u j) (cursor_at u j) (filled_at u j)) (new_length (m_at u) j) t in
    record {
      triple = triple-facts (m_at u j) (cursor_at u j) (filled_at u j) (and_l (sound_triple (m_at u j) (cursor_at u j) (filled_at u j)) (new_length (m_at u) j) t);
      new = λ i k. eqb-false (m_at u i) (m_at u j) (not-true (eqb (m_at u i) (m_at u j)) (all-at (λ a. not (eqb (m_at u a) (m_at u j))) j i new k));
    }

unused-triple : (u : List ℕ) (j : ℕ) → get_or u 5 0 ≤ j → triple_test u j ≡ true → Unused u j
unused-triple u j l h =
    let t : (eqb (m_at u j) 0 && eqb (cursor_at u j) 0 && eqb (filled_at u j) 0) ≡ true = rw (le-ltb j (get_or u 5 0) l) at h in
    let t₁ = and_l (eqb (m_at u j) 0 && eqb (cursor_at u j) 0) (eqb (filled_at u j) 0) t in
    record {
      m = eqb-true (m_at u j) 0 (and_l (eqb (m_at u j) 0) (eqb (cursor_at u j) 0) t₁);
      cursor = eqb-true (cursor_at u j) 0 (and_r (eqb (m_at u j) 0) (eqb (cursor_at u j) 0) t₁);
      filled = eqb-true (filled_at u j) 0 (and_r (eqb (m_at u j) 0 && eqb (cursor_at u j) 0) (eqb (filled_at u j) 0) t);
    }

pub sound-facts : (u : List ℕ) → sound_gate u ≡ true → SoundU u
unfolding sound_gate sound_triples
sound-facts u h =
    let H = sound_head (get_or u 0 0) (get_or u 1 0) (get_or u 2 0) (get_or u 3 0) (get_or u 4 0) (get_or u 5 0) in
    let head = head-facts (get_or u 0 0) (get_or u 1 0) (get_or u 2 0) (get_or u 3 0) (get_or u 4 0) (get_or u 5 0) (and_l H (all_below 8 (triple_test u)) h) in
    let each = and_r H (all_below 8 (triple_test u)) h in
    record {
      head = head;
      used = λ j l. used-triple u j l (all-at (triple_test u) 8 j each (omega (arith, head.few)));
      unused = λ j l k. unused-triple u j l (all-at (triple_test u) 8 j each k);
    }

-- a length of a sound store
used-good : (u : List ℕ) (f : List Float) (j : ℕ) → length f ≡ gate_f_len u → j < get_or u 5 0 → Used u j → GoodLook (get_or u 0 0) (look_in u f j)
used-good u f j e h s =
    record {
      some = s.triple.some;
      few = s.triple.few;
      cursor = s.triple.cursor;
      filled = s.triple.filled;
      at_start = s.triple.at_start;
      rings_long = length-tab N (λ i. part (2 * M * i) (2 * M) P);
      ring_long =
          λ k l.
          ap length (get_d-tab N (λ i. part (2 * M * i) (2 * M) P) k [] l) ∙ length_part (2 * M * k) (2 * M) P (omega (arith, long, row (2 * M) k N l));
      recent_long = length_part (2 * M * N) N P (omega (arith, long));
      previous_long = length_part (2 * M * N + N) N P (omega (arith, long));
    }
  where
    N : ℕ
    N = get_or u 0 0

    M : ℕ
    M = m_at u j

    P : List Float
    P = part (start_at u j) (size_at u j) f

    long : length P ≡ 2 * M * N + N + N
    long = length_part (start_at u j) (size_at u j) f (part-fits u f j e h)

module _ (u : List ℕ) (f : List Float) (long : length u ≡ 30) (long_f : length f ≡ gate_f_len u) (s : SoundU u) where
  good_of : GoodGate (gate_of u f)
  good_of =
      record {
        low = rw (n-of u f) s.head.low;
        high = rw (n-of u f) s.head.high;
        started = rw (started_of u f) s.head.started;
        on = rw (on_of u f) s.head.on;
        off = rw (off_of u f) s.head.off;
        early = rw (early-of u f) s.head.early;
        some = rw (count_of u f) s.head.some;
        few = rw (count_of u f) s.head.few;
        smooth_long = ap length (smooth-of u f) ∙ length_part 0 (get_or u 0 0) f (omega (arith, part-fits u f 0 long_f s.head.some)) ∙ sym (n-of u f);
        used_long = ap length (used-of u f) ∙ length_part (pair_start u) (get_or u 0 0) f (omega arith) ∙ sym (n-of u f);
        threshold_long = ap length (threshold-of u f) ∙ length_part (pair_start u + get_or u 0 0) (get_or u 0 0) f (omega arith) ∙ sym (n-of u f);
        look =
            λ j h.
            let l : j < get_or u 5 0 = omega (arith, count_of u f) in
            rw (n-of u f, look-of u f j l) (used-good u f j long_f l (s.used j l));
        distinct = λ i j l h e. (s.used j (omega (arith, count_of u f))).new i l (sym (m-of u f i (omega (arith, count_of u f))) ∙ e ∙ m-of u f j (omega (arith, count_of u f)));
      }

  unused-entry : (i : ℕ) → 6 + 3 * get_or u 5 0 ≤ i → i < 30 → get_or u i 0 ≡ 0
  unused-entry i h l =
      let zero-at : Unused u j = s.unused j (omega arith) (omega arith) in
      by-test (eqb i (6 + 3 * j)) (λ t. ap (λ (k : ℕ). get_or u k 0) (eqb-true i (6 + 3 * j) t) ∙ zero-at.m)
      (λ t.
      by-test (eqb i (6 + 3 * j + 1)) (λ v. ap (λ (k : ℕ). get_or u k 0) (eqb-true i (6 + 3 * j + 1) v) ∙ zero-at.cursor)
      (λ v.
      ap (λ (k : ℕ). get_or u k 0)
      (let z : i ≡ 6 + 3 * j + 2 = omega (arith, eqb-false i (6 + 3 * j) t, eqb-false i (6 + 3 * j + 1) v) in z) ∙ zero-at.filled))
    where
      j : ℕ
      j = (i - 6) / 3

  pub sound-ready : GateReady u f
  sound-ready = record { long = long; long_f = long_f; unused = unused-entry; good = good_of }

-- stores that are not refused hold a sound gate
pub gate-ready : (u : List ℕ) (f : List Float) → gate_refusal u f ≡ 0 → GateReady u f
unfolding gate_refusal
gate-ready u f e =
    let p = passed (differ (length u) 30) 2 _ (omega arith) e in
    let q = passed (not (sound_gate u)) 9 _ (omega arith) p.1 in
    let r = passed (differ (length f) (gate_f_len u)) 2 0 (omega arith) q.1 in
    sound-ready u f (same_of (length u) 30 p.0) (same_of (length f) (gate_f_len u) r.0) (sound-facts u (not-false (sound_gate u) q.0))
