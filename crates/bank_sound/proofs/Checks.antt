-- Laws on counting failures and on the recount of a channel. Assumes nothing.
use mathlib.Core.Path.{◌≡◌, refl, sym, ap, ap₂, ◌∙◌}
use mathlib.Core.Bool.{Bool, true, false, cond, not, ◌&&◌, ◌||◌}
use mathlib.Core.List.{List}
use Prim.Native.Nat.{ℕ, zero, suc, ◌+◌, ◌<◌, ◌≤◌}
use native.Mathlib.Nat.{add-zero, zero-add}
use native.Mathlib.Omega.{arith}
use native.Mathlib.Numerals.{add-one}
use lib.Dec.{eqb, ltb, leb}
use lib.ListN.{length, get_or, take}
use lib.Seq.{take-take}
use borrow.Author.Tests.{eqb-true, eqb-false, eq-eqb, ne_eqb, ltb-true, leb-true}
use Rattle.laws.specs.Lists.{one, occ, part}
use Rattle.std.proofs.lemmas.Bool.Decides.{nat_tests}
use Rattle.std.proofs.lemmas.List.{get_or-take}
use Rattle.laws.proofs.Counting.{occ-all, occ-none}
use Rattle.laws.specs.Tests.{all_below}
use Rattle.laws.proofs.Lists.{get_d_part}
use Rattle.laws.proofs.Tests.{by-test, all-at, and_l, and_r, and-true, and-false-l, and_false_r}
use Rattle.model.specs.Layout.{bins, ring_len, at_counts, at_next, at_filled, at_lead}
use Rattle.model.specs.Stores.{chan_of, sound_fields, sound_ring, sound_counts, sound_channel}
use Rattle.bank_sound.specs.Fails.{fails, is_bin, stray_entries, is_first, other_entries, of_one_bin, is_unused, used_bins, is_tallied}

-- ---- failures counted

pub fails_more : (n : ℕ) (p : ℕ → Bool) → fails (n + 1) p ≡ fails n p + one (not (p n))
unfolding fails
fails_more n p = rw (add-one n)

-- two tests that agree below n
pub fails_same : (n : ℕ) (p q : ℕ → Bool) → ((i : ℕ) → i < n → p i ≡ q i) → fails n p ≡ fails n q
unfolding fails
fails_same zero p q h = refl
fails_same (suc n) p q h = ap₂ ◌+◌ (fails_same n p q (λ i l. h i (omega arith))) (ap (λ (b : Bool). one (not b)) (h n (omega arith)))

last-fails : (x : ℕ) (a b : Bool) → eqb x 0 ≡ a → eqb (x + one (not b)) 0 ≡ (a && b)
last-fails x true true h = ap (λ (k : ℕ). eqb k 0) (add-zero x) ∙ h
last-fails x true false h = ne_eqb (x + 1) 0 (λ e. omega arith)
last-fails x false true h = ap (λ (k : ℕ). eqb k 0) (add-zero x) ∙ h
last-fails x false false h = ne_eqb (x + 1) 0 (λ e. omega arith)

-- none fails exactly if the test holds of each
pub none-fails : (n : ℕ) (p : ℕ → Bool) → eqb (fails n p) 0 ≡ all_below n p
unfolding fails all_below
none-fails zero p = refl
none-fails (suc n) p = last-fails (fails n p) (all_below n p) (p n) (none-fails n p)

-- the same of the test of all
pub all_same : (n : ℕ) (p q : ℕ → Bool) → ((i : ℕ) → i < n → p i ≡ q i) → all_below n p ≡ all_below n q
unfolding all_below
all_same zero p q h = refl
all_same (suc n) p q h = ap₂ ◌&&◌ (all_same n p q (λ i l. h i (omega arith))) (h n (omega arith))

or-true : (b : Bool) → (b || true) ≡ true
or-true true = refl
or-true false = refl

or-false : (b : Bool) → (b || false) ≡ b
or-false true = refl
or-false false = refl

-- the failures with and without that of one number
module _ (p : ℕ → Bool) (x : ℕ) where
  before-one : (n : ℕ) → n ≤ x → fails n p ≡ fails n (λ b. p b || eqb b x)
  unfolding fails
  before-one zero h = refl
  before-one (suc n) h =
      ap₂ ◌+◌ (before-one n (omega arith)) (ap (λ (v : Bool). one (not v)) (sym (ap (λ (v : Bool). p n || v) (ne_eqb n x (λ e. omega arith)) ∙ or-false (p n))))

  but-one : (n : ℕ) → x < n → fails n p ≡ fails n (λ b. p b || eqb b x) + one (not (p x))
  unfolding fails
  but-one zero h = absurd (omega arith)
  but-one (suc n) h =
      by-test (eqb n x)
      (λ e.
      omega (
        arith,
        before-one n (omega (arith, eqb-true n x e)),
        ap (λ (v : Bool). one (not (p n || v))) e,
        ap (λ (v : Bool). one (not v)) (or-true (p n)),
        ap (λ (m : ℕ). one (not (p m))) (eqb-true n x e),
      ))
      (λ e.
      omega (
        arith,
        but-one n (omega (arith, eqb-false n x e)),
        ap (λ (v : Bool). one (not (p n || v))) e,
        ap (λ (v : Bool). one (not v)) (or-false (p n)),
      ))

eqb-over : (a k : ℕ) → eqb (a + k) k ≡ eqb a 0
eqb-over a k = by-test (eqb a 0) (λ e. eq-eqb (a + k) k (omega (arith, eqb-true a 0 e)) ∙ sym e) (λ e. ne_eqb (a + k) k (λ d. eqb-false a 0 e (omega arith)) ∙ sym e)

-- one number more
pub all-step : (n : ℕ) (p : ℕ → Bool) → all_below (n + 1) p ≡ (all_below n p && p n)
unfolding all_below
all-step n p = rw (add-one n)

-- ---- what each count takes of a channel

pub not-below : (x n : ℕ) → leb n x ≡ not (ltb x n)
not-below x n = grind (arith, nat_tests)

pub stray_of : (l : List ℕ) (n : ℕ) → n ≡ ring_len → fails n (λ i. ltb (get_or (take ring_len l) i 0) bins) ≡ stray_entries l
unfolding stray_entries
stray_of l n e = rw e (fails_same ring_len _ (is_bin l) (λ i h. ap (λ (v : ℕ). ltb v bins) (get_or-take ring_len l i 0 h)))

pub other_of : (l : List ℕ) (m n : ℕ) → n ≡ m → fails n (λ i. eqb (get_or (take m l) i 0) (get_or l 0 0)) ≡ other_entries m l
unfolding other_entries
other_of l m n e = rw e (fails_same m _ (is_first l) (λ i h. ap (λ (v : ℕ). eqb v (get_or l 0 0)) (get_or-take m l i 0 h)))

pub used_of : (l : List ℕ) (n : ℕ) → n ≡ bins → fails n (λ i. eqb (get_or (part at_counts bins l) i 0) 0) ≡ used_bins l
unfolding used_bins
used_of l n e = rw e (fails_same bins _ (is_unused l) (λ i h. ap (λ (v : ℕ). eqb v 0) (get_d_part at_counts bins l i 0 h)))

-- ---- a turn of the recount

pub tallied_turn : (l t : List ℕ) (i x y : ℕ) (a : Bool) → a ≡ all_below i (is_tallied l t) → x ≡ get_or l (at_counts + i) 0 → y ≡ get_or t i 0
    → (a && eqb x y) ≡ all_below (i + 1) (is_tallied l t)
tallied_turn l t i x y a d e f = ap₂ ◌&&◌ d (ap₂ eqb e f) ∙ sym (all-step i (is_tallied l t))

-- ---- the ring

pub entry-below : (l : List ℕ) (i : ℕ) → stray_entries l ≡ 0 → i < ring_len → get_or l i 0 < bins
unfolding stray_entries
entry-below l i h k = ltb-true (get_or l i 0) bins (all-at (is_bin l) ring_len i (sym (none-fails ring_len (is_bin l)) ∙ eq-eqb (fails ring_len (is_bin l)) 0 h) k)

pub ring-sound : (l : List ℕ) → eqb (stray_entries l) 0 ≡ sound_ring (chan_of l)
unfolding stray_entries sound_ring
ring-sound l =
    none-fails ring_len (is_bin l)
    ∙ all_same ring_len (is_bin l) (λ i. ltb (get_or (part 0 ring_len l) i 0) bins)
    (λ i h. ap (λ (x : ℕ). ltb x bins) (sym (get_d_part 0 ring_len l i 0 h ∙ ap (λ (k : ℕ). get_or l k 0) (zero-add i))))

-- ---- the recount

-- a ring of one bin, by its count and then by its entries
pub is-one-bin : (l : List ℕ) (n x m o : ℕ) → x ≡ get_or l 0 0 → m ≡ n → get_or l (at_counts + x) 0 ≡ n → o ≡ other_entries m l → eqb o 0 ≡ of_one_bin n l
unfolding of_one_bin
is-one-bin l n x m o d e h k =
    ap (λ (z : ℕ). eqb z 0) (k ∙ ap (λ (z : ℕ). other_entries z l) e) ∙ sym (ap (λ (b : Bool). b && eqb (other_entries n l) 0) (eq-eqb (get_or l (at_counts + get_or l 0 0) 0) n (rw (← d) h)))

pub is-not-one-bin : (l : List ℕ) (n x : ℕ) → x ≡ get_or l 0 0 → (get_or l (at_counts + x) 0 ≡ n → ⊥) → eqb (get_or l (at_counts + x) 0) n ≡ of_one_bin n l
unfolding of_one_bin
is-not-one-bin l n x d h =
    let f : eqb (get_or l (at_counts + x) 0) n ≡ false = ne_eqb (get_or l (at_counts + x) 0) n h in
    f ∙ sym (ap (λ (b : Bool). b && eqb (other_entries n l) 0) (rw d at f))

-- what a ring of one bin holds
own-count : (n : ℕ) (l : List ℕ) → of_one_bin n l ≡ true → get_or l (at_counts + get_or l 0 0) 0 ≡ n
unfolding of_one_bin
own-count n l h = eqb-true (get_or l (at_counts + get_or l 0 0) 0) n (and_l (eqb (get_or l (at_counts + get_or l 0 0) 0) n) (eqb (other_entries n l) 0) h)

same-entry : (n : ℕ) (l : List ℕ) (i : ℕ) → of_one_bin n l ≡ true → i < n → get_or l i 0 ≡ get_or l 0 0
unfolding of_one_bin other_entries
same-entry n l i h k =
    eqb-true (get_or l i 0) (get_or l 0 0) (all-at (is_first l) n i (sym (none-fails n (is_first l)) ∙ and_r (eqb (get_or l (at_counts + get_or l 0 0) 0) n) (eqb (fails n (is_first l)) 0) h) k)

-- a test of every bin that says of each whether its count is how often it occurs
pub sound-by : (l : List ℕ) (p : ℕ → Bool) → get_or l at_filled 0 ≤ ring_len
    → ((b : ℕ) → b < bins → p b ≡ eqb (get_or l (at_counts + b) 0) (occ b (take (get_or l at_filled 0) l)))
    → all_below bins p ≡ sound_counts (chan_of l)
unfolding sound_counts
sound-by l p h says =
    all_same bins p (λ b. eqb (get_or (part at_counts bins l) b 0) (occ b (take (get_or l at_filled 0) (part 0 ring_len l))))
    (λ b k. says b k ∙ ap₂ eqb (sym (get_d_part at_counts bins l b 0 k)) (ap (occ b) (sym (take-take (get_or l at_filled 0) ring_len l h))))

pub counts-sound : (l t : List ℕ) → get_or l at_filled 0 ≤ ring_len → ((b : ℕ) → b < bins → get_or t b 0 ≡ occ b (take (get_or l at_filled 0) l))
    → all_below bins (is_tallied l t) ≡ sound_counts (chan_of l)
counts-sound l t h tallied = sound-by l (is_tallied l t) h (λ b k. ap (eqb (get_or l (at_counts + b) 0)) (tallied b k))

-- the counts of a ring of one bin are sound if no other bin has a count
pub counts-of-one : (l : List ℕ) → get_or l 0 0 < bins → get_or l at_filled 0 ≤ ring_len → get_or l at_filled 0 ≤ length l → of_one_bin (get_or l at_filled 0) l ≡ true
    → eqb (used_bins l) (one (not (eqb (get_or l at_filled 0) 0))) ≡ sound_counts (chan_of l)
unfolding used_bins
counts-of-one l g h k o =
    let n = get_or l at_filled 0 in
    let x = get_or l 0 0 in
    let own : get_or l (at_counts + x) 0 ≡ n = own-count n l o in
    let p : ℕ → Bool = λ b. is_unused l b || eqb b x in
    ap₂ eqb (but-one (is_unused l) x bins g ∙ ap (λ (m : ℕ). fails bins p + one (not (eqb m 0))) own) refl
    ∙ eqb-over (fails bins p) (one (not (eqb n 0)))
    ∙ none-fails bins p
    ∙ sound-by l p h
    (λ b m.
    by-test (eqb b x)
    (λ e.
    let q : x ≡ b = sym (eqb-true b x e) in
    ap (λ (v : Bool). is_unused l b || v) e ∙ or-true (is_unused l b)
    ∙ sym (eq-eqb (get_or l (at_counts + b) 0) (occ b (take n l)) (rw (← q) (own ∙ sym (occ-all x l n k (λ i. same-entry n l i o))))))
    (λ e.
    ap (λ (v : Bool). is_unused l b || v) e ∙ or-false (is_unused l b)
    ∙ ap (eqb (get_or l (at_counts + b) 0)) (sym (occ-none b x l n (eqb-false b x e) k (λ i. same-entry n l i o)))))

-- ---- the channel, by the first test that fails

abbrev pub fields_of : List ℕ → Bool
fields_of l = sound_fields (get_or l at_next 0) (get_or l at_filled 0) (get_or l at_lead 0) (get_or l at_counts 0)

channel-is : (l : List ℕ) → (fields_of l && sound_ring (chan_of l) && sound_counts (chan_of l)) ≡ sound_channel (chan_of l)
unfolding sound_channel
channel-is l =
    ap (λ (z : ℕ). sound_fields (get_or l at_next 0) (get_or l at_filled 0) (get_or l at_lead 0) z && sound_ring (chan_of l) && sound_counts (chan_of l))
    (sym (get_d_part at_counts bins l 0 0 (omega arith)))

-- what sound fields say of filled
pub fields-filled : (l : List ℕ) → fields_of l ≡ true → get_or l at_filled 0 ≤ ring_len
fields-filled l h =
    let n = ltb (get_or l at_next 0) ring_len in
    let f = leb (get_or l at_filled 0) ring_len in
    let q = cond (ltb (get_or l at_filled 0) ring_len) (eqb (get_or l at_next 0) (get_or l at_filled 0)) true in
    leb-true (get_or l at_filled 0) ring_len (and_r n f (and_l (n && f) q (and_l (n && f && q) (leb (get_or l at_lead 0) (get_or l at_counts 0)) h)))

module _ (l : List ℕ) where
  pub fields-fail : fields_of l ≡ false → false ≡ sound_channel (chan_of l)
  fields-fail h = sym (and-false-l (fields_of l && sound_ring (chan_of l)) (sound_counts (chan_of l)) (and-false-l (fields_of l) (sound_ring (chan_of l)) h)) ∙ channel-is l

  pub ring-fails : (stray_entries l ≡ 0 → ⊥) → false ≡ sound_channel (chan_of l)
  ring-fails h =
      sym
      (and-false-l (fields_of l && sound_ring (chan_of l)) (sound_counts (chan_of l))
      (and_false_r (fields_of l) (sound_ring (chan_of l)) (sym (ring-sound l) ∙ ne_eqb (stray_entries l) 0 h)))
      ∙ channel-is l

  pub counts-decide : fields_of l ≡ true → stray_entries l ≡ 0 → sound_counts (chan_of l) ≡ sound_channel (chan_of l)
  counts-decide f s =
      ap (λ (b : Bool). b && sound_counts (chan_of l)) (sym (and-true (fields_of l) (sound_ring (chan_of l)) f (sym (ring-sound l) ∙ eq-eqb (stray_entries l) 0 s)))
      ∙ channel-is l
