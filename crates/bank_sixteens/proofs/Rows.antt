-- Laws on channels one after another and on the tallies of four of them. Assumes nothing.
use mathlib.Core.Path.{◌≡◌, refl, sym, ap, ap₂, subst, ◌∙◌}
use mathlib.Core.Bool.{Bool, true, false}
use mathlib.Core.List.{List}
use Prim.Native.Nat.{ℕ, zero, suc, ◌+◌, ◌-◌, ◌*◌, ◌<◌, ◌≤◌}
use native.Mathlib.Nat.{zero-add, mul-add, mul-le-mul_left, mul-le-mul_right}
use native.Mathlib.Omega.{arith}
use native.Mathlib.Numerals.{add-one}
use lib.Dec.{eqb, ltb}
use lib.ListN.{length, get_or, take, set, replicate, length-set, length-replicate, get_or-replicate}
use lib.Seq.{ext_get_or, length-take-le, get_or-take, get_or-set_same, get_or-set_other}
use borrow.Author.Tests.{eqb-true, eqb-false, eq-eqb, ne_eqb, lt-ltb, ltb-true, ltb-false}
use Rattle.laws.specs.Lists.{one, occ, part}
use Rattle.laws.specs.Tests.{all_below}
use Rattle.laws.proofs.Counting.{occ-le, occ-step}
use Rattle.laws.proofs.Lists.{length_part, get_d_part}
use Rattle.laws.proofs.Tests.{by-test, all-at, all_true, clash}
use Rattle.std.specs.Bool.{MatchBool}
use Rattle.std.specs.List.{range_with_len, AllWithin, HoldsAt}
use Rattle.std.proofs.lemmas.List.FromFn.{length-range_with_len, get_or-range_with_len}
use Rattle.model.specs.Layout.{bins, ring_len, channel_len, at_counts, at_filled}
use Rattle.model.specs.Stores.{chan_of, sound_channel}
use Rattle.bank_sound.specs.Fails.{fails, is_bin, stray_entries}
use Rattle.bank_sound.proofs.Checks.{sound-by, counts-decide, none-fails, fields-filled, all_same}
use Rattle.bank_sixteens.specs.Rows.{chan_at, chan_in, front_of, behind_of, Filled, EightReady, EightSound, NoneAbove, cell_of, raise, row_counted, Added, Few, Clear, is_borne_out, row_borne_out, row_cleared, ClearedTo}

entry-is : (u : List ℕ) (k i : ℕ) → i < channel_len → get_or (chan_in u k) i 0 ≡ get_or u (channel_len * k + i) 0
entry-is u k i l = get_d_part (channel_len * k) channel_len u i 0 l

-- a part of a part
part-of : (a v b w : ℕ) (u : List ℕ) → a + v ≤ length u → b + w ≤ v → part b w (part a v u) ≡ part (a + b) w u
part-of a v b w u h l =
    let m : length (part a v u) ≡ v = length_part a v u h in
    let n : length (part b w (part a v u)) ≡ w = length_part b w (part a v u) (omega (arith, m)) in
    ext_get_or 0 (part b w (part a v u)) (part (a + b) w u) (n ∙ sym (length_part (a + b) w u (omega arith)))
    (λ i k.
    let j : i < w = omega (arith, n) in
    let e : a + (b + i) ≡ a + b + i = omega arith in
    get_d_part b w (part a v u) i 0 j ∙ get_d_part a v u (b + i) 0 (omega arith) ∙ ap (λ (p : ℕ). get_or u p 0) e ∙ sym (get_d_part (a + b) w u i 0 j))

-- the k-th channel of the first four, and of the four behind
chan-front : (u : List ℕ) (k : ℕ) → length u ≡ 8 * channel_len → k < 4 → chan_in (front_of u) k ≡ chan_in u k
chan-front u k h l = part-of 0 (4 * channel_len) (channel_len * k) channel_len u (omega (arith, h)) (omega arith)
    ∙ ap (λ (a : ℕ). part a channel_len u) (zero-add (channel_len * k))

chan-behind : (u : List ℕ) (k : ℕ) → length u ≡ 8 * channel_len → k < 4 → chan_in (behind_of u) k ≡ chan_in u (k + 4)
chan-behind u k h l =
    let e : 4 * channel_len + channel_len * k ≡ channel_len * (k + 4) = omega arith in
    part-of (4 * channel_len) (4 * channel_len) (channel_len * k) channel_len u (omega (arith, h)) (omega arith)
    ∙ ap (λ (a : ℕ). part a channel_len u) e

pub long-front : (u : List ℕ) → length u ≡ 8 * channel_len → 4 * channel_len ≤ length (front_of u)
long-front u h = omega (arith, length-take-le (4 * channel_len) u (omega (arith, h)))

pub long-behind : (u : List ℕ) → length u ≡ 8 * channel_len → 4 * channel_len ≤ length (behind_of u)
long-behind u h = omega (arith, length_part (4 * channel_len) (4 * channel_len) u (omega (arith, h)))

in-front : (u : List ℕ) (k i : ℕ) → k < 4 → i < channel_len → get_or (front_of u) (channel_len * k + i) 0 ≡ get_or u (channel_len * k + i) 0
in-front u k i lk li = get_or-take (4 * channel_len) u (channel_len * k + i) 0 (omega arith)

in-behind : (u : List ℕ) (k i : ℕ) → k < 4 → i < channel_len → get_or (behind_of u) (channel_len * k + i) 0 ≡ get_or u (channel_len * (k + 4) + i) 0
in-behind u k i lk li =
    let e : 4 * channel_len + (channel_len * k + i) ≡ channel_len * (k + 4) + i = omega arith in
    get_d_part (4 * channel_len) (4 * channel_len) u (channel_len * k + i) 0 (omega arith) ∙ ap (λ (a : ℕ). get_or u a 0) e

-- what a search of the numbers below n says of each
pub all-yes : (n : ℕ) (P Q : ℕ → Type 0) (r : Bool) → MatchBool r (AllWithin P (range_with_len 0 n) 0 (length (range_with_len 0 n))) ((k : ℕ) × (k < length (range_with_len 0 n)) × HoldsAt Q (range_with_len 0 n) k)
    → r ≡ true → (k : ℕ) → k < n → P k
all-yes n P Q true h e k l = subst P (get_or-range_with_len 0 n k 0 l ∙ zero-add k) (h k 0 (omega arith) (omega (arith, length-range_with_len 0 n)))
all-yes n P Q false h e k l = clash (sym e)

-- ---- a row of entries

-- one place of a list raised by w
pub raised : (w : ℕ) (t : List ℕ) (p q : ℕ) → p < length t → get_or (raise w p t) q 0 ≡ get_or t q 0 + w * one (eqb q p)
raised w t p q h =
    by-test (eqb q p)
    (λ e.
    let d : q ≡ p = eqb-true q p e in
    omega (
      arith,
      ap (λ (r : ℕ). get_or (raise w p t) r 0) d,
      get_or-set_same t p (get_or t p 0 + w) 0 h,
      ap (λ (r : ℕ). get_or t r 0) d,
      ap (λ (v : Bool). w * one v) e,
    ))
    (λ e. omega (arith, get_or-set_other t p q (get_or t p 0 + w) 0 (eqb-false q p e), ap (λ (v : Bool). w * one v) e))

module _ (w : ℕ) (u : List ℕ) (i : ℕ) (bin : (k : ℕ) → k < 4 → get_or u (channel_len * k + i) 0 < bins) where
  abbrev x : ℕ → ℕ
  x k = get_or u (channel_len * k + i) 0

  abbrev p : ℕ → ℕ
  p k = cell_of u i k

  -- what the j-th entry adds to a place
  abbrev adds : ℕ → ℕ → ℕ
  adds j q = w * one (eqb q (p j))

  adds-other : (j k b : ℕ) → j < 4 → b < bins → (j ≡ k → ⊥) → adds j (k * bins + b) ≡ 0
  adds-other j k b lj lb d = omega (arith, ap (λ (v : Bool). w * one v) (ne_eqb (k * bins + b) (p j) (λ e. d (omega (arith, bin j lj)))))

  adds-own : (k b : ℕ) → adds k (k * bins + b) ≡ w * one (eqb b (x k))
  adds-own k b =
      ap (λ (v : Bool). w * one v)
      (by-test (eqb b (x k))
      (λ e. eq-eqb (k * bins + b) (p k) (omega (arith, eqb-true b (x k) e)) ∙ sym e)
      (λ e. ne_eqb (k * bins + b) (p k) (λ d. eqb-false b (x k) e (omega arith)) ∙ sym e))

  module _ (t : List ℕ) (h : length t ≡ 4 * bins) where
    long : (j : ℕ) (s : List ℕ) → length s ≡ 4 * bins → length (raise w (p j) s) ≡ 4 * bins
    long j s e = simp length-set e

    abbrev t1 : List ℕ
    t1 = raise w (p 0) t

    abbrev t2 : List ℕ
    t2 = raise w (p 1) t1

    abbrev t3 : List ℕ
    t3 = raise w (p 2) t2

    pub row-long : length (row_counted w u i t) ≡ 4 * bins
    row-long = long 3 t3 (long 2 t2 (long 1 t1 (long 0 t h)))

    total : (q : ℕ) → get_or (row_counted w u i t) q 0 ≡ get_or t q 0 + adds 0 q + adds 1 q + adds 2 q + adds 3 q
    total q =
        omega (
          arith,
          raised w t (p 0) q (omega (arith, bin 0 (omega arith))),
          raised w t1 (p 1) q (omega (arith, bin 1 (omega arith), long 0 t h)),
          raised w t2 (p 2) q (omega (arith, bin 2 (omega arith), long 1 t1 (long 0 t h))),
          raised w t3 (p 3) q (omega (arith, bin 3 (omega arith), long 2 t2 (long 1 t1 (long 0 t h)))),
        )

    pub row-cell : (k b : ℕ) → k < 4 → b < bins → get_or (row_counted w u i t) (k * bins + b) 0 ≡ get_or t (k * bins + b) 0 + w * one (eqb b (x k))
    row-cell zero b lk lb =
        omega (arith, total (0 * bins + b), adds-own 0 b, adds-other 1 0 b (omega arith) lb (λ e. omega arith), adds-other 2 0 b (omega arith) lb (λ e. omega arith), adds-other 3 0 b (omega arith) lb (λ e. omega arith))
    row-cell (suc zero) b lk lb =
        omega (arith, total (1 * bins + b), adds-own 1 b, adds-other 0 1 b (omega arith) lb (λ e. omega arith), adds-other 2 1 b (omega arith) lb (λ e. omega arith), adds-other 3 1 b (omega arith) lb (λ e. omega arith))
    row-cell (suc (suc zero)) b lk lb =
        omega (arith, total (2 * bins + b), adds-own 2 b, adds-other 0 2 b (omega arith) lb (λ e. omega arith), adds-other 1 2 b (omega arith) lb (λ e. omega arith), adds-other 3 2 b (omega arith) lb (λ e. omega arith))
    row-cell (suc (suc (suc zero))) b lk lb =
        omega (arith, total (3 * bins + b), adds-own 3 b, adds-other 0 3 b (omega arith) lb (λ e. omega arith), adds-other 1 3 b (omega arith) lb (λ e. omega arith), adds-other 2 3 b (omega arith) lb (λ e. omega arith))
    row-cell (suc (suc (suc (suc k)))) b lk lb = absurd (omega arith)

-- ---- rows added

module _ (w i : ℕ) (u s t : List ℕ) (room : 4 * channel_len ≤ length u) (r : Added w i u s t) where
  pub added_more : i < ring_len → ((k : ℕ) → k < 4 → get_or u (channel_len * k + i) 0 < bins) → Added w (i + 1) u s (row_counted w u i t)
  added_more li bin =
      record {
        long = row-long w u i bin t r.long;
        sums = λ k b lk lb.
            let l = chan_in u k in
            let step : occ b (take (i + 1) l) ≡ occ b (take i l) + one (eqb b (get_or u (channel_len * k + i) 0)) =
            occ-step b l i (omega (arith, length_part (channel_len * k) channel_len u (omega arith)))
            ∙ ap (λ (e : ℕ). occ b (take i l) + one (eqb b e)) (entry-is u k i (omega arith)) in
            omega (
              arith,
              row-cell w u i bin t r.long k b lk lb,
              r.sums k b lk lb,
              ap (λ (n : ℕ). w * n) step,
              mul-add w (occ b (take i l)) (one (eqb b (get_or u (channel_len * k + i) 0))),
            );
      }

  -- no tally comes near to what a number can hold
  pub added-le : i ≤ ring_len → w ≤ 65536 → Few s → (k b : ℕ) → k < 4 → b < bins → get_or t (k * bins + b) 0 ≤ 30000000
  added-le li lw f k b lk lb =
      let l = chan_in u k in
      let n : occ b (take i l) ≤ ring_len = omega (arith, occ-le b (take i l), length-take-le i l (omega (arith, length_part (channel_len * k) channel_len u (omega arith)))) in
      omega (arith, r.sums k b lk lb, f.few k b lk lb, mul-le-mul_left w n, mul-le-mul_right ring_len lw)

-- ---- tallies set back

keeps-zero : (t : List ℕ) (p q : ℕ) → p < length t → get_or t q 0 ≡ 0 → get_or (set t p 0) q 0 ≡ 0
keeps-zero t p q h e =
    by-test (eqb q p)
    (λ d. ap (λ (r : ℕ). get_or (set t p 0) r 0) (eqb-true q p d) ∙ get_or-set_same t p 0 0 h)
    (λ d. get_or-set_other t p q 0 0 (eqb-false q p d) ∙ e)

module _ (b : ℕ) (t : List ℕ) (lb : b < bins) (h : length t ≡ 4 * bins) where
  abbrev s1 : List ℕ
  s1 = set t b 0

  abbrev s2 : List ℕ
  s2 = set s1 (bins + b) 0

  abbrev s3 : List ℕ
  s3 = set s2 (2 * bins + b) 0

  h1 : length s1 ≡ 4 * bins
  h1 = simp length-set h

  h2 : length s2 ≡ 4 * bins
  h2 = simp length-set h

  h3 : length s3 ≡ 4 * bins
  h3 = simp length-set h

  set_back : (k : ℕ) → k < 4 → get_or (row_cleared b t) (k * bins + b) 0 ≡ 0
  set_back zero lk =
      ap (λ (q : ℕ). get_or (row_cleared b t) q 0) (zero-add b)
      ∙ keeps-zero s3 (3 * bins + b) b (omega (arith, h3)) (keeps-zero s2 (2 * bins + b) b (omega (arith, h2)) (keeps-zero s1 (bins + b) b (omega (arith, h1)) (get_or-set_same t b 0 0 (omega (arith, h)))))
  set_back (suc zero) lk =
      keeps-zero s3 (3 * bins + b) (bins + b) (omega (arith, h3)) (keeps-zero s2 (2 * bins + b) (bins + b) (omega (arith, h2)) (get_or-set_same s1 (bins + b) 0 0 (omega (arith, h1))))
  set_back (suc (suc zero)) lk = keeps-zero s3 (3 * bins + b) (2 * bins + b) (omega (arith, h3)) (get_or-set_same s2 (2 * bins + b) 0 0 (omega (arith, h2)))
  set_back (suc (suc (suc zero))) lk = get_or-set_same s3 (3 * bins + b) 0 0 (omega (arith, h3))
  set_back (suc (suc (suc (suc k)))) lk = absurd (omega arith)

  left : (k j : ℕ) → j < bins → (j ≡ b → ⊥) → get_or (row_cleared b t) (k * bins + j) 0 ≡ get_or t (k * bins + j) 0
  left k j lj d =
      get_or-set_other s3 (3 * bins + b) (k * bins + j) 0 0 (λ e. d (omega arith))
      ∙ get_or-set_other s2 (2 * bins + b) (k * bins + j) 0 0 (λ e. d (omega arith))
      ∙ get_or-set_other s1 (bins + b) (k * bins + j) 0 0 (λ e. d (omega arith))
      ∙ get_or-set_other t b (k * bins + j) 0 0 (λ e. d (omega arith))

  pub cleared_more : (s : List ℕ) → ClearedTo b s t → ClearedTo (b + 1) s (row_cleared b t)
  cleared_more s c =
      record {
        long = simp length-set h;
        none = λ k j lk lj. by-test (eqb j b)
            (λ e. ap (λ (x : ℕ). get_or (row_cleared b t) (k * bins + x) 0) (eqb-true j b e) ∙ set_back k lk)
            (λ e. left k j (omega arith) (eqb-false j b e) ∙ c.none k j lk (omega (arith, eqb-false j b e)));
        others = λ k j lk n lj. left k j lj (λ e. omega arith) ∙ c.others k j lk (omega arith) lj;
      }

pub cleared-none : (t : List ℕ) → length t ≡ 4 * bins → ClearedTo 0 t t
cleared-none t h = record { long = h; none = λ k b lk lb. absurd (omega arith); others = λ k b lk n lb. refl }

-- a row that is still there is borne out as it was
pub row_same : (first second s t : List ℕ) (b : ℕ) → b < bins → ClearedTo b s t → row_borne_out first second t b ≡ row_borne_out first second s b
row_same first second s t b lb c =
    all_same 4 (is_borne_out first second t b) (is_borne_out first second s b)
    (λ k lk. ap (eqb (get_or first (channel_len * k + (at_counts + b)) 0 + 65536 * get_or second (channel_len * k + (at_counts + b)) 0)) (c.others k b lk (omega arith) lb))

-- ---- what the tallies bear out

occ-absent : (x : ℕ) (l : List ℕ) (n : ℕ) → n ≤ length l → ((i : ℕ) → i < n → get_or l i 0 ≡ x → ⊥) → occ x (take n l) ≡ 0
occ-absent x l zero h d = refl
occ-absent x l (suc n) h d =
    ap (λ (k : ℕ). occ x (take k l)) (sym (add-one n)) ∙ occ-step x l n h
    ∙ ap₂ ◌+◌ (occ-absent x l n (omega arith) (λ i k. d i (omega arith))) (ap one (ne_eqb x (get_or l n 0) (λ e. d n (omega arith) (sym e))))

-- four channels of eight that are ready, with no count from top on
record Four (n top : ℕ) (u : List ℕ) : Type 0 where
  room : 4 * channel_len ≤ length u
  filled : (k : ℕ) → k < 4 → Filled n (chan_in u k)
  low : (k i : ℕ) → k < 4 → i < ring_len → get_or u (channel_len * k + i) 0 < top
  none : (k b : ℕ) → k < 4 → top ≤ b → b < bins → get_or u (channel_len * k + (at_counts + b)) 0 ≡ 0

module _ (n top : ℕ) (u : List ℕ) (h : length u ≡ 8 * channel_len) (y : EightReady n top u) (z : NoneAbove top u) where
  front : Four n top (front_of u)
  front =
      record {
        room = long-front u h;
        filled = λ k lk. subst (Filled n) (sym (chan-front u k h lk)) (y.filled k (omega arith));
        low = λ k i lk li. omega (arith, in-front u k i lk (omega arith), y.low k i (omega arith) li);
        none = λ k b lk m lb. in-front u k (at_counts + b) lk (omega arith) ∙ z k b (omega arith) m lb;
      }

  behind : Four n top (behind_of u)
  behind =
      record {
        room = long-behind u h;
        filled = λ k lk. subst (Filled n) (sym (chan-behind u k h lk)) (y.filled (k + 4) (omega arith));
        low = λ k i lk li. omega (arith, in-behind u k i lk (omega arith), y.low (k + 4) i (omega arith) li);
        none = λ k b lk m lb. in-behind u k (at_counts + b) lk (omega arith) ∙ z (k + 4) b (omega arith) m lb;
      }

module _ (n top : ℕ) (u : List ℕ) (ln : n ≤ ring_len) (lt : top ≤ bins) (f : Four n top u) where
  long-chan : (k : ℕ) → k < 4 → length (chan_in u k) ≡ channel_len
  long-chan k l = length_part (channel_len * k) channel_len u (omega (arith, f.room))

  occ-few : (k b : ℕ) → k < 4 → occ b (take n (chan_in u k)) ≤ ring_len
  occ-few k b lk = omega (arith, occ-le b (take n (chan_in u k)), length-take-le n (chan_in u k) (omega (arith, long-chan k lk)))

  -- bins above all entries
  absent : (k b : ℕ) → k < 4 → top ≤ b → occ b (take n (chan_in u k)) ≡ 0
  absent k b lk m =
      occ-absent b (chan_in u k) n (omega (arith, long-chan k lk))
      (λ i li q. omega (arith, f.low k i lk (omega arith), q, entry-is u k i (omega arith)))

  stray : (k : ℕ) → k < 4 → stray_entries (chan_in u k) ≡ 0
  unfolding stray_entries
  stray k lk =
      let l = chan_in u k in
      eqb-true (fails ring_len (is_bin l)) 0
      (none-fails ring_len (is_bin l)
      ∙ all_true (is_bin l) ring_len (λ i li. lt-ltb (get_or l i 0) bins (omega (arith, f.low k i lk li, entry-is u k i (omega arith)))))

  -- a channel whose counts below top are how often the bins occur
  sound-if : (k : ℕ) → k < 4 → ((b : ℕ) → b < top → get_or u (channel_len * k + (at_counts + b)) 0 ≡ occ b (take n (chan_in u k)))
      → sound_channel (chan_of (chan_in u k)) ≡ true
  sound-if k lk says =
      let l = chan_in u k in
      let r : Filled n l = f.filled k lk in
      let p : ℕ → Bool = λ b. eqb (get_or l (at_counts + b) 0) (occ b (take (get_or l at_filled 0) l)) in
      let at : (b : ℕ) → b < bins → get_or u (channel_len * k + (at_counts + b)) 0 ≡ occ b (take n l) =
      λ b lb. by-test (ltb b top) (λ e. says b (ltb-true b top e)) (λ e. f.none k b lk (ltb-false b top e) lb ∙ sym (absent k b lk (ltb-false b top e))) in
      sym (counts-decide l r.fields (stray k lk))
      ∙ sym (sound-by l p (fields-filled l r.fields) (λ b lb. refl))
      ∙ all_true p bins
      (λ b lb. eq-eqb (get_or l (at_counts + b) 0) (occ b (take (get_or l at_filled 0) l))
      (entry-is u k (at_counts + b) (omega arith) ∙ at b lb ∙ ap (λ (m : ℕ). occ b (take m l)) (sym r.filled)))

-- two numbers in one
digits : (x y o p : ℕ) → x < 65536 → o < 65536 → x + 65536 * y ≡ o + 65536 * p → (x ≡ o) × (y ≡ p)
digits x y o p hx ho e = (omega arith, omega arith)

module _ (n top : ℕ) (a c : List ℕ) (ln : n ≤ ring_len) (lt : top ≤ bins) (fa : Four n top a) (fc : Four n top c)
    (s t1 t : List ℕ) (z : Clear s) (ra : Added 1 n a s t1) (rc : Added 65536 n c t1 t) where
  cell : (k b : ℕ) → k < 4 → b < bins → get_or t (k * bins + b) 0 ≡ occ b (take n (chan_in a k)) + 65536 * occ b (take n (chan_in c k))
  cell k b lk lb = omega (arith, ra.sums k b lk lb, rc.sums k b lk lb, z.none k b lk lb)

  both : ((k i : ℕ) → k < 4 → i < channel_len → get_or a (channel_len * k + i) 0 < 65536) → all_below top (row_borne_out a c t) ≡ true → (k b : ℕ) → k < 4 → b < top
      → (get_or a (channel_len * k + (at_counts + b)) 0 ≡ occ b (take n (chan_in a k))) × (get_or c (channel_len * k + (at_counts + b)) 0 ≡ occ b (take n (chan_in c k)))
  both fits e k b lk lb =
      let x = get_or a (channel_len * k + (at_counts + b)) 0 in
      let y = get_or c (channel_len * k + (at_counts + b)) 0 in
      digits x y (occ b (take n (chan_in a k))) (occ b (take n (chan_in c k))) (fits k (at_counts + b) lk (omega arith)) (omega (arith, occ-few n top a ln lt fa k b lk))
      (eqb-true (x + 65536 * y) (get_or t (k * bins + b) 0) (all-at (is_borne_out a c t b) 4 k (all-at (row_borne_out a c t) top b e lb) lk) ∙ cell k b lk (omega arith))

  four-first : ((k i : ℕ) → k < 4 → i < channel_len → get_or a (channel_len * k + i) 0 < 65536) → all_below top (row_borne_out a c t) ≡ true → (k : ℕ) → k < 4 → sound_channel (chan_of (chan_in a k)) ≡ true
  four-first fits e k lk = sound-if n top a ln lt fa k lk (λ b lb. (both fits e k b lk lb).0)

  four-second : ((k i : ℕ) → k < 4 → i < channel_len → get_or a (channel_len * k + i) 0 < 65536) → all_below top (row_borne_out a c t) ≡ true → (k : ℕ) → k < 4 → sound_channel (chan_of (chan_in c k)) ≡ true
  four-second fits e k lk = sound-if n top c ln lt fc k lk (λ b lb. (both fits e k b lk lb).1)

  four-clear : (w : List ℕ) → ClearedTo top t w → Clear w
  four-clear w r =
      record {
        long = r.long;
        none = λ k b lk lb. by-test (ltb b top)
            (λ e. r.none k b lk (ltb-true b top e))
            (λ e.
            let m : top ≤ b = ltb-false b top e in
            omega (arith, r.others k b lk m lb, cell k b lk lb, absent n top a ln lt fa k b lk m, absent n top c ln lt fc k b lk m));
      }

-- after the first eight are counted
few-first : (n : ℕ) (u s t : List ℕ) → n ≤ ring_len → 4 * channel_len ≤ length u → Clear s → Added 1 n u s t → Few t
few-first n u s t ln room z r =
    record {
      long = r.long;
      few = λ k b lk lb.
          let l = chan_in u k in
          omega (arith, r.sums k b lk lb, z.none k b lk lb, occ-le b (take n l), length-take-le n l (omega (arith, length_part (channel_len * k) channel_len u (omega arith))));
    }

pub few-front : (n : ℕ) (u s t : List ℕ) → n ≤ ring_len → length u ≡ 8 * channel_len → Clear s → Added 1 n (front_of u) s t → Few t
few-front n u s t ln h = few-first n (front_of u) s t ln (long-front u h)

pub few-behind : (n : ℕ) (u s t : List ℕ) → n ≤ ring_len → length u ≡ 8 * channel_len → Clear s → Added 1 n (behind_of u) s t → Few t
few-behind n u s t ln h = few-first n (behind_of u) s t ln (long-behind u h)

-- eight channels by their first four and the four behind
join : (u : List ℕ) → length u ≡ 8 * channel_len → ((k : ℕ) → k < 4 → sound_channel (chan_of (chan_in (front_of u) k)) ≡ true)
    → ((k : ℕ) → k < 4 → sound_channel (chan_of (chan_in (behind_of u) k)) ≡ true) → EightSound u
join u h p q k l =
    by-test (ltb k 4)
    (λ e. ap (λ (l : List ℕ). sound_channel (chan_of l)) (sym (chan-front u k h (ltb-true k 4 e))) ∙ p k (ltb-true k 4 e))
    (λ e.
    let m : 4 ≤ k = ltb-false k 4 e in
    let d : k ≡ k - 4 + 4 = omega arith in
    ap (λ (j : ℕ). sound_channel (chan_of (chan_in u j))) d ∙ ap (λ (l : List ℕ). sound_channel (chan_of l)) (sym (chan-behind u (k - 4) h (omega arith))) ∙ q (k - 4) (omega arith))

-- what the two lists of tallies bear out is sound, and set back they are clear
pub record Counted (top : ℕ) (a c t v : List ℕ) : Type 0 where
  pub sixteen : all_below top (row_borne_out (front_of a) (front_of c) t) ≡ true → all_below top (row_borne_out (behind_of a) (behind_of c) v) ≡ true → EightSound a × EightSound c
  pub clear : (w : List ℕ) → ClearedTo top t w → Clear w
  pub clear_behind : (w : List ℕ) → ClearedTo top v w → Clear w

pub counted : (n top : ℕ) (a c : List ℕ) → n ≤ ring_len → top ≤ bins → ((p : ℕ) → get_or a p 0 < 65536) → length a ≡ 8 * channel_len → length c ≡ 8 * channel_len
    → EightReady n top a → EightReady n top c → NoneAbove top a → NoneAbove top c
    → (s t1 t : List ℕ) → Clear s → Added 1 n (front_of a) s t1 → Added 65536 n (front_of c) t1 t
    → (x v1 v : List ℕ) → Clear x → Added 1 n (behind_of a) x v1 → Added 65536 n (behind_of c) v1 v
    → Counted top a c t v
counted n top a c ln lt fits ha hc ya yc za zc s t1 t z ra rc x v1 v y qa qc =
    let fa = front n top a ha ya za in
    let fc = front n top c hc yc zc in
    let ga = behind n top a ha ya za in
    let gc = behind n top c hc yc zc in
    let b = front_of a in
    let d = front_of c in
    let b4 = behind_of a in
    let d4 = behind_of c in
    let low : (k i : ℕ) → k < 4 → i < channel_len → get_or b (channel_len * k + i) 0 < 65536 = λ k i lk li. omega (arith, in-front a k i lk li, fits (channel_len * k + i)) in
    let low4 : (k i : ℕ) → k < 4 → i < channel_len → get_or b4 (channel_len * k + i) 0 < 65536 = λ k i lk li. omega (arith, in-behind a k i lk li, fits (channel_len * (k + 4) + i)) in
    record {
      sixteen = λ e f. (
        join a ha (four-first n top b d ln lt fa fc s t1 t z ra rc low e) (four-first n top b4 d4 ln lt ga gc x v1 v y qa qc low4 f),
        join c hc (four-second n top b d ln lt fa fc s t1 t z ra rc low e) (four-second n top b4 d4 ln lt ga gc x v1 v y qa qc low4 f),
      );
      clear = four-clear n top b d ln lt fa fc s t1 t z ra rc;
      clear_behind = four-clear n top b4 d4 ln lt ga gc x v1 v y qa qc;
    }

-- the entries of the first four, and of the four behind
pub bin-front : (u : List ℕ) → ((k i : ℕ) → k < 8 → i < ring_len → get_or u (channel_len * k + i) 0 < bins)
    → (k i : ℕ) → k < 4 → i < ring_len → get_or (front_of u) (channel_len * k + i) 0 < bins
bin-front u h k i lk li = omega (arith, in-front u k i lk (omega arith), h k i (omega arith) li)

pub bin-behind : (u : List ℕ) → ((k i : ℕ) → k < 8 → i < ring_len → get_or u (channel_len * k + i) 0 < bins)
    → (k i : ℕ) → k < 4 → i < ring_len → get_or (behind_of u) (channel_len * k + i) 0 < bins
bin-behind u h k i lk li = omega (arith, in-behind u k i lk (omega arith), h (k + 4) i (omega arith) li)

-- ---- channels from the first on

abbrev pub Sound : ℕ → List ℕ → ℕ → Type 0
Sound from u k = sound_channel (chan_of (chan_at from u k)) ≡ true

-- a channel of an eight that begins at the a-th channel
in-eight : (from a j p : ℕ) (u : List ℕ) → p ≡ from + channel_len * a → p + 8 * channel_len ≤ length u → a ≤ j → j < a + 8 → EightSound (part p (8 * channel_len) u) → Sound from u j
in-eight from a j p u q h l m e =
    let d : p + channel_len * (j - a) ≡ from + channel_len * j = omega arith in
    ap (λ (l : List ℕ). sound_channel (chan_of l))
    (ap (λ (b : ℕ). part b channel_len u) (sym d) ∙ sym (part-of p (8 * channel_len) (channel_len * (j - a)) channel_len u h (omega arith)))
    ∙ e (j - a) (omega arith)

pub sixteen-more : (from k : ℕ) (u : List ℕ) → from + channel_len * (k + 16) ≤ length u → ((j : ℕ) → j < k → Sound from u j)
    → EightSound (part (from + channel_len * k) (8 * channel_len) u) → EightSound (part (from + channel_len * k + 8 * channel_len) (8 * channel_len) u)
    → (j : ℕ) → j < k + 16 → Sound from u j
sixteen-more from k u r h p q j l =
    by-test (ltb j k)
    (λ e. h j (ltb-true j k e))
    (λ e. by-test (ltb j (k + 8))
    (λ f. in-eight from k j (from + channel_len * k) u refl (omega arith) (ltb-false j k e) (ltb-true j (k + 8) f) p)
    (λ f. in-eight from (k + 8) j (from + channel_len * k + 8 * channel_len) u (omega arith) (omega arith) (ltb-false j (k + 8) f) (omega arith) q))

-- what is left, by its first eight and its last
pub last_more : (from k n : ℕ) (u : List ℕ) → from + channel_len * n ≤ length u → k + 8 ≤ n → n ≤ k + 16 → ((j : ℕ) → j < k → Sound from u j)
    → EightSound (part (from + channel_len * k) (8 * channel_len) u) → EightSound (part (from + channel_len * (n - 8)) (8 * channel_len) u)
    → (j : ℕ) → j < n → Sound from u j
last_more from k n u r m w h p q j l =
    by-test (ltb j k)
    (λ e. h j (ltb-true j k e))
    (λ e. by-test (ltb j (k + 8))
    (λ f. in-eight from k j (from + channel_len * k) u refl (omega arith) (ltb-false j k e) (ltb-true j (k + 8) f) p)
    (λ f. in-eight from (n - 8) j (from + channel_len * (n - 8)) u refl (omega arith) (omega (arith, ltb-false j (k + 8) f)) (omega arith) q))

pub clear-made : Clear (replicate {A = ℕ} (4 * bins) 0)
clear-made = record { long = length-replicate {A = ℕ} (4 * bins) 0; none = λ k b lk lb. get_or-replicate {A = ℕ} (4 * bins) (k * bins + b) 0 0 (omega arith) }
