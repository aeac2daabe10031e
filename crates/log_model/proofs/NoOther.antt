-- A log that reads from its start to its end without a refusal is byte for byte what the writer writes of those hops. Assumes nothing.
use Rattle.std.specs.Prelude.{Some, None, Ok, Err}
use mathlib.Core.Path.{◌≡◌, refl, sym, ap, ap₂, subst, ◌∙◌}
use mathlib.Core.Bool.{Bool, true, false, cond, not, ◌&&◌, ◌||◌}
use mathlib.Core.List.{List, [], ◌∷◌, ◌++◌}
use Prim.Native.Nat.{ℕ, zero, suc, ◌+◌, ◌-◌, ◌*◌, ◌/◌, ◌<◌, ◌≤◌}
use native.Mathlib.Nat.{mul-zero, mul-suc, mul-div_right}
use native.Mathlib.Numerals.{add-one}
use native.Mathlib.Omega.{arith}
use lib.Dec.{eqb, ltb}
use lib.ListN.{length, get_or, drop, length-append, take-append-drop, get_or-append, get_or-eq_default}
use lib.Seq.{drop-drop, drop-length, get_or-append-add}
use borrow.Author.Tests.{ltb-true, ltb-false}
use Rattle.laws.specs.Lists.{part, tab, tab_from, joined, one}
use Rattle.laws.specs.Tests.{tally, differ}
use Rattle.laws.specs.Bits.{width, bit_of}
use Rattle.laws.proofs.Lists.{length_part, get_d_part, part-add}
use Rattle.laws.proofs.Tabs.{length-tab, get_d-tab, tab-ext}
use Rattle.laws.proofs.Tests.{by-test, and-false-l, agrees, any_none}
use Rattle.laws.proofs.Bits.{bytes_same, bytes_bits, bits-part}
use Rattle.low_first.specs.LowFirst.{low_two, low_four, low_eight}
use Rattle.low_first.proofs.Bytes.{two_back, four-back, eight-back, part_low}
use Rattle.log_model.specs.Format.{map_of, pair_of, pairs_of, hop_of, before, hop_at, log_of}
use Rattle.log_model.specs.Read.{is_set, pair_at, unchanged, db_after, power_after, read_hop}
use Rattle.log_model.specs.Whole.{Reading, onward, read_on, Below, NoOther}
use Rattle.log_model.proofs.Answers.{Started, started, Whole, whole}
use Rattle.log_model.proofs.Inverse.{Read, read-tells, end-tells, other}
use Rattle.log_model.proofs.Lengths.{pairs-more}
use Rattle.log_model.proofs.Pairs.{db-set, db-clear, power-set, power-clear, pair-room, unchanged-set}

-- bytes are small past the end too
pub all_small : (l : List ℕ) → Below 256 l → (i : ℕ) → get_or l i 0 < 256
all_small l h i =
    by-test (ltb i (length l)) (λ t. h i (ltb-true i (length l) t))
    (λ t. let z : get_or l i 0 ≡ 0 = get_or-eq_default l 0 (ltb-false i (length l) t) in omega arith)

one-differs : (a b : Bool) → (a && b) ≡ false → true ≡ (not a || not b)
one-differs true true h = h
one-differs true false h = refl
one-differs false b h = refl

-- a hop that was read, at `at`
module _ (log : List ℕ) (small : (i : ℕ) → get_or log i 0 < 256) (at n : ℕ) (db power : List ℕ) (w : Whole log at n db power) where
  abbrev S : ℕ → Bool
  S = is_set log at

  abbrev D : ℕ → ℕ
  D = db_after log at n db

  abbrev P : ℕ → ℕ
  P = power_after log at n power

  -- past n no bit is set
  marked : (k : ℕ) → k < 8 * width n → (ltb k n && S k) ≡ S k
  marked k h =
      by-test (ltb k n) (λ t. ap (λ (b : Bool). b && S k) t)
      (λ t.
      let m : n ≤ k = ltb-false k n t in
      ap (λ (b : Bool). b && S k) t
      ∙ sym (ap S (let z : k ≡ n + (k - n) = omega arith in z) ∙ any_none (λ i. S (n + i)) (8 * width n - n) (k - n) w.none_is_past (omega arith)))

  map-long : length (part at (width n) log) ≡ width n
  map-long = length_part at (width n) log w.map_whole

  map-bytes : part at (width n) log ≡ map_of n S
  unfolding map_of is_set
  map-bytes =
      sym (bytes_bits (width n) (part at (width n) log) map-long (λ i h. rw (get_d_part at (width n) log i 0 h) (small (at + i))))
      ∙ bytes_same (width n) (bit_of (part at (width n) log)) (λ k. ltb k n && S k) (λ k h. bits-part at (width n) log k h ∙ sym (marked k h))

  pair-bytes : (a : ℕ) → a + 12 ≤ length log → part a 12 log ≡ pair_of (low_eight log a) (low_four log (a + 8))
  unfolding pair_of
  pair-bytes a h =
      part-add a 8 4 log
      ∙ ap₂ (λ (x y : List ℕ). x ++ y) (part_low log a (low_eight log a) 8 (omega arith) (eight-back log a small)) (part_low log (a + 8) (low_four log (a + 8)) 4 (omega arith) (four-back log (a + 8) small))

  one-bytes : (k : ℕ) → k < n → part (pair_at log at n k) (12 * one (S k)) log ≡ cond (S k) (pair_of (D k) (P k)) []
  one-bytes k h =
      by-test (S k)
      (λ t.
      ap (λ (b : Bool). part (pair_at log at n k) (12 * one b) log) t
      ∙ pair-bytes (pair_at log at n k) (omega (arith, pair-room log at n k h t, w.pairs_whole))
      ∙ ap₂ pair_of (db-set log at n k db (pair_at log at n k) _ refl t refl) (power-set log at n k power (pair_at log at n k) _ refl t refl)
      ∙ ap (λ (b : Bool). cond b (pair_of (D k) (P k)) []) (sym t))
      (λ t. ap (λ (b : Bool). part (pair_at log at n k) (12 * one b) log) t ∙ ap (λ (b : Bool). cond b (pair_of (D k) (P k)) []) (sym t))

  pairs-bytes : (k : ℕ) → k ≤ n → part (at + width n) (12 * tally k S) log ≡ pairs_of k S D P
  unfolding tally pairs_of pair_at
  pairs-bytes zero h = refl
  pairs-bytes (suc k) h =
      ap (λ (v : ℕ). part (at + width n) v log) (let z : 12 * (tally k S + one (S k)) ≡ 12 * tally k S + 12 * one (S k) = omega arith in z)
      ∙ part-add (at + width n) (12 * tally k S) (12 * one (S k)) log
      ∙ ap₂ (λ (x y : List ℕ). x ++ y) (pairs-bytes k (omega arith)) (one-bytes k (omega arith))
      ∙ sym (pairs-more S D P k)
      ∙ ap (λ (i : ℕ). pairs_of i S D P) (add-one k)

  pub hop-bytes : part at (width n + 12 * tally n S) log ≡ hop_of n S D P
  hop-bytes =
      part-add at (width n) (12 * tally n S) log ∙ ap₂ (λ (x y : List ℕ). x ++ y) map-bytes (pairs-bytes n (omega arith))

  -- the bits are set exactly where a pair changed
  pub bits-agree : (k : ℕ) → k < n → S k ≡ (differ (D k) (get_or db k 0) || differ (P k) (get_or power k 0))
  bits-agree k h =
      by-test (S k)
      (λ t.
      let u : unchanged log at n db power k ≡ false = any_none (unchanged log at n db power) n k w.all_changed h in
      t
      ∙ one-differs (eqb (low_eight log (pair_at log at n k)) (get_or db k 0)) (eqb (low_four log (pair_at log at n k + 8)) (get_or power k 0))
      (sym (unchanged-set log at n k db power (pair_at log at n k) _ refl t refl) ∙ u)
      ∙ ap₂ (λ (x y : ℕ). differ x (get_or db k 0) || differ y (get_or power k 0)) (db-set log at n k db (pair_at log at n k) _ refl t refl) (power-set log at n k power (pair_at log at n k) _ refl t refl))
      (λ t.
      t
      ∙ sym (ap₂ (λ (x y : Bool). x || y) (agrees (D k) (get_or db k 0) (sym (db-clear log at n k db t))) (agrees (P k) (get_or power k 0) (sym (power-clear log at n k power t)))))

-- ---- hops that are equal below n have the same bytes

module _ (n : ℕ) (S T : ℕ → Bool) (D E P Q : ℕ → ℕ) (s : (k : ℕ) → k < n → S k ≡ T k) (d : (k : ℕ) → k < n → D k ≡ E k) (p : (k : ℕ) → k < n → P k ≡ Q k) where
  map-ext : map_of n S ≡ map_of n T
  unfolding map_of
  map-ext =
      bytes_same (width n) (λ k. ltb k n && S k) (λ k. ltb k n && T k)
      (λ k _.
      by-test (ltb k n) (λ t. ap (λ (x : Bool). ltb k n && x) (s k (ltb-true k n t)))
      (λ t. and-false-l (ltb k n) (S k) t ∙ sym (and-false-l (ltb k n) (T k) t)))

  pub hop-ext : hop_of n S D P ≡ hop_of n T E Q
  unfolding pairs_of
  hop-ext =
      ap₂ (λ (x y : List ℕ). x ++ y) map-ext
      (ap joined
      (tab-ext n (λ k. cond (S k) (pair_of (D k) (P k)) []) (λ k. cond (T k) (pair_of (E k) (Q k)) [])
      (λ k h i. cond (s k h i) (pair_of (d k h i) (p k h i)) [])))

tab_from-shift : {A : Type 0} (i n : ℕ) (f : ℕ → A) → tab_from (suc i) n f ≡ tab_from i n (λ k. f (suc k))
tab_from-shift i zero f = refl
tab_from-shift {A} i (suc n) f = ap (λ (r : List A). f (suc i) ∷ r) (tab_from-shift (suc i) n f)

-- ---- hops read one after another: hop j of l and m, from the hop before it; the first n entries are what the slices held

abbrev hop_in : ℕ → List ℕ → List ℕ → ℕ → List ℕ
hop_in n l m j =
    hop_of n (λ k. differ (get_or l (n * (j + 1) + k) 0) (get_or l (n * j + k) 0) || differ (get_or m (n * (j + 1) + k) 0) (get_or m (n * j + k) 0))
    (λ k. get_or l (n * (j + 1) + k) 0) (λ k. get_or m (n * (j + 1) + k) 0)

-- from `at` on the log is these hops
record Rest (log : List ℕ) (n at : ℕ) (db power ds ps : List ℕ) : Type 0 where
  header : 2 ≤ length log
  some : 1 ≤ n
  hops : ℕ
  long : length ds ≡ n * hops
  bytes : drop at log ≡ joined (tab hops (hop_in n (db ++ ds) (power ++ ps)))

at_second : (n : ℕ) (a b : List ℕ) (i j : ℕ) → length a ≡ n → i ≡ n + j → get_or (a ++ b) i 0 ≡ get_or b j 0
at_second n a b i j e h = ap (λ (k : ℕ). get_or (a ++ b) k 0) (let z : i ≡ length a + j = omega arith in z) ∙ get_or-append-add a b j 0

at_first : (n : ℕ) (a b : List ℕ) (i k : ℕ) → length a ≡ n → i ≡ k → k < n → get_or (a ++ b) i 0 ≡ get_or a k 0
at_first n a b i k e h l = ap (λ (j : ℕ). get_or (a ++ b) j 0) h ∙ get_or-append a b 0 k (omega arith)

next_row : (n j : ℕ) → n * (j + 1) ≡ n + n * j
next_row n j = ap (λ (i : ℕ). n * i) (add-one j) ∙ mul-suc n j ∙ omega arith

-- the hops after the first are those of the rest
hop-shift : (n : ℕ) (a b l m : List ℕ) (j : ℕ) → length a ≡ n → length b ≡ n → hop_in n (a ++ l) (b ++ m) (suc j) ≡ hop_in n l m j
hop-shift n a b l m j e f =
    hop-ext n _ _ _ _ _ _
    (λ k h i. differ (hi l a e k i) (lo l a e k i) || differ (hi m b f k i) (lo m b f k i))
    (λ k h. hi l a e k) (λ k h. hi m b f k)
  where
    hi : (l a : List ℕ) → length a ≡ n → (k : ℕ) → get_or (a ++ l) (n * (suc j + 1) + k) 0 ≡ get_or l (n * (j + 1) + k) 0
    hi l a e k = at_second n a l (n * (suc j + 1) + k) (n * (j + 1) + k) e (let z : suc j + 1 ≡ j + 1 + 1 = omega arith in omega (arith, ap (λ (i : ℕ). n * i) z, next_row n (j + 1)))

    lo : (l a : List ℕ) → length a ≡ n → (k : ℕ) → get_or (a ++ l) (n * suc j + k) 0 ≡ get_or l (n * j + k) 0
    lo l a e k = at_second n a l (n * suc j + k) (n * j + k) e (omega (arith, mul-suc n j))

-- one hop that was read, and the rest behind it
module _ (log : List ℕ) (small : (i : ℕ) → get_or log i 0 < 256) (at : ℕ) (db power : List ℕ) (next : ℕ) (d p : List ℕ) (r : Read log at db power next d p) where
  abbrev n : ℕ
  n = low_two log 0

  begun : Started log at n (length db) (length power)
  begun = started log at (length db) (length power) r.start_ok

  passed : Whole log at n db power
  passed = whole log at n db power r.hop_ok

  d-long : length d ≡ n
  d-long = ap length r.d_is ∙ length-tab n _

  p_long : length p ≡ n
  p_long = ap length r.p_is ∙ length-tab n _

  -- what stands in channel k after the hop, and before it
  after-it : (a c x : List ℕ) (f : ℕ → ℕ) → length a ≡ n → length c ≡ n → c ≡ tab n f → (k : ℕ) → k < n → f k ≡ get_or (a ++ (c ++ x)) (n * (0 + 1) + k) 0
  after-it a c x f e g h k l =
      sym (at_second n a (c ++ x) (n * (0 + 1) + k) k e (omega (arith, next_row n 0, mul-zero n)) ∙ get_or-append c x 0 k (omega arith) ∙ ap (λ (q : List ℕ). get_or q k 0) h ∙ get_d-tab n f k 0 l)

  before-it : (a x : List ℕ) → length a ≡ n → (k : ℕ) → k < n → get_or a k 0 ≡ get_or (a ++ x) (n * 0 + k) 0
  before-it a x e k l = sym (at_first n a x (n * 0 + k) k e (omega (arith, mul-zero n)) l)

  first-hop : (ds ps : List ℕ) → hop_of n (is_set log at) (db_after log at n db) (power_after log at n power) ≡ hop_in n (db ++ (d ++ ds)) (power ++ (p ++ ps)) 0
  first-hop ds ps =
      hop-ext n _ _ _ _ _ _
      (λ k l.
      bits-agree log small at n db power passed k l
      ∙ (λ i. differ (hi-d k l i) (before-it db (d ++ ds) begun.dbs_long k l i) || differ (hi-p k l i) (before-it power (p ++ ps) begun.powers_long k l i)))
      hi-d hi-p
    where
      hi-d : (k : ℕ) → k < n → db_after log at n db k ≡ get_or (db ++ (d ++ ds)) (n * (0 + 1) + k) 0
      hi-d = after-it db d ds (db_after log at n db) begun.dbs_long d-long r.d_is

      hi-p : (k : ℕ) → k < n → power_after log at n power k ≡ get_or (power ++ (p ++ ps)) (n * (0 + 1) + k) 0
      hi-p = after-it power p ps (power_after log at n power) begun.powers_long p_long r.p_is

  size : ℕ
  size = width n + 12 * tally n (is_set log at)

  next-at : next ≡ at + size
  unfolding pair_at size
  next-at = r.next_is ∙ omega arith

  one_more : (ds ps : List ℕ) → Rest log n next d p ds ps → Rest log n at db power (d ++ ds) (p ++ ps)
  unfolding size
  one_more ds ps R =
      record {
        header = begun.header;
        some = begun.some;
        hops = suc R.hops;
        long = length-append d ds ∙ omega (arith, d-long, R.long, mul-suc n R.hops);
        bytes =
            sym (take-append-drop size (drop at log))
            ∙ ap₂ (λ (x y : List ℕ). x ++ y)
            (hop-bytes log small at n db power passed ∙ first-hop ds ps)
            (drop-drop size at log
            ∙ ap (λ (i : ℕ). drop i log) (sym next-at)
            ∙ R.bytes
            ∙ ap joined
            (tab-ext R.hops (hop_in n (d ++ ds) (p ++ ps)) (λ j. hop_in n (db ++ (d ++ ds)) (power ++ (p ++ ps)) (suc j)) (λ j l. sym (hop-shift n db power (d ++ ds) (p ++ ps) j begun.dbs_long begun.powers_long))
            ∙ sym (tab_from-shift 0 R.hops (hop_in n (db ++ (d ++ ds)) (power ++ (p ++ ps))))));
      }

-- reading m answers on from `at` ends: so it stands there
reads_on : (log : List ℕ) (small : (i : ℕ) → get_or log i 0 < 256) (m at : ℕ) (db power ds ps : List ℕ)
    → read_on m log at db power ≡ (Ok None, ds, ps) → Rest log (low_two log 0) at db power ds ps
unfolding read_on
reads_on log small zero at db power ds ps e = other _ _ e (λ q. cc)
reads_on log small (suc m) at db power ds ps e = go (λ next d p ds ps f. reads_on log small m next d p ds ps f) (read_hop log at db power) refl e
  where
    go : ((next : ℕ) (d p ds ps : List ℕ) → read_on m log next d p ≡ (Ok None, ds, ps) → Rest log (low_two log 0) next d p ds ps)
        → (r : Reading) → read_hop log at db power ≡ r → onward r (read_on m log) ≡ (Ok None, ds, ps) → Rest log (low_two log 0) at db power ds ps
    go more (Ok (Some next), d, p) f g =
        let r : Reading = read_on m log next d p in
        subst (λ (x : List ℕ × List ℕ). Rest log (low_two log 0) at db power x.0 x.1) (λ i. (ap (λ (x : Reading). x.1) g i, ap (λ (x : Reading). x.2) g i))
        (one_more log small at db power next d p (read-tells log at db power next d p f) r.1 r.2
        (more next d p r.1 r.2 (λ i. (ap (λ (x : Reading). x.0) g i, r.1, r.2))))
    go more (Ok None, d, p) f g =
        let t = end-tells log at db power d p f in
        let s = started log at (length db) (length power) t.0 in
        record {
          header = s.header;
          some = s.some;
          hops = 0;
          long = ap (λ (x : Reading). length x.1) (sym g) ∙ sym (mul-zero (low_two log 0));
          bytes = ap (λ (i : ℕ). drop i log) t.1 ∙ drop-length log;
        }
    go more (Err x, d, p) f g = other _ _ g (λ q. cc)

-- hops behind n zeros are those of the format
from-zeros : (n : ℕ) (l : List ℕ) (i : ℕ) → get_or (tab n (λ _. 0) ++ l) i 0 ≡ before n l i
from-zeros n l i =
    by-test (ltb i n)
    (λ t. get_or-append (tab n (λ _. 0)) l 0 i (omega (arith, length-tab {A = ℕ} n (λ _. 0), ltb-true i n t)) ∙ get_d-tab n (λ _. 0) i 0 (ltb-true i n t) ∙ sym (ap (λ (b : Bool). cond b 0 (get_or l (i - n) 0)) t))
    (λ t.
    let h : n ≤ i = ltb-false i n t in
    at_second n (tab n (λ _. 0)) l i (i - n) (length-tab n _) (omega arith) ∙ sym (ap (λ (b : Bool). cond b 0 (get_or l (i - n) 0)) t))

hop-zeros : (n : ℕ) (db power : List ℕ) (j : ℕ) → hop_in n (tab n (λ _. 0) ++ db) (tab n (λ _. 0) ++ power) j ≡ hop_at n db power j
unfolding hop_at
hop-zeros n db power j =
    hop-ext n _ _ _ _ _ _
    (λ k h i. differ (hi db k i) (from-zeros n db (n * j + k) i) || differ (hi power k i) (from-zeros n power (n * j + k) i))
    (λ k h. hi db k) (λ k h. hi power k)
  where
    hi : (l : List ℕ) (k : ℕ) → get_or (tab n (λ _. 0) ++ l) (n * (j + 1) + k) 0 ≡ get_or l (n * j + k) 0
    hi l k = at_second n (tab n (λ _. 0)) l (n * (j + 1) + k) (n * j + k) (length-tab n _) (omega (arith, next_row n j))

pub no_other : NoOther
unfolding log_of
no_other log db power bound e =
    let small = all_small log bound in
    let n : ℕ = low_two log 0 in
    let R = reads_on log small (suc (length log)) 2 (tab n (λ _. 0)) (tab n (λ _. 0)) db power e in
    let count : R.hops ≡ length db / n = sym (ap (λ (l : ℕ). l / n) R.long ∙ mul-div_right R.hops R.some) in
    sym (take-append-drop 2 log)
    ∙ ap₂ (λ (x y : List ℕ). x ++ y) (part_low log 0 n 2 R.header (two_back log 0 small))
    (R.bytes ∙ ap joined (tab-ext R.hops (hop_in n (tab n (λ _. 0) ++ db) (tab n (λ _. 0) ++ power)) (hop_at n db power) (λ j l. hop-zeros n db power j))
    ∙ ap (λ (c : ℕ). joined (tab c (hop_at n db power))) count)
