-- A hop that stands in a log: what the reader finds there. Assumes nothing.
use Rattle.std.specs.Prelude.{Some, Ok}
use mathlib.Core.Path.{◌≡◌, refl, sym, ap, ap₂, ◌∙◌}
use mathlib.Core.Bool.{Bool, true, false, cond, not, ◌&&◌, ◌||◌}
use mathlib.Core.List.{List, [], ◌++◌, append_assoc}
use Prim.Native.Nat.{ℕ, suc, ◌+◌, ◌*◌, ◌^◌, ◌<◌, ◌≤◌}
use native.Mathlib.Omega.{arith}
use lib.Dec.{eqb, ltb}
use lib.ListN.{length, get_or, length-append, get_or-append}
use lib.Seq.{get_or-append-add}
use borrow.Author.Tests.{lt-ltb, le-ltb}
use Rattle.laws.specs.Lists.{part, tab, joined, one}
use Rattle.laws.specs.Tests.{tally, differ}
use Rattle.laws.specs.Bits.{width}
use Rattle.laws.proofs.Lists.{get_d_part}
use Rattle.laws.proofs.Runs.{run-part, part-in-first}
use Rattle.laws.proofs.Tabs.{tab-ext}
use Rattle.laws.proofs.Tests.{by-test, and-false-l, or_l, or_r, same_of, none_any}
use Rattle.laws.proofs.Tallies.{tally-le, tally-room, tally-ext}
use Rattle.laws.proofs.Bits.{bits_of, bits-front, bits-behind}
use Rattle.low_first.specs.LowFirst.{low_bytes, low_four, low_eight}
use Rattle.low_first.proofs.Bytes.{length-low, low-at, four-there, eight-there}
use Rattle.log_model.specs.Format.{map_of, pair_of, pairs_of, hop_of}
use Rattle.log_model.specs.Read.{is_set, pair_at, unchanged, db_after, power_after, read_in}
use Rattle.log_model.proofs.Answers.{passes, in-next}
use Rattle.log_model.proofs.Lengths.{length-map, length_pairs, length-hop, length-one}
use Rattle.log_model.proofs.Pairs.{unchanged-set, unchanged-clear, db-set, db-clear, power-set, power-clear}

-- the hop of n channels with these set bits and pairs stands at `at`, behind `pre`
module _ (n at : ℕ) (pre post : List ℕ) (S : ℕ → Bool) (D P : ℕ → ℕ) (e : length pre ≡ at) where
  abbrev log : List ℕ
  log = pre ++ (hop_of n S D P ++ post)

  map-long : 8 * width n ≡ 8 * length (map_of n S)
  map-long = ap (λ (w : ℕ). 8 * w) (sym (length-map n S))

  pub bit-there : (k : ℕ) → k < 8 * width n → is_set log at k ≡ (ltb k n && S k)
  unfolding is_set map_of
  bit-there k h =
      bits-behind pre (hop_of n S D P ++ post) at k e
      ∙ bits-front (hop_of n S D P) post k (omega (arith, map-long, length-append (map_of n S) (pairs_of n S D P)))
      ∙ bits-front (map_of n S) (pairs_of n S D P) k (omega (arith, map-long))
      ∙ bits_of (width n) (λ k. ltb k n && S k) k h

  pub bit-within : (k : ℕ) → k < n → is_set log at k ≡ S k
  bit-within k h = bit-there k (omega arith) ∙ ap (λ (b : Bool). b && S k) (lt-ltb k n h)

  pub bit_past : (k : ℕ) → n ≤ k → k < 8 * width n → is_set log at k ≡ false
  bit_past k h l = bit-there k l ∙ and-false-l (ltb k n) (S k) (le-ltb k n h)

  abbrev start : ℕ → ℕ
  start k = at + width n + 12 * tally k S

  pub pair-there : (k : ℕ) → k ≤ n → pair_at log at n k ≡ start k
  unfolding pair_at
  pair-there k h = ap (λ (t : ℕ). at + width n + 12 * t) (tally-ext k (is_set log at) S (λ i l. bit-within i (omega arith)))

  one-pair : ℕ → List ℕ
  one-pair k = cond (S k) (pair_of (D k) (P k)) []

  abbrev front : List ℕ
  front = pre ++ map_of n S

  front_long : length front ≡ start 0
  unfolding tally
  front_long = length-append pre (map_of n S) ∙ omega (arith, length-map n S)

  apart : log ≡ (front ++ joined (tab n one-pair)) ++ post
  unfolding pairs_of one-pair
  apart =
      ap (λ (r : List ℕ). pre ++ r) (append_assoc (map_of n S) (pairs_of n S D P) post)
      ∙ sym (append_assoc pre (map_of n S) (pairs_of n S D P ++ post))
      ∙ sym (append_assoc front (pairs_of n S D P) post)

  size : ℕ → ℕ
  size k = 12 * one (S k)

  meets : (j : ℕ) → start (suc j) ≡ start j + size j
  unfolding tally size
  meets j = omega arith

  long : (j : ℕ) → length (one-pair j) ≡ size j
  unfolding one-pair size
  long j = length-one S D P j

  pairs-long : length (joined (tab n one-pair)) ≡ 12 * tally n S
  unfolding pairs_of one-pair
  pairs-long = length_pairs S D P n

  run_end : length (front ++ joined (tab n one-pair)) ≡ start n
  run_end = length-append front (joined (tab n one-pair)) ∙ omega (arith, front_long, pairs-long, tally-le 0 S)

  pair-part : (k : ℕ) → k < n → S k ≡ true → part (start k) 12 log ≡ pair_of (D k) (P k)
  unfolding one-pair size
  pair-part k h t =
      ap (part (start k) 12) apart
      ∙ part-in-first (front ++ joined (tab n one-pair)) post (start k) 12 (omega (arith, run_end, tally-room k n S h, ap one t))
      ∙ ap (λ (w : ℕ). part (start k) w (front ++ joined (tab n one-pair))) (let z : 12 ≡ 12 * one (S k) = ap (λ (b : Bool). 12 * one b) (sym t) in z)
      ∙ run-part start size n k front one-pair (λ j _. meets j) (λ j _. long j) front_long h
      ∙ ap (λ (b : Bool). cond b (pair_of (D k) (P k)) []) t

  pub log-long : length log ≡ start n + length post
  log-long = ap length apart ∙ length-append (front ++ joined (tab n one-pair)) post ∙ ap (λ (w : ℕ). w + length post) run_end

  pub hop-long : start n ≡ at + length (hop_of n S D P)
  hop-long = omega (arith, length-hop S D P n)

  module _ (k : ℕ) (h : k < n) (t : S k ≡ true) where
    byte-there : (i : ℕ) → i < 12 → get_or log (start k + i) 0 ≡ get_or (pair_of (D k) (P k)) i 0
    byte-there i l = sym (get_d_part (start k) 12 log i 0 l) ∙ ap (λ (r : List ℕ). get_or r i 0) (pair-part k h t)

    pub db-there : D k < 2 ^ 64 → low_eight log (start k) ≡ D k
    unfolding pair_of
    db-there b =
        eight-there log (start k) (D k) b
        (λ i l.
        byte-there i (omega arith)
        ∙ get_or-append (low_bytes 8 (D k)) (low_bytes 4 (P k)) 0 i (omega (arith, length-low 8 (D k)))
        ∙ low-at 8 (D k) i l)

    pub power-there : P k < 2 ^ 32 → low_four log (start k + 8) ≡ P k
    unfolding pair_of
    power-there b =
        four-there log (start k + 8) (P k) b
        (λ i l.
        ap (λ (j : ℕ). get_or log j 0) (let z : start k + 8 + i ≡ start k + (8 + i) = omega arith in z)
        ∙ byte-there (8 + i) (omega arith)
        ∙ ap (λ (w : ℕ). get_or (low_bytes 8 (D k) ++ low_bytes 4 (P k)) (w + i) 0) (sym (length-low 8 (D k)))
        ∙ get_or-append-add (low_bytes 8 (D k)) (low_bytes 4 (P k)) i 0
        ∙ low-at 4 (P k) i l)

not-both : (a b : Bool) → (not a || not b) ≡ true → false ≡ (a && b)
not-both true true h = h
not-both true false h = refl
not-both false b h = refl

-- the bits are set where a pair changed from what the slices hold: the hop is read
module _ (n at : ℕ) (pre post : List ℕ) (S : ℕ → Bool) (D P : ℕ → ℕ) (e : length pre ≡ at) (db power : List ℕ)
    (agree : (k : ℕ) → k < n → S k ≡ (differ (D k) (get_or db k 0) || differ (P k) (get_or power k 0)))
    (dbs : (k : ℕ) → k < n → D k < 2 ^ 64) (powers : (k : ℕ) → k < n → P k < 2 ^ 32) where
  abbrev l : List ℕ
  l = pre ++ (hop_of n S D P ++ post)

  abbrev place : ℕ → ℕ
  place k = at + width n + 12 * tally k S

  changed-all : (k : ℕ) → k < n → unchanged l at n db power k ≡ false
  changed-all k h =
      by-test (S k)
      (λ t.
      unchanged-set l at n k db power (place k) false (sym (pair-there n at pre post S D P e k (omega arith))) (bit-within n at pre post S D P e k h ∙ t)
      (not-both (eqb (D k) (get_or db k 0)) (eqb (P k) (get_or power k 0)) (sym (agree k h) ∙ t)
      ∙ ap₂ (λ (x y : ℕ). eqb x (get_or db k 0) && eqb y (get_or power k 0)) (sym (db-there n at pre post S D P e k h t (dbs k h))) (sym (power-there n at pre post S D P e k h t (powers k h)))))
      (λ t. unchanged-clear l at n k db power (bit-within n at pre post S D P e k h ∙ t))

  db-after : (k : ℕ) → k < n → db_after l at n db k ≡ D k
  db-after k h =
      by-test (S k)
      (λ t.
      sym (db-set l at n k db (place k) (D k) (sym (pair-there n at pre post S D P e k (omega arith))) (bit-within n at pre post S D P e k h ∙ t)
      (sym (db-there n at pre post S D P e k h t (dbs k h)))))
      (λ t. sym (db-clear l at n k db (bit-within n at pre post S D P e k h ∙ t)) ∙ sym (same_of (D k) (get_or db k 0) (or_l _ (differ (P k) (get_or power k 0)) (sym (agree k h) ∙ t))))

  power-after : (k : ℕ) → k < n → power_after l at n power k ≡ P k
  power-after k h =
      by-test (S k)
      (λ t.
      sym (power-set l at n k power (place k) (P k) (sym (pair-there n at pre post S D P e k (omega arith))) (bit-within n at pre post S D P e k h ∙ t)
      (sym (power-there n at pre post S D P e k h t (powers k h)))))
      (λ t. sym (power-clear l at n k power (bit-within n at pre post S D P e k h ∙ t)) ∙ sym (same_of (P k) (get_or power k 0) (or_r (differ (D k) (get_or db k 0)) _ (sym (agree k h) ∙ t))))

  pub read-there : read_in l at n db power ≡ (Ok (Some (at + length (hop_of n S D P))), tab n D, tab n P)
  read-there =
      sym
      (in-next l at db power n
      (passes l at n db power
      record {
        map_whole = omega (arith, log-long n at pre post S D P e);
        none_is_past = none_any _ _ (λ i h. bit_past n at pre post S D P e (n + i) (omega arith) (omega arith));
        pairs_whole = omega (arith, log-long n at pre post S D P e, pair-there n at pre post S D P e n (omega arith));
        all_changed = none_any _ n changed-all;
      }))
      ∙ ap₂ (λ (a : ℕ) (r : List ℕ × List ℕ). (Ok (Some a), r.0, r.1)) (pair-there n at pre post S D P e n (omega arith) ∙ hop-long n at pre post S D P e)
      (λ i. (tab-ext n (db_after l at n db) D db-after i, tab-ext n (power_after l at n power) P power-after i))
