-- How long the parts of a log are. Assumes nothing.
use mathlib.Core.Path.{◌≡◌, refl, sym, ap, ap₂, ◌∙◌}
use mathlib.Core.Bool.{Bool, true, false, cond}
use mathlib.Core.List.{List, [], ◌++◌}
use Prim.Native.Nat.{ℕ, zero, suc, ◌+◌, ◌*◌, ◌/◌, ◌%◌, ◌<◌, ◌≤◌}
use native.Mathlib.Nat.{mul-suc, mul-zero, div-add-mod, mul-le-mul_right, mul-div-le}
use native.Mathlib.Numerals.{add-one}
use native.Mathlib.Omega.{arith}
use lib.ListN.{length, get_or, length-append}
use Rattle.laws.specs.Lists.{tab, joined, one}
use Rattle.laws.specs.Tests.{tally}
use Rattle.laws.specs.Bits.{width}
use Rattle.laws.proofs.Tabs.{joined-next}
use Rattle.laws.proofs.Runs.{joined-more, joined-room}
use Rattle.laws.proofs.Bits.{long}
use Rattle.laws.proofs.Tallies.{tally-add}
use Rattle.low_first.specs.LowFirst.{low_bytes}
use Rattle.low_first.proofs.Bytes.{length-low}
use Rattle.laws.proofs.Lists.{row}
use Rattle.log_model.specs.Format.{map_of, pair_of, pairs_of, hop_of, changed, hop_at, log_of}

pub length-map : (n : ℕ) (p : ℕ → Bool) → length (map_of n p) ≡ width n
unfolding map_of
length-map n p = long (width n) _

pub length-pair : (d p : ℕ) → length (pair_of d p) ≡ 12
unfolding pair_of
length-pair d p = length-append (low_bytes 8 d) (low_bytes 4 p) ∙ ap₂ ◌+◌ (length-low 8 d) (length-low 4 p)

module _ (c : ℕ → Bool) (d p : ℕ → ℕ) where
  -- the pairs of one channel more
  pub pairs-more : (k : ℕ) → pairs_of (k + 1) c d p ≡ pairs_of k c d p ++ cond (c k) (pair_of (d k) (p k)) []
  unfolding pairs_of
  pairs-more k = joined-next k (λ k. cond (c k) (pair_of (d k) (p k)) [])

  pub length-one : (k : ℕ) → length (cond (c k) (pair_of (d k) (p k)) []) ≡ 12 * one (c k)
  length-one k = by_bit (c k)
    where
      by_bit : (b : Bool) → length (cond b (pair_of (d k) (p k)) []) ≡ 12 * one b
      by_bit true = length-pair (d k) (p k)
      by_bit false = refl

  no_pairs : length (pairs_of 0 c d p) ≡ 0
  unfolding pairs_of
  no_pairs = refl

  pub length_pairs : (k : ℕ) → length (pairs_of k c d p) ≡ 12 * tally k c
  unfolding tally
  length_pairs zero = no_pairs
  length_pairs (suc k) =
      ap (λ (i : ℕ). length (pairs_of i c d p)) (sym (add-one k))
      ∙ ap length (pairs-more k)
      ∙ length-append (pairs_of k c d p) (cond (c k) (pair_of (d k) (p k)) [])
      ∙ omega (arith, length_pairs k, length-one k)

  pub length-hop : (n : ℕ) → length (hop_of n c d p) ≡ width n + 12 * tally n c
  length-hop n = length-append (map_of n c) (pairs_of n c d p) ∙ ap₂ ◌+◌ (length-map n c) (length_pairs n)

module _ (n : ℕ) (db power : List ℕ) where
  pub length_at : (j : ℕ) → length (hop_at n db power j) ≡ width n + 12 * tally n (λ k. changed n db power (n * j + k))
  unfolding hop_at
  length_at j = length-hop (λ k. changed n db power (n * j + k)) (λ k. get_or db (n * j + k) 0) (λ k. get_or power (n * j + k) 0) n

  -- h hops
  pub length-hops : (h : ℕ) → length (joined (tab h (hop_at n db power))) ≡ width n * h + 12 * tally (n * h) (changed n db power)
  unfolding tally
  length-hops zero = omega (arith, mul-zero (width n), ap (λ (i : ℕ). tally i (changed n db power)) (mul-zero n))
  length-hops (suc h) =
      ap length (joined-more h (hop_at n db power))
      ∙ length-append (joined (tab h (hop_at n db power))) (hop_at n db power h)
      ∙ omega (
        arith,
        length-hops h,
        length_at h,
        mul-suc (width n) h,
        ap (λ (i : ℕ). tally i (changed n db power)) (mul-suc n h),
        tally-add (n * h) n (changed n db power),
      )

  -- the hops are whole: a log of them all
  pub length-log : n * (length db / n) ≡ length db → length (log_of n db power) ≡ 2 + width n * (length db / n) + 12 * tally (length db) (changed n db power)
  unfolding log_of
  length-log e =
      length-append (low_bytes 2 n) (joined (tab (length db / n) (hop_at n db power)))
      ∙ omega (arith, length-low 2 n, length-hops (length db / n), ap (λ (i : ℕ). tally i (changed n db power)) e)

-- whole hops
pub hops-whole : (n l : ℕ) → l % n ≡ 0 → n * (l / n) ≡ l
hops-whole n l h = omega (arith, div-add-mod l n)

-- the maps of all hops are no longer than the slices
pub maps-fit : (n l : ℕ) → 1 ≤ n → width n * (l / n) ≤ l
maps-fit n l h =
    let e : width n ≤ n = omega arith in
    omega (arith, mul-le-mul_right (l / n) e, mul-div-le l n)

pub log-parts : (n : ℕ) (db power : List ℕ) → length (log_of n db power) ≡ 2 + length (joined (tab (length db / n) (hop_at n db power)))
unfolding log_of
log-parts n db power = length-append (low_bytes 2 n) _ ∙ ap (λ (w : ℕ). w + length (joined (tab (length db / n) (hop_at n db power)))) (length-low 2 n)

-- hop j of whole hops stands within the slices
pub hop-within : (n l j : ℕ) → l % n ≡ 0 → j < l / n → n * j + n ≤ l
hop-within n l j e h = omega (arith, row n j (l / n) h, hops-whole n l e)

-- and its bytes within the log
pub hop-fits : (n : ℕ) (db power : List ℕ) (j m : ℕ) → length (log_of n db power) ≤ m → j < length db / n
    → 2 + length (joined (tab j (hop_at n db power))) + (width n + 12 * tally n (λ k. changed n db power (n * j + k))) ≤ m
hop-fits n db power j m h l =
    omega (arith, log-parts n db power, joined-room (hop_at n db power) j (length db / n) l, length_at n db power j)
