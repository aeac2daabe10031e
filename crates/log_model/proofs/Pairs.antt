-- Where the pairs of a hop stand, channel by channel, and what they make of the slices. Assumes nothing.
use mathlib.Core.Path.{◌≡◌, sym, ap, ◌∙◌}
use mathlib.Core.Bool.{Bool, true, false, ◌&&◌}
use mathlib.Core.List.{List}
use Prim.Native.Nat.{ℕ, ◌+◌, ◌<◌, ◌≤◌}
use native.Mathlib.Nat.{add-zero}
use native.Mathlib.Omega.{arith}
use lib.Dec.{eqb}
use lib.ListN.{get_or}
use Rattle.laws.specs.Lists.{one}
use Rattle.low_first.specs.LowFirst.{low_four, low_eight}
use Rattle.laws.specs.Tests.{tally}
use Rattle.laws.specs.Bits.{width}
use Rattle.laws.proofs.Tallies.{tally-more, tally-room}
use Rattle.log_model.specs.Read.{is_set, pair_at, unchanged, db_after, power_after}

module _ (log : List ℕ) (at n : ℕ) where
  pub pair-first : at + width n ≡ pair_at log at n 0
  unfolding pair_at tally
  pair-first = sym (add-zero (at + width n))

  module _ (k : ℕ) where
    -- behind channel k: a pair further where its bit is set
    pub pair-more : is_set log at k ≡ true → pair_at log at n k + 12 ≡ pair_at log at n (k + 1)
    unfolding pair_at
    pair-more h = omega (arith, tally-more k (is_set log at), ap one h)

    pub pair_same : is_set log at k ≡ false → pair_at log at n k ≡ pair_at log at n (k + 1)
    unfolding pair_at
    pair_same h = omega (arith, tally-more k (is_set log at), ap one h)

    -- a pair lies before the end of the pairs
    pub pair-room : k < n → is_set log at k ≡ true → pair_at log at n k + 12 ≤ pair_at log at n n
    unfolding pair_at
    pair-room l h = omega (arith, tally-room k n (is_set log at) l, ap one h)

    -- a set bit: whether the pair is the one that the slices hold
    pub unchanged-set : (db power : List ℕ) (pair : ℕ) (b : Bool) → pair ≡ pair_at log at n k → is_set log at k ≡ true
        → b ≡ (eqb (low_eight log pair) (get_or db k 0) && eqb (low_four log (pair + 8)) (get_or power k 0)) → unchanged log at n db power k ≡ b
    unfolding unchanged
    unchanged-set db power pair b e h f =
        rw h (sym (f ∙ ap (λ (a : ℕ). eqb (low_eight log a) (get_or db k 0) && eqb (low_four log (a + 8)) (get_or power k 0)) e))

    pub unchanged-clear : (db power : List ℕ) → is_set log at k ≡ false → unchanged log at n db power k ≡ false
    unfolding unchanged
    unchanged-clear db power h = rw h

    -- what channel k holds after the hop
    pub db-set : (db : List ℕ) (pair v : ℕ) → pair ≡ pair_at log at n k → is_set log at k ≡ true → v ≡ low_eight log pair → v ≡ db_after log at n db k
    db-set db pair v e h f = f ∙ ap (low_eight log) e ∙ rw h

    pub power-set : (power : List ℕ) (pair v : ℕ) → pair ≡ pair_at log at n k → is_set log at k ≡ true → v ≡ low_four log (pair + 8) → v ≡ power_after log at n power k
    power-set power pair v e h f = f ∙ ap (λ (a : ℕ). low_four log (a + 8)) e ∙ rw h

    pub db-clear : (db : List ℕ) → is_set log at k ≡ false → get_or db k 0 ≡ db_after log at n db k
    db-clear db h = rw h

    pub power-clear : (power : List ℕ) → is_set log at k ≡ false → get_or power k 0 ≡ power_after log at n power k
    power-clear power h = rw h
