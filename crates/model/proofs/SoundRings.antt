-- The test of a channel says what `Sound` says, a push keeps a channel sound, and a fresh channel is sound. Assumes nothing.
use mathlib.Core.Path.{◌≡◌, refl}
use mathlib.Core.Bool.{Bool, true, cond, ◌&&◌}
use Prim.Native.Nat.{ℕ, ◌≤◌, ◌<◌}
use native.Mathlib.Omega.{arith}
use lib.Dec.{eqb, ltb, leb}
use lib.ListN.{length, get_or, replicate, length-replicate, get_or-replicate}
use borrow.Author.Tests.{ltb-true, leb-true, eqb-true, lt-ltb, le-leb, eq-eqb}
use Rattle.laws.specs.Lists.{occ}
use Rattle.laws.proofs.Tests.{by-test, and_l, and_r, all-at, all_true}
use Rattle.model.specs.Layout.{bins, ring_len}
use Rattle.model.specs.Ring.{ChannelFloor, entries, push_in}
use Rattle.model.specs.Bank.{fresh_channel}
use Rattle.model.specs.Stores.{sound_fields, sound_ring, sound_counts, sound_channel}
use Rattle.model.specs.Sound.{Sound}
use Rattle.model.proofs.Rings.{good-in, sound-good, good-sound}

pub sound-push : {R K : ℕ} (q : Bool) (c : ChannelFloor) (b : ℕ) → Sound R K c → b < K → Sound R K (push_in R q c b)
sound-push {R} {K} q c b s h =
    good-sound R K (omega arith) (push_in R q c b) (good-in R K q c b (sound-good R K (omega arith) c s) h)

-- a channel with nothing in it, of any size
empty : (R K : ℕ) → 0 < R → 0 < K → Sound R K (record { ring = replicate R 0; counts = replicate K 0; next = 0; filled = 0; lead = 0 })
empty R K some some' =
    record {
      ring_is_long = length-replicate R 0;
      counts_length = length-replicate K 0;
      next_below = some;
      filled_within = omega arith;
      at_start = λ _. refl;
      bins_below = λ i h. rw (get_or-replicate {A = ℕ} R i 0 0 h) some';
      recount = λ x h. get_or-replicate {A = ℕ} K x 0 0 h;
      lead_within = omega arith;
    }

pub sound-fresh : Sound ring_len bins fresh_channel
unfolding fresh_channel
sound-fresh = empty ring_len bins (omega arith) (omega arith)

-- ---- the test

-- the rules on the fields, as facts
record Fields (next filled lead zeros : ℕ) : Type 0 where
  next_below : next < ring_len
  filled_within : filled ≤ ring_len
  at_start : filled < ring_len → next ≡ filled
  lead_within : lead ≤ zeros

fields-facts : (next filled lead zeros : ℕ) → sound_fields next filled lead zeros ≡ true → Fields next filled lead zeros
fields-facts next filled lead zeros h =
    record {
      next_below = ltb-true next ring_len (and_l n f (and_l (n && f) s (and_l (n && f && s) l h)));
      filled_within = leb-true filled ring_len (and_r n f (and_l (n && f) s (and_l (n && f && s) l h)));
      at_start = λ k. eqb-true next filled (rw (lt-ltb filled ring_len k) at (and_r (n && f) s (and_l (n && f && s) l h)));
      lead_within = leb-true lead zeros (and_r (n && f && s) l h);
    }
  where
    n : Bool
    n = ltb next ring_len

    f : Bool
    f = leb filled ring_len

    s : Bool
    s = cond (ltb filled ring_len) (eqb next filled) true

    l : Bool
    l = leb lead zeros

fields-true : (next filled lead zeros : ℕ) → Fields next filled lead zeros → sound_fields next filled lead zeros ≡ true
fields-true next filled lead zeros k =
    rw (lt-ltb next ring_len k.next_below, le-leb filled ring_len k.filled_within, start, le-leb lead zeros k.lead_within)
  where
    start : cond (ltb filled ring_len) (eqb next filled) true ≡ true
    start = by-test (ltb filled ring_len) (λ t. rw t (eq-eqb next filled (k.at_start (ltb-true filled ring_len t)))) (λ t. rw t)

pub sound-facts : (c : ChannelFloor) → length c.ring ≡ ring_len → length c.counts ≡ bins → sound_channel c ≡ true → Sound ring_len bins c
unfolding sound_channel sound_ring sound_counts
sound-facts c r k h =
    record {
      ring_is_long = r;
      counts_length = k;
      next_below = f.next_below;
      filled_within = f.filled_within;
      at_start = f.at_start;
      bins_below = λ i l. ltb-true (get_or c.ring i 0) bins (all-at (λ i. ltb (get_or c.ring i 0) bins) ring_len i (and_r F (sound_ring c) FR) l);
      recount =
          λ x l.
          eqb-true (get_or c.counts x 0) (occ x (entries c))
          (all-at (λ x. eqb (get_or c.counts x 0) (occ x (entries c))) bins x (and_r (F && sound_ring c) (sound_counts c) h) l);
      lead_within = f.lead_within;
    }
  where
    F : Bool
    F = sound_fields c.next c.filled c.lead (get_or c.counts 0 0)

    FR : (F && sound_ring c) ≡ true
    FR = and_l (F && sound_ring c) (sound_counts c) h

    f : Fields c.next c.filled c.lead (get_or c.counts 0 0)
    f = fields-facts c.next c.filled c.lead (get_or c.counts 0 0) (and_l F (sound_ring c) FR)

pub sound-passes : (c : ChannelFloor) → Sound ring_len bins c → sound_channel c ≡ true
unfolding sound_channel sound_ring sound_counts
sound-passes c s =
    rw (
      fields-true c.next c.filled c.lead (get_or c.counts 0 0)
          (record { next_below = s.next_below; filled_within = s.filled_within; at_start = s.at_start; lead_within = s.lead_within }),
      all_true (λ i. ltb (get_or c.ring i 0) bins) ring_len (λ i l. lt-ltb (get_or c.ring i 0) bins (s.bins_below i l)),
      all_true (λ x. eqb (get_or c.counts x 0) (occ x (entries c))) bins (λ x l. eq-eqb (get_or c.counts x 0) (occ x (entries c)) (s.recount x l)),
    )
