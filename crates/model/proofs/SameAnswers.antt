-- R-7: what was carried from floor.rs changes no answer on a sound channel or bank. Assumes nothing.
use mathlib.Core.Path.{◌≡◌, refl, sym, ap, ◌∙◌}
use mathlib.Core.Bool.{Bool, true, false, cond}
use mathlib.Core.List.{List, [], ◌∷◌}
use mathlib.Core.Logic.{inr}
use Prim.Native.Nat.{ℕ, zero, suc, ◌+◌, ◌-◌, ◌/◌, ◌≤◌, ◌<◌, min}
use native.Mathlib.Nat.{add-zero}
use native.Mathlib.Omega.{arith}
use lib.Dec.{eqb, leb}
use lib.ListN.{length, get_or, set, length-set}
use lib.Seq.{get_or-set_same}
use lib.Ieee.{Float}
use borrow.Author.Tests.{eqb-true, leb-true, leb-false, le-leb, lt-leb}
use Rattle.laws.specs.Lists.{tab, occ}
use Rattle.laws.proofs.Tests.{by-test}
use Rattle.laws.proofs.Tabs.{tab-ext}
use Rattle.model.specs.Numbers.{f0}
use Rattle.model.specs.Layout.{bins, ring_len, block_channels}
use Rattle.model.specs.Ring.{ChannelFloor, bin_of, centre_of, entries, uncounted, oldest, push_as, push, push_in, smallest, quartile, raw_floor, usable_floor, skip_of}
use Rattle.model.specs.Bank.{FloorBank, Hop, fresh_channel, seeds_after, sums_after, channel_after, chans_after, raw_floors, usable_floors, block_floors, rise_floors, slow_step, step_at, bank_step}
use Rattle.model.specs.Sound.{Sound}
use Rattle.model.specs.GoodBank.{Good}
use Rattle.model.specs.Carried.{carried_top, carried_counts, carried_push, carried_scan, carried_quartile_of, carried_quartile, carried_raw, carried_usable, carried_channel, carried_slow, carried_at, carried_step}
use Rattle.model.specs.SameAnswers.{SameAnswers}
use Rattle.model.proofs.Bins.{bin-below}
use Rattle.model.proofs.Rank.{under, under-zero, under_more, smallest-is}
use Rattle.model.proofs.ChannelRank.{under_top, nothing_left, some_left}
use Rattle.model.proofs.DeadBranches.{some-bin, skip-zeros, counts-within}
use Rattle.model.proofs.FreshBanks.{good-slow}
use Rattle.model.proofs.GoodBanks.{ready}

-- ---- a push

down : (x : ℕ) → cond (eqb x 0) 0 (x - 1) ≡ x - 1
down x = by-test (eqb x 0) (λ t. rw t (omega (arith, eqb-true x 0 t))) (λ t. rw t)

module _ (c : ChannelFloor) (b : ℕ) (s : Sound ring_len bins c) (h : b < bins) where
  -- a count that is within the ring's length once it has gone up does not saturate
  up : (cs : List ℕ) → length cs ≡ bins → get_or (set cs b (get_or cs b 0 + 1)) b 0 ≤ ring_len → set cs b (min (get_or cs b 0 + 1) carried_top) ≡ set cs b (get_or cs b 0 + 1)
  up cs l w = ap (set cs b) (let e : min (get_or cs b 0 + 1) carried_top ≡ get_or cs b 0 + 1 = omega (arith, get_or-set_same cs b (get_or cs b 0 + 1) 0 (omega arith)) in e)

  same-counts : (t : Bool) → get_or (push_as t ring_len c b).counts b 0 ≤ ring_len → carried_counts t c b ≡ (push_as t ring_len c b).counts
  unfolding push_as
  same-counts true w =
      let o = oldest c in
      let low : length (uncounted c.counts o) ≡ bins = length-set c.counts o (get_or c.counts o 0 - 1) ∙ s.counts_length in
      ap (λ (v : ℕ). set (set c.counts o v) b (min (get_or (set c.counts o v) b 0 + 1) carried_top)) (down (get_or c.counts o 0))
      ∙ up (uncounted c.counts o) low w
  same-counts false w = up c.counts s.counts_length w

  same-push : (q : Bool) → carried_push ring_len q c b ≡ push_in ring_len q c b
  unfolding carried_push push_in push
  same-push q =
      let e : carried_counts (eqb c.filled ring_len) c b ≡ (push_in ring_len q c b).counts = same-counts (eqb c.filled ring_len) ((counts-within ring_len bins c s).after q b h b h) in
      λ i.
      record {
        ring = (push_in ring_len q c b).ring;
        counts = e i;
        next = (push_in ring_len q c b).next;
        filled = (push_in ring_len q c b).filled;
        lead = (push_in ring_len q c b).lead;
      }

-- ---- the floors

-- s more passed, for a rank s higher
scan-shift : (s k p b : ℕ) (cs : List ℕ) → carried_scan k p b cs ≡ carried_scan (s + k) (s + p) b cs
unfolding carried_scan
scan-shift s k p b [] = refl
scan-shift s k p b (x ∷ cs) =
    by-test (leb k (p + x))
    (λ t. rw (t, le-leb (s + k) (s + p + x) (omega (arith, leb-true k (p + x) t))))
    (λ t.
    rw (t, lt-leb (s + k) (s + p + x) (omega (arith, leb-false k (p + x) t)))
    (scan-shift s k (p + x) (b + 1) cs ∙ ap (λ (y : ℕ). carried_scan (s + k) y (b + 1) cs) (let e : s + (p + x) ≡ s + p + x = omega arith in e)))

-- s fewer in bin 0
scan-less : (s k : ℕ) (cs : List ℕ) → 0 < length cs → s ≤ get_or cs 0 0 → carried_scan k 0 0 (set cs 0 (get_or cs 0 0 - s)) ≡ carried_scan (s + k) 0 0 cs
unfolding carried_scan
scan-less s k [] h l = absurd (omega arith)
scan-less s k (x ∷ cs) h l =
    scan-shift s k 0 0 ((x - s) ∷ cs)
    ∙ ap (λ (y : ℕ). cond (leb (s + k) y) 0 (carried_scan (s + k) y (0 + 1) cs)) (let e : s + 0 + (x - s) ≡ 0 + x = omega arith in e)

-- where the counts from bin b on are those of l, and the rank is reached among them, the scan finds the entry of that rank
scan-smallest : (rank p b : ℕ) (cs l : List ℕ) → ((i : ℕ) → i < length cs → get_or cs i 0 ≡ occ (b + i) l) → p ≡ under b l → p < rank
    → rank ≤ under (b + length cs) l → carried_scan rank p b cs ≡ smallest rank l
unfolding carried_scan
scan-smallest rank p b [] l h e u v = absurd (omega (arith, ap (λ (n : ℕ). under n l) (add-zero b)))
scan-smallest rank p b (x ∷ cs) l h e u v =
    let here : x ≡ occ b l = h 0 (omega arith) ∙ ap (λ (n : ℕ). occ n l) (add-zero b) in
    by-test (leb rank (p + x))
    (λ t. rw t (sym (smallest-is b rank l (omega arith) (omega arith) (omega (arith, under_more b l, leb-true rank (p + x) t)))))
    (λ t.
    rw t
    (scan-smallest rank (p + x) (b + 1) cs l
    (λ i k. h (suc i) (omega arith) ∙ ap (λ (n : ℕ). occ n l) (let z : b + suc i ≡ b + 1 + i = omega arith in z))
    (omega (arith, under_more b l)) (omega (arith, leb-false rank (p + x) t))
    (omega (arith, ap (λ (n : ℕ). under n l) (let z : b + suc (length cs) ≡ b + 1 + length cs = omega arith in z)))))

carried_some : (r s : ℕ) (cs : List ℕ) → 0 < r → carried_quartile_of r s cs ≡ centre_of (carried_scan ((r + 3) / 4) 0 0 (set cs 0 (get_or cs 0 0 - s)))
carried_some zero s cs h = absurd (omega arith)
carried_some (suc r) s cs h = refl

module _ {R K : ℕ} (c : ChannelFloor) (k : Sound R K c) (s : ℕ) (z : s ≤ get_or c.counts 0 0) where
  same-quartile : carried_quartile s c ≡ quartile s c
  unfolding carried_quartile
  same-quartile = by-test (leb c.filled s) none some
    where
      none : leb c.filled s ≡ true → carried_quartile_of (c.filled - s) s c.counts ≡ quartile s c
      none t =
          let e : c.filled - s ≡ 0 = omega (arith, leb-true c.filled s t) in
          ap (λ (r : ℕ). carried_quartile_of r s c.counts) e ∙ nothing_left c s c.filled refl e

      some : leb c.filled s ≡ false → carried_quartile_of (c.filled - s) s c.counts ≡ quartile s c
      some t =
          let l : s < c.filled = leb-false c.filled s t in
          let q = (c.filled - s + 3) / 4 in
          carried_some (c.filled - s) s c.counts (omega arith)
          ∙ ap centre_of
          (scan-less s q c.counts (omega (arith, k.counts_length, some-bin c k)) z
          ∙ scan-smallest (s + q) 0 0 c.counts (entries c)
          (λ i h. (let e : 0 + i ≡ i = omega arith in rw e (k.recount i (omega (arith, k.counts_length)))))
          (sym (under-zero (entries c))) (omega arith)
          (let e : 0 + length c.counts ≡ K = omega (arith, k.counts_length) in rw e (omega (arith, under_top c k))))
          ∙ some_left c s c.filled k (some-bin c k) z refl (omega arith)

same-raw : {R K : ℕ} (c : ChannelFloor) → Sound R K c → carried_raw c ≡ raw_floor c
unfolding carried_raw raw_floor
same-raw c k = same-quartile c k 0 (omega arith)

same-usable : {R K : ℕ} (c : ChannelFloor) → Sound R K c → carried_usable c ≡ usable_floor c
unfolding carried_usable usable_floor
same-usable c k = same-quartile c k (skip_of c) (skip-zeros c k (skip_of c) (inr refl))

-- ---- the bank update

module _ (b : FloorBank) (h : Hop) (g : Good b) where
  carried_chans : List ChannelFloor
  carried_chans = tab b.n (carried_channel b.chans (seeds_after b h.db) h.db)

  chans' : List ChannelFloor
  chans' = chans_after b (seeds_after b h.db) h.db

  same-chans : carried_chans ≡ chans'
  unfolding carried_chans chans' chans_after
  same-chans =
      tab-ext b.n (carried_channel b.chans (seeds_after b h.db) h.db) (channel_after b.chans (seeds_after b h.db) h.db)
      (λ k l.
      same-push (get_or b.chans k fresh_channel) (bin_of (get_or h.db k f0)) (g.sound k l) (bin-below (get_or h.db k f0)) (eqb 0 (get_or (seeds_after b h.db) (k / block_channels) 0)))

  sound-after : (k : ℕ) → k < b.n → Sound ring_len bins (get_or chans' k fresh_channel)
  unfolding chans' slow_step
  sound-after k l = (good-slow b h g).sound k l

  -- a floor of each channel
  same-floors : (carried_of floor_of : ChannelFloor → Float) → ((c : ChannelFloor) → Sound ring_len bins c → carried_of c ≡ floor_of c)
      → tab b.n (λ k. carried_of (get_or carried_chans k fresh_channel)) ≡ tab b.n (λ k. floor_of (get_or chans' k fresh_channel))
  same-floors carried_of floor_of e =
      ap (λ (cs : List ChannelFloor). tab b.n (λ k. carried_of (get_or cs k fresh_channel))) same-chans
      ∙ tab-ext b.n (λ k. carried_of (get_or chans' k fresh_channel)) (λ k. floor_of (get_or chans' k fresh_channel))
      (λ k l. e (get_or chans' k fresh_channel) (sound-after k l))

  same-slow : carried_slow b h ≡ slow_step b h
  unfolding carried_slow slow_step carried_chans chans' raw_floors usable_floors
  same-slow =
      let raw' = same-floors carried_raw raw_floor same-raw in
      let usable' = same-floors carried_usable usable_floor same-usable in
      λ i.
      record {
        n = (slow_step b h).n;
        phase = (slow_step b h).phase;
        started = (slow_step b h).started;
        seeds = (slow_step b h).seeds;
        chans = same-chans i;
        raw = raw' i;
        usable = usable' i;
        smooth = (slow_step b h).smooth;
        rise = rise_floors b.n (same-chans i) (usable' i) (block_floors b.n (usable' i)) (seeds_after b h.db) (sums_after b h.db);
        block_floor = block_floors b.n (usable' i);
        seed_sum = (slow_step b h).seed_sum;
      }

  same_step : carried_step b h ≡ bank_step b h
  unfolding carried_step bank_step
  same_step = go b.phase
    where
      go : (p : ℕ) → carried_at p b h ≡ step_at p b h
      go zero = same-slow
      go (suc p) = refl

pub same_answers : SameAnswers
same_answers =
    record {
      push = λ q c b s h. same-push c b s h q;
      raw = same-raw;
      usable = same-usable;
      step = same_step;
      store = λ u f h e. same_step _ h (ready u f e).good;
    }
