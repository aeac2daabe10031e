-- A sound bank: it comes back from its stores, they pass the test of the refusals, and what passes that test is sound. Assumes nothing.
use mathlib.Core.Path.{◌≡◌, refl, sym, ap, ap₂, subst, ◌∙◌}
use mathlib.Core.List.{List, ◌∷◌, ◌++◌, map}
use mathlib.Core.Bool.{Bool, true, not, ◌&&◌, ◌||◌}
use Prim.Native.Nat.{ℕ, ◌+◌, ◌*◌, ◌<◌, ◌≤◌}
use native.Mathlib.Omega.{arith}
use lib.ListN.{length, get_or, length-append}
use lib.Dec.{leb, ltb}
use lib.Ieee.{Float}
use borrow.Author.Tests.{ltb-true, leb-true, lt-ltb, le-ltb, le-leb, eq-eqb, not-false}
use Rattle.laws.specs.Lists.{tab, joined}
use Rattle.laws.specs.Tests.{all_below, within, differ}
use Rattle.laws.proofs.Lists.{length_part, row}
use Rattle.laws.proofs.Tabs.{length-tab, get_d-tab, tab-ext, tab-get_d, map-tab, length-joined}
use Rattle.laws.proofs.Tests.{and_l, and_r, or_l, or_r, all-at, all_true, passed, same_of, within_of}
use Rattle.model.specs.Layout.{bins, ring_len, at_counts, channel_len, decimation_hops}
use Rattle.model.specs.Ring.{ChannelFloor}
use Rattle.model.specs.Bank.{FloorBank, blocks, channel, fresh_channel}
use Rattle.model.specs.Stores.{chan_u, chan_of, bank_u16s, bank_floats, bank_of, base, chan_part, bank_len, bank_f_len, sound_channel, sound_bank}
use Rattle.model.specs.Refusals.{bank_refusal}
use Rattle.model.specs.Sound.{Sound}
use Rattle.model.proofs.Channels.{chan-back, length-chan_u}
use Rattle.model.proofs.SoundRings.{sound-facts, sound-passes}
use Rattle.model.specs.GoodBank.{Good, Ready}
use Rattle.model.proofs.BankStores.{bank-forth-u, bank-forth-f, Lengths, get_raw, get-usable, get-smooth, get-rise, get-block, get-sums, get-seeds, get-chan}

-- ---- a sound bank comes back from its stores

-- each channel's entries, as they are joined
written : (b : FloorBank) → Good b → joined (map chan_u b.chans) ≡ joined (tab b.n (λ k. chan_u (channel b k)))
written b g =
    ap (λ (cs : List ChannelFloor). joined (map chan_u cs)) (sym (tab-get_d b.chans fresh_channel b.n g.chans_long))
    ∙ ap joined (map-tab chan_u b.n (channel b))

channel-long : (b : FloorBank) → Good b → (k : ℕ) → k < b.n → length (chan_u (channel b k)) ≡ channel_len
channel-long b g k h = length-chan_u (channel b k) (g.sound k h).ring_is_long (g.sound k h).counts_length

pub lengths : (b : FloorBank) → Good b → Lengths b.n (blocks b.n) b.raw b.usable b.smooth b.rise b.block_floor b.seed_sum
lengths b g =
    record {
      raw_long = g.raw_long;
      usable_long = g.usable_long;
      smooth_long = g.smooth_long;
      rise_long = g.rise_long;
      block_floor_long = g.block_floor_long;
      sums_long = g.seed_sum_long;
    }

part-back : (b : FloorBank) → Good b → (k : ℕ) → k < b.n → chan_part b.n (bank_u16s b) k ≡ chan_u (channel b k)
part-back b g k h =
    ap (λ (r : List ℕ). chan_part b.n (b.n ∷ b.phase ∷ b.started ∷ (b.seeds ++ r)) k) (written b g)
    ∙ get-chan b.n b.phase b.started (blocks b.n) b.n k b.seeds (λ j. chan_u (channel b j)) g.seeds_long (channel-long b g) h

channels-back : (b : FloorBank) → Good b → tab b.n (λ k. chan_of (chan_part b.n (bank_u16s b) k)) ≡ b.chans
channels-back b g =
    tab-ext b.n (λ k. chan_of (chan_part b.n (bank_u16s b) k)) (channel b)
    (λ k h. ap chan_of (part-back b g k h) ∙ chan-back (channel b k) (g.sound k h).ring_is_long (g.sound k h).counts_length)
    ∙ tab-get_d b.chans fresh_channel b.n g.chans_long

pub bank-back : (b : FloorBank) → Good b → bank_of (bank_u16s b) (bank_floats b) ≡ b
unfolding bank_of
bank-back b g =
    λ i.
    record {
      n = b.n;
      phase = b.phase;
      started = b.started;
      seeds = get-seeds b.n b.phase b.started (blocks b.n) _ b.seeds (joined (map chan_u b.chans)) g.seeds_long refl i;
      chans = channels-back b g i;
      raw = get_raw (lengths b g) i;
      usable = get-usable (lengths b g) i;
      smooth = get-smooth (lengths b g) i;
      rise = get-rise (lengths b g) i;
      block_floor = get-block (lengths b g) i;
      seed_sum = get-sums (lengths b g) i;
    }

pub length-bank_u : (b : FloorBank) → Good b → length (bank_u16s b) ≡ bank_len b.n
length-bank_u b g =
    let e : length (joined (map chan_u b.chans)) ≡ channel_len * b.n = ap length (written b g) ∙ length-joined channel_len b.n (λ k. chan_u (channel b k)) (channel-long b g) in
    omega (arith, e, length-append b.seeds (joined (map chan_u b.chans)), g.seeds_long)

pub length-bank_f : (b : FloorBank) → Good b → length (bank_floats b) ≡ bank_f_len b.n
length-bank_f b g =
    simp length-append (omega (arith, g.raw_long, g.usable_long, g.smooth_long, g.rise_long, g.block_floor_long, g.seed_sum_long))

pub good-ready : (b : FloorBank) → Good b → Ready (bank_u16s b) (bank_floats b)
good-ready b g = record { long = length-bank_u b g; long_f = length-bank_f b g; good = subst Good (sym (bank-back b g)) g }

-- ---- the test of the stores

pub sound-bank : (b : FloorBank) → Good b → sound_bank b ≡ true
unfolding sound_bank
sound-bank b g =
    rw (
      lt-ltb b.phase decimation_hops g.phase,
      le-leb b.started 1 g.started,
      all_true (λ i. leb (get_or b.seeds i 0) 25) (blocks b.n) (λ i h. le-leb (get_or b.seeds i 0) 25 (g.seeds_small i h)),
      all_true (λ k. sound_channel (channel b k)) b.n (λ k h. sound-passes (channel b k) (g.sound k h)),
    )

-- a sound bank's stores are not refused
pub passes : (b : FloorBank) → Good b → bank_refusal (bank_u16s b) (bank_floats b) ≡ 0
unfolding bank_refusal
passes b g =
    rw (
      le-ltb (length (bank_u16s b)) 3 (omega (arith, length-bank_u b g)),
      le-leb 1 b.n g.low,
      le-leb b.n 512 g.high,
      eq-eqb (length (bank_u16s b)) (bank_len b.n) (length-bank_u b g),
      eq-eqb (length (bank_floats b)) (bank_f_len b.n) (length-bank_f b g),
      bank-back b g,
      sound-bank b g,
    )

pub channel-at : (u : List ℕ) (f : List Float) (k : ℕ) → k < get_or u 0 0 → channel (bank_of u f) k ≡ chan_of (chan_part (get_or u 0 0) u k)
unfolding bank_of
channel-at u f k h = get_d-tab (get_or u 0 0) (λ k. chan_of (chan_part (get_or u 0 0) u k)) k fresh_channel h

record Passed (b : FloorBank) : Type 0 where
  phase : b.phase < decimation_hops
  started : b.started ≤ 1
  seeds : (i : ℕ) → i < blocks b.n → get_or b.seeds i 0 ≤ 25
  chans : (k : ℕ) → k < b.n → sound_channel (channel b k) ≡ true

all-four : (p q r s : Bool) → (p && q && r && s) ≡ true → (p ≡ true) × (q ≡ true) × (r ≡ true) × (s ≡ true)
all-four p q r s t =
    let t₁ = and_l (p && q && r) s t in
    let t₂ = and_l (p && q) r t₁ in
    (and_l p q t₂, and_r p q t₂, and_r (p && q) r t₁, and_r (p && q && r) s t)

passed-bank : (b : FloorBank) → sound_bank b ≡ true → Passed b
unfolding sound_bank
passed-bank b t =
    let seed : ℕ → Bool = λ i. leb (get_or b.seeds i 0) 25 in
    let chan : ℕ → Bool = λ k. sound_channel (channel b k) in
    let ts = all-four (ltb b.phase decimation_hops) (leb b.started 1) (all_below (blocks b.n) seed) (all_below b.n chan) t in
    record {
      phase = ltb-true b.phase decimation_hops ts.0;
      started = leb-true b.started 1 ts.1;
      seeds = λ i h. leb-true (get_or b.seeds i 0) 25 (all-at seed (blocks b.n) i ts.2 h);
      chans = λ k h. all-at chan b.n k ts.3 h;
    }

-- the bank that stores of the right lengths hold, if it passes the test
good_of : (u : List ℕ) (f : List Float) → 1 ≤ get_or u 0 0 → get_or u 0 0 ≤ 512 → length u ≡ bank_len (get_or u 0 0) → length f ≡ bank_f_len (get_or u 0 0)
    → Passed (bank_of u f) → Good (bank_of u f)
unfolding bank_of
good_of u f low high long long_f t =
    record {
      low = low;
      high = high;
      phase = t.phase;
      started = t.started;
      seeds_long = length_part 3 B u (omega arith);
      chans_long = length-tab N (λ k. chan_of (chan_part N u k));
      raw_long = length_part 0 N f (omega arith);
      usable_long = length_part N N f (omega arith);
      smooth_long = length_part (2 * N) N f (omega arith);
      rise_long = length_part (3 * N) N f (omega arith);
      block_floor_long = length_part (4 * N) B f (omega arith);
      seed_sum_long = length_part (4 * N + B) B f (omega arith);
      seeds_small = t.seeds;
      sound = λ k h. subst (Sound ring_len bins) (sym (channel-at u f k h)) (one k h);
    }
  where
    N : ℕ
    N = get_or u 0 0

    B : ℕ
    B = blocks (get_or u 0 0)

    one : (k : ℕ) → k < N → Sound ring_len bins (chan_of (chan_part N u k))
    one k h =
        let w : length (chan_part N u k) ≡ channel_len = length_part (base N + channel_len * k) channel_len u (omega (arith, row channel_len k N h)) in
        sound-facts (chan_of (chan_part N u k)) (length_part 0 ring_len (chan_part N u k) (omega (arith, w))) (length_part at_counts bins (chan_part N u k) (omega (arith, w)))
        (sym (ap sound_channel (channel-at u f k h)) ∙ t.chans k h)

-- stores that are not refused hold a sound bank
pub ready : (u : List ℕ) (f : List Float) → bank_refusal u f ≡ 0 → Ready u f
unfolding bank_refusal
ready u f e =
    let p = passed (ltb (length u) 3) 2 _ (omega arith) e in
    let q = passed (not (within 1 512 (get_or u 0 0))) 9 _ (omega arith) p.1 in
    let r = passed (differ (length u) (bank_len (get_or u 0 0)) || differ (length f) (bank_f_len (get_or u 0 0))) 2 _ (omega arith) q.1 in
    let s = passed (not (sound_bank (bank_of u f))) 9 0 (omega arith) r.1 in
    let size = within_of 1 512 (get_or u 0 0) (not-false (within 1 512 (get_or u 0 0)) q.0) in
    let long = same_of (length u) (bank_len (get_or u 0 0)) (or_l _ (differ (length f) (bank_f_len (get_or u 0 0))) r.0) in
    let long_f = same_of (length f) (bank_f_len (get_or u 0 0)) (or_r (differ (length u) (bank_len (get_or u 0 0))) _ r.0) in
    record { long = long; long_f = long_f; good = good_of u f size.0 size.1 long long_f (passed-bank (bank_of u f) (not-false (sound_bank (bank_of u f)) s.0)) }

-- stores that hold a sound bank are not refused
pub not-refused : (u : List ℕ) (f : List Float) → Ready u f → bank_refusal u f ≡ 0
not-refused u f r =
    ap₂ bank_refusal (sym (bank-forth-u u f r.long)) (sym (bank-forth-f u f r.long_f)) ∙ passes (bank_of u f) r.good
