-- The bank's half of demand 3: two banks of the same n and phase, whatever they heard, have equal floors after the same settling_hops updates or more
-- whose first slow hop is loud in every block. Uses no law of floats. Assumes nothing.
use mathlib.Core.Path.{◌≡◌, refl, sym, ap, ap₂, ◌∙◌}
use mathlib.Core.List.{List, [], ◌∷◌}
use mathlib.Core.Bool.{true}
use Prim.Native.Nat.{ℕ, zero, suc, ◌+◌, ◌-◌, ◌*◌, ◌/◌, ◌%◌, ◌≤◌, ◌<◌}
use native.Mathlib.Omega.{arith}
use lib.ListN.{length, get_or}
use lib.Dec.{eqb}
use borrow.Author.Tests.{eqb-true, eqb-false, ne_eqb}
use lib.Ieee.{Float, le, add, binary64}
use Rattle.laws.specs.Lists.{one}
use Rattle.laws.proofs.Tests.{by-test, all-at}
use Rattle.laws.proofs.Tabs.{get_d-tab, tab-same}
use Rattle.model.specs.Numbers.{f0, f3, fmin, fmax}
use Rattle.model.specs.Layout.{hist_min, bins, ring_len, block_channels, decimation_hops, settling_hops}
use Rattle.model.specs.Ring.{ChannelFloor, bin_of, entries, without, quartile_of, quartile, raw_floor, usable_floor, since}
use Rattle.model.specs.Bank.{FloorBank, Hop, blocks, block, median, fresh_channel, channel, takes_seed, seeds_after, channel_after, chans_after, raw_floors, usable_floors, block_floors, effective_floor, rise_floor, rise_floors, fast_step, slow_step, step_at, bank_step}
use Rattle.model.specs.Readings.{effective_at}
use Rattle.model.proofs.Queue.{newest}
use Rattle.model.proofs.Rings.{W, Fading, fading-start, fading-in, near-in, near-start, lead-gone, filled-up, entries-equal, sound-good, good-sound}
use Rattle.model.proofs.Bins.{bin-below}
use Rattle.model.proofs.ChannelRank.{under_top}
use Rattle.model.specs.GoodBank.{Good}
use Rattle.model.specs.Demand3.{loud, first_slow_loud}
use Rattle.model.proofs.Quartiles.{quartile-same}

-- ---- one bank, j slow hops after a start

pub record FadingBank (j : ℕ) (b : FloorBank) : Type 0 where
  pub fading : (k : ℕ) → k < b.n → Fading ring_len bins j (channel b k)
  pub seeded : 0 < j → (i : ℕ) → i < blocks b.n → 0 < get_or b.seeds i 0

seed-loud : (s : ℕ) (med : Float) → le hist_min med ≡ true → 0 < s + one (takes_seed s med)
seed-loud zero med e = rw e (omega arith)
seed-loud (suc s) med e = omega arith

loud-at : (n : ℕ) (db : List Float) → loud n db ≡ true → (i : ℕ) → i < blocks n → le hist_min (median (block i db)) ≡ true
unfolding loud
loud-at n db e i h = all-at (λ i. le hist_min (median (block i db))) (blocks n) i e h

-- every block has a seed push, then and later
seeds-after : (j : ℕ) (b : FloorBank) (db : List Float) → FadingBank j b → (j ≡ 0 → loud b.n db ≡ true) → (i : ℕ) → i < blocks b.n
    → 0 < get_or (seeds_after b db) i 0
unfolding seeds_after
seeds-after j b db f l i h =
    rw (get_d-tab (blocks b.n) (λ i. get_or b.seeds i 0 + one (takes_seed (get_or b.seeds i 0) (median (block i db)))) i 0 h) (go j f.seeded l)
  where
    go : (j : ℕ) → (0 < j → (i : ℕ) → i < blocks b.n → 0 < get_or b.seeds i 0) → (j ≡ 0 → loud b.n db ≡ true)
        → 0 < get_or b.seeds i 0 + one (takes_seed (get_or b.seeds i 0) (median (block i db)))
    go zero s l = seed-loud (get_or b.seeds i 0) (median (block i db)) (loud-at b.n db (l refl) i h)
    go (suc j) s l = omega (arith, s (omega arith) i h)

-- the channel after a slow hop
abbrev later : FloorBank → Hop → ℕ → ChannelFloor
later b h k = channel_after b.chans (seeds_after b h.db) h.db k

chan-after : (b : FloorBank) (h : Hop) (k : ℕ) → k < b.n → channel (slow_step b h) k ≡ later b h k
unfolding slow_step chans_after
chan-after b h k l = get_d-tab b.n (later b h) k fresh_channel l

fading-later : (j : ℕ) (b : FloorBank) (h : Hop) → FadingBank j b → (j ≡ 0 → loud b.n h.db ≡ true) → (k : ℕ) → k < b.n
    → Fading ring_len bins (suc j) (later b h k)
fading-later j b h f l k m =
    let p : 0 < get_or (seeds_after b h.db) (k / block_channels) 0 = seeds-after j b h.db f l (k / block_channels) (omega arith) in
    rw (ne_eqb 0 (get_or (seeds_after b h.db) (k / block_channels) 0) (λ e. omega arith))
    (fading-in ring_len bins j (channel b k) (bin_of (get_or h.db k f0)) (f.fading k m) (bin-below (get_or h.db k f0)))

fading-slow : (j : ℕ) (b : FloorBank) (h : Hop) → FadingBank j b → (j ≡ 0 → loud b.n h.db ≡ true) → FadingBank (suc j) (slow_step b h)
fading-slow j b h f l =
    record {
      fading = λ k m. (let m' : k < b.n = (unfold slow_step in m) in rw (chan-after b h k m') (fading-later j b h f l k m'));
      seeded = λ z. (unfold slow_step in seeds-after j b h.db f l);
    }

fading-fast : (j : ℕ) (b : FloorBank) (h : Hop) → FadingBank j b → FadingBank j (fast_step b h)
unfolding fast_step
fading-fast j b h f = record { fading = f.fading; seeded = f.seeded }

-- ---- two banks

pub record SameStored (b d : FloorBank) : Type 0 where
  pub raw : b.raw ≡ d.raw
  pub usable : b.usable ≡ d.usable
  pub rise : b.rise ≡ d.rise
  pub block_floor : b.block_floor ≡ d.block_floor

pub record NearBank (j : ℕ) (b d : FloorBank) : Type 0 where
  pub same_n : b.n ≡ d.n
  pub same_phase : b.phase ≡ d.phase
  pub near : (k : ℕ) → k < b.n → newest j (W (channel b k)) ≡ newest j (W (channel d k))
  pub floors : ring_len ≤ j → SameStored b d

near-fast : (j : ℕ) (b d : FloorBank) (h : Hop) → NearBank j b d → NearBank j (fast_step b h) (fast_step d h)
unfolding fast_step
near-fast j b d h e =
    record {
      same_n = e.same_n;
      same_phase = ap (λ (p : ℕ). (p + 1) % decimation_hops) e.same_phase;
      near = e.near;
      floors = λ l. record { raw = (e.floors l).raw; usable = (e.floors l).usable; rise = (e.floors l).rise; block_floor = (e.floors l).block_floor };
    }

near-later : (j : ℕ) (b d : FloorBank) (h : Hop) → FadingBank j b → FadingBank j d → NearBank j b d → (k : ℕ) → k < b.n
    → newest (suc j) (W (later b h k)) ≡ newest (suc j) (W (later d h k))
near-later j b d h fb fd e k l =
    near-in ring_len bins j (eqb 0 (get_or (seeds_after b h.db) (k / block_channels) 0)) (eqb 0 (get_or (seeds_after d h.db) (k / block_channels) 0)) (channel b k) (channel d k)
    (bin_of (get_or h.db k f0)) (fb.fading k l).good (fd.fading k (omega (arith, e.same_n))).good (bin-below (get_or h.db k f0)) (e.near k l)

-- the seed is no longer looked at
rise-settled : (u f : Float) (p : ℕ) (s : Float) → rise_floor u f ring_len p s ≡ fmax (fmin u (add binary64 f f3)) f
unfolding rise_floor effective_floor
rise-settled u f p s = refl

effective-settled : (u f : Float) (p : ℕ) (s : Float) → effective_floor u f ring_len p s ≡ fmin u (add binary64 f f3)
unfolding effective_floor
effective-settled u f p s = refl

-- ---- a channel, once ring_len slow hops have passed

module _ (j : ℕ) (far : ring_len ≤ j) where
  since-settled : (c : ChannelFloor) → Fading ring_len bins j c → since c ≡ ring_len
  since-settled c f = omega (arith, lead-gone ring_len bins j far c f, filled-up ring_len bins j far c f)

  -- usable is raw
  usable-settled : (c : ChannelFloor) → Fading ring_len bins j c → usable_floor c ≡ raw_floor c
  unfolding usable_floor raw_floor
  usable-settled c f = rw (lead-gone ring_len bins j far c f, filled-up ring_len bins j far c f)

  raw_same : (c d : ChannelFloor) → Fading ring_len bins j c → Fading ring_len bins j d → newest j (W c) ≡ newest j (W d) → raw_floor c ≡ raw_floor d
  unfolding raw_floor quartile without
  raw_same c d f g e =
      quartile-same (entries c) (entries d) (entries-equal ring_len bins j far c d f g e) (c.filled - 0) bins
      (omega (arith, under_top c (good-sound ring_len bins (omega arith) c f.good)))
      ∙ ap (λ (r : ℕ). quartile_of (r - 0) (entries d)) (filled-up ring_len bins j far c f ∙ sym (filled-up ring_len bins j far d g))

-- the floors that a slow hop stores
module _ (j : ℕ) (far : ring_len ≤ j) (b d : FloorBank) (h : Hop) (same_n : b.n ≡ d.n) (fb : (k : ℕ) → k < b.n → Fading ring_len bins j (later b h k))
    (fd : (k : ℕ) → k < b.n → Fading ring_len bins j (later d h k))
    (near : (k : ℕ) → k < b.n → newest j (W (later b h k)) ≡ newest j (W (later d h k)))
  where
    -- the channels that a slow hop leaves
    abbrev chans : FloorBank → List ChannelFloor
    chans x = chans_after x (seeds_after x h.db) h.db

    at : (x : FloorBank) (k : ℕ) → k < x.n → get_or (chans x) k fresh_channel ≡ later x h k
    unfolding chans_after
    at x k l = get_d-tab x.n (later x h) k fresh_channel l

    raws : raw_floors b.n (chans b) ≡ raw_floors d.n (chans d)
    unfolding raw_floors
    raws =
        tab-same b.n d.n _ _ same_n
        (λ k l. rw (at b k l, at d k (omega arith)) (raw_same j far (later b h k) (later d h k) (fb k l) (fd k l) (near k l)))

    usables : usable_floors b.n (chans b) ≡ usable_floors d.n (chans d)
    unfolding usable_floors
    usables =
        tab-same b.n d.n _ _ same_n
        (λ k l.
        rw (at b k l, at d k (omega arith), usable-settled j far (later b h k) (fb k l), usable-settled j far (later d h k) (fd k l))
        (raw_same j far (later b h k) (later d h k) (fb k l) (fd k l) (near k l)))

    blocks' : block_floors b.n (usable_floors b.n (chans b)) ≡ block_floors d.n (usable_floors d.n (chans d))
    blocks' = ap₂ block_floors same_n usables

    rises : (u v : List Float) → u ≡ v → (x y : List Float) → x ≡ y → (p q : List ℕ) (s t : List Float)
        → rise_floors b.n (chans b) u x p s ≡ rise_floors d.n (chans d) v y q t
    unfolding rise_floors
    rises u v e x y f p q s t =
        tab-same b.n d.n _ _ same_n
        (λ k l.
        settled k (fb k l) (at b k l) u x p s
        ∙ ap₂ (λ (a c : List Float). fmax (fmin (get_or a k f0) (add binary64 (get_or c (k / block_channels) f0) f3)) (get_or c (k / block_channels) f0)) e f
        ∙ sym (settled k (fd k l) (at d k (omega arith)) v y q t))
      where
        settled : (k : ℕ) {c e : ChannelFloor} → Fading ring_len bins j c → e ≡ c → (u x : List Float) (p : List ℕ) (s : List Float)
            → rise_floor (get_or u k f0) (get_or x (k / block_channels) f0) (since e) (get_or p (k / block_channels) 0) (get_or s (k / block_channels) f0)
            ≡ fmax (fmin (get_or u k f0) (add binary64 (get_or x (k / block_channels) f0) f3)) (get_or x (k / block_channels) f0)
        settled k {c} {e} f q u x p s = rw (q, since-settled j far c f) (rise-settled (get_or u k f0) (get_or x (k / block_channels) f0) (get_or p (k / block_channels) 0) (get_or s (k / block_channels) f0))

    stored-slow : SameStored (slow_step b h) (slow_step d h)
    unfolding slow_step
    stored-slow = record { raw = raws; usable = usables; rise = rises _ _ usables _ _ blocks' _ _ _ _; block_floor = blocks' }

near-slow : (j : ℕ) (b d : FloorBank) (h : Hop) → FadingBank j b → FadingBank j d → (j ≡ 0 → loud b.n h.db ≡ true) → NearBank j b d
    → NearBank (suc j) (slow_step b h) (slow_step d h)
near-slow j b d h fb fd l e =
    record {
      same_n = (unfold slow_step in e.same_n);
      same_phase = (unfold slow_step in ap (λ (p : ℕ). (p + 1) % decimation_hops) e.same_phase);
      near =
          λ k m.
          (let m' : k < b.n = (unfold slow_step in m) in
          ap (λ (c : ChannelFloor). newest (suc j) (W c)) (chan-after b h k m')
          ∙ near-later j b d h fb fd e k m'
          ∙ sym (ap (λ (c : ChannelFloor). newest (suc j) (W c)) (chan-after d h k (omega (arith, e.same_n)))));
      floors =
          λ far.
          stored-slow (suc j) far b d h e.same_n (fading-later j b h fb l)
          (λ k m. fading-later j d h fd (λ z. rw (← e.same_n) (l z)) k (omega (arith, e.same_n)))
          (near-later j b d h fb fd e);
    }

-- ---- a run of updates

abbrev pub run_bank : FloorBank → List Hop → FloorBank
run_bank b [] = b
run_bank b (h ∷ hs) = run_bank (bank_step b h) hs

step-slow : (b : FloorBank) (h : Hop) → b.phase ≡ 0 → bank_step b h ≡ slow_step b h
unfolding bank_step
step-slow b h e = ap (λ (p : ℕ). step_at p b h) e

step-fast : (b : FloorBank) (h : Hop) → 0 < b.phase → bank_step b h ≡ fast_step b h
unfolding bank_step
step-fast b h l = go b.phase l
  where
    go : (p : ℕ) → 0 < p → step_at p b h ≡ fast_step b h
    go zero z = absurd (omega arith)
    go (suc p) z = refl

pub phase-step : (b : FloorBank) (h : Hop) → (bank_step b h).phase ≡ (b.phase + 1) % decimation_hops
unfolding bank_step slow_step fast_step
phase-step b h = go b.phase
  where
    go : (p : ℕ) → (step_at p b h).phase ≡ (b.phase + 1) % decimation_hops
    go zero = refl
    go (suc p) = refl

pub n-step : (b : FloorBank) (h : Hop) → (bank_step b h).n ≡ b.n
unfolding bank_step slow_step fast_step
n-step b h = go b.phase
  where
    go : (p : ℕ) → (step_at p b h).n ≡ b.n
    go zero = refl
    go (suc p) = refl

pub n-run : (hs : List Hop) (b : FloorBank) → (run_bank b hs).n ≡ b.n
n-run [] b = refl
n-run (h ∷ hs) b = n-run hs (bank_step b h) ∙ n-step b h

pub phase-run : (hs : List Hop) (b : FloorBank) (a : ℕ) → b.phase ≡ a % decimation_hops → (run_bank b hs).phase ≡ (a + length hs) % decimation_hops
phase-run [] b a e = omega arith
phase-run (h ∷ hs) b a e = phase-run hs (bank_step b h) (suc a) (omega (arith, phase-step b h)) ∙ omega arith

-- two banks that have heard the same for j slow hops
pub record Alike (j : ℕ) (b d : FloorBank) : Type 0 where
  pub one : FadingBank j b
  pub other : FadingBank j d
  pub both : NearBank j b d

alike-slow : (j : ℕ) (b d : FloorBank) (h : Hop) → Alike j b d → (j ≡ 0 → loud b.n h.db ≡ true) → b.phase ≡ 0
    → Alike (suc j) (bank_step b h) (bank_step d h)
alike-slow j b d h s l e =
    rw (step-slow b h e, step-slow d h (sym s.both.same_phase ∙ e))
    (record {
      one = fading-slow j b h s.one l;
      other = fading-slow j d h s.other (λ z. rw (← s.both.same_n) (l z));
      both = near-slow j b d h s.one s.other l s.both;
    })

alike-fast : (j : ℕ) (b d : FloorBank) (h : Hop) → Alike j b d → 0 < b.phase → Alike j (bank_step b h) (bank_step d h)
alike-fast j b d h s l =
    rw (step-fast b h l, step-fast d h (omega (arith, s.both.same_phase)))
    (record { one = fading-fast j b h s.one; other = fading-fast j d h s.other; both = near-fast j b d h s.both })

-- a run of hops, a accepted before it, that has enough hops to come to ring_len slow ones
pub settles : (hs : List Hop) (a j : ℕ) (b d : FloorBank) → Alike j b d → b.phase ≡ a % decimation_hops → (j ≡ 0 → first_slow_loud b.n a hs ≡ true)
    → settling_hops ≤ decimation_hops * j + length hs + (a + (decimation_hops - 1)) % decimation_hops → (i : ℕ) × (ring_len ≤ i) × Alike i (run_bank b hs) (run_bank d hs)
settles [] a j b d s e f l = (j, omega arith, s)
settles (h ∷ hs) a j b d s e f l =
    by-test (eqb (a % decimation_hops) 0)
    (λ t.
    settles hs (suc a) (suc j) (bank_step b h) (bank_step d h) (alike-slow j b d h s (λ z. rw t at (f z)) (e ∙ eqb-true (a % decimation_hops) 0 t)) phase'
    (λ z. absurd (omega arith)) (omega (arith, eqb-true (a % decimation_hops) 0 t)))
    (λ t.
    let z : a % decimation_hops ≡ 0 → ⊥ = eqb-false (a % decimation_hops) 0 t in
    settles hs (suc a) j (bank_step b h) (bank_step d h) (alike-fast j b d h s (omega arith)) phase' (λ y. rw (n-step b h) (rw t at (f y))) (omega arith))
  where
    phase' : (bank_step b h).phase ≡ suc a % decimation_hops
    phase' = omega (arith, phase-step b h)

-- ---- what is settled: the floors, stored and worked out

pub settled-effective : (i : ℕ) → ring_len ≤ i → (b d : FloorBank) → Alike i b d → (k : ℕ) → k < b.n → effective_at b k ≡ effective_at d k
unfolding effective_at
settled-effective i l b d s k m =
    rw (since-settled i l (channel b k) (s.one.fading k m), since-settled i l (channel d k) (s.other.fading k (omega (arith, s.both.same_n))))
    (effective-settled (get_or b.usable k f0) (get_or b.block_floor (k / block_channels) f0) _ _
    ∙ ap₂ (λ (u f : List Float). fmin (get_or u k f0) (add binary64 (get_or f (k / block_channels) f0) f3)) (s.both.floors l).usable (s.both.floors l).block_floor
    ∙ sym (effective-settled (get_or d.usable k f0) (get_or d.block_floor (k / block_channels) f0) _ _))

-- ---- two sound banks, whatever they heard: the start of what follows

fading-good : (b : FloorBank) → Good b → FadingBank 0 b
fading-good b g =
    record {
      fading = λ k l. fading-start ring_len bins (channel b k) (sound-good ring_len bins (omega arith) (channel b k) (g.sound k l));
      seeded = λ z. absurd (omega arith);
    }

pub alike-start : (b d : FloorBank) → Good b → Good d → b.n ≡ d.n → b.phase ≡ d.phase → Alike 0 b d
alike-start b d gb gd n p =
    record {
      one = fading-good b gb;
      other = fading-good d gd;
      both = record { same_n = n; same_phase = p; near = λ k l. near-start ring_len bins (channel b k) (channel d k); floors = λ z. absurd (omega arith) };
    }
