-- What the loops over a ready bank's stores use and leave. Assumes nothing.
use mathlib.Core.Path.{◌≡◌, refl, sym, ap, subst, ◌∙◌}
use mathlib.Core.Bool.{Bool, true, false, cond}
use mathlib.Core.List.{List, [], ◌++◌, map}
use Prim.Native.Nat.{ℕ, zero, suc, ◌+◌, ◌-◌, ◌*◌, ◌/◌, ◌<◌, ◌≤◌}
use native.Mathlib.Omega.{arith}
use lib.Dec.{eqb}
use lib.ListN.{length, get_or, length-append, length-take}
use lib.Ieee.{Float, nan}
use Rattle.laws.specs.Lists.{part, splice, tab, joined}
use Rattle.laws.proofs.Lists.{width, row, length-splice, get_d_part, get_d_past, get_d-before, part-past, part-before}
use Rattle.laws.proofs.Tabs.{get_d-tab, tab-same, tab-ext, tab-get_d, length-joined, map-tab, parts-turn}
use Rattle.laws.proofs.Defaults.{get_d_any}
use Rattle.block.specs.Seeds.{Seedable, Seeded, pushes_at, sum_at}
use Rattle.model.specs.Numbers.{f0, power_linear, smoothed}
use Rattle.model.specs.Layout.{bins, ring_len, at_filled, at_lead, channel_len, block_channels}
use Rattle.model.specs.Ring.{bin_of, push_in, raw_floor, usable_floor, since, entries}
use Rattle.model.specs.Bank.{hop, power_after, smooth_after, seeds_after, sums_after, block, blocks, median, rise_floor, channel, channel_after, chans_after, fresh_channel, raw_floors, usable_floors, block_floors, rise_floors}
use Rattle.model.specs.Stores.{chan_u, chan_of, chan_part, base, bank_u16s, bank_floats, bank_of, bank_len, bank_f_len}
use Rattle.model.specs.Sound.{Sound}
use Rattle.model.proofs.Channels.{length-chan_u}
use Rattle.laws.proofs.Counting.{occ-le}
use Rattle.model.proofs.SoundRings.{sound-push}
use Rattle.model.proofs.Bins.{bin-below}
use Rattle.model.specs.GoodBank.{Ready}
use Rattle.model.proofs.BankStores.{Lengths, bank-forth-u, bank-forth-f, put-raw, put-usable, put-smooth, put-rise, put-block, put-sums, put-seeds, put-chans}
use Rattle.model.proofs.GoodBanks.{lengths}
use Rattle.bank_stages.specs.Steps.{Holds, smooth_step, seed_step, push_step, raw_step, usable_step, block_step, rise_step}

-- ---- what a loop knows of the stores of n channels

pub record Fits (u : List ℕ) (f : List Float) (n : ℕ) : Type 0 where
  pub n_is : n ≡ get_or u 0 0
  pub some : 1 ≤ n
  pub few : n ≤ 512
  pub long : length u ≡ bank_len n
  pub long_f : length f ≡ bank_f_len n
  pub sound : (k : ℕ) → k < n → Sound ring_len bins (chan_of (chan_part n u k))

pub n-of : (u : List ℕ) (f : List Float) → (bank_of u f).n ≡ get_or u 0 0
unfolding bank_of
n-of u f = refl

pub channel-of : (u : List ℕ) (f : List Float) (k : ℕ) → k < get_or u 0 0 → channel (bank_of u f) k ≡ chan_of (chan_part (get_or u 0 0) u k)
unfolding bank_of
channel-of u f k h = get_d-tab (get_or u 0 0) (λ j. chan_of (chan_part (get_or u 0 0) u j)) k fresh_channel h

pub fits : (u : List ℕ) (f : List Float) (n : ℕ) → Ready u f → n ≡ get_or u 0 0 → Fits u f n
fits u f n r e =
    subst (Fits u f) (sym e)
    (record {
      n_is = refl;
      some = rw (n-of u f) at r.good.low;
      few = rw (n-of u f) at r.good.high;
      long = r.long;
      long_f = r.long_f;
      sound = λ k h. subst (Sound ring_len bins) (channel-of u f k h) (r.good.sound k (subst (λ (m : ℕ). k < m) (sym (n-of u f)) h));
    })

module _ (u : List ℕ) (f : List Float) (n : ℕ) (s : Fits u f n) (k : ℕ) (h : k < n) where
  -- the part that is lent of channel k
  pub lent-long : base n + channel_len * k + channel_len ≤ length u
  lent-long = omega (arith, s.long, row channel_len k n h)

  pub lent : (l : List ℕ) → l ≡ chan_part n u k → Sound ring_len bins (chan_of l)
  lent l e = subst (λ (p : List ℕ). Sound ring_len bins (chan_of p)) (sym e) (s.sound k h)

  -- lead is at most filled
  pub lead-filled : get_or u (base n + channel_len * k + at_lead) 0 ≤ get_or u (base n + channel_len * k + at_filled) 0
  lead-filled =
      let c = chan_of (chan_part n u k) in
      let q = s.sound k h in
      omega (
        arith,
        q.lead_within,
        q.recount 0 (omega arith),
        occ-le 0 (entries c),
        length-take c.filled c.ring,
        get_d_part (base n + channel_len * k) channel_len u at_filled 0 (omega arith),
        get_d_part (base n + channel_len * k) channel_len u at_lead 0 (omega arith),
      )

-- ---- what the loops leave is the step, encoded

-- channel k's rise floor from the flat stores
abbrev pub rise_at_of : List ℕ → List Float → ℕ → ℕ → Float
rise_at_of u f n k =
    rise_floor (get_or f (n + k) nan) (get_or f (4 * n + k / block_channels) nan) (since (chan_of (chan_part n u k))) (get_or u (3 + k / block_channels) 0)
    (get_or f (4 * n + blocks n + k / block_channels) nan)

-- channel k's part after its push, from the flat store
abbrev pub pushed_of : List ℕ → List Float → ℕ → ℕ → List ℕ
pushed_of u db n k = chan_u (push_in ring_len (eqb 0 (get_or u (3 + k / block_channels) 0)) (chan_of (chan_part n u k)) (bin_of (get_or db k nan)))

module _ (u : List ℕ) (f : List Float) (n : ℕ) (s : Fits u f n) (db : List Float) where
  pub pushed_long : (k : ℕ) → k < n → length (pushed_of u db n k) ≡ channel_len
  pushed_long k h =
      let c = push_in ring_len (eqb 0 (get_or u (3 + k / block_channels) 0)) (chan_of (chan_part n u k)) (bin_of (get_or db k nan)) in
      let q = sound-push (eqb 0 (get_or u (3 + k / block_channels) 0)) (chan_of (chan_part n u k)) (bin_of (get_or db k nan)) (s.sound k h) (bin-below (get_or db k nan)) in
      length-chan_u c q.ring_is_long q.counts_length

  pushed-all : (k : ℕ) → k ≤ n → length (joined (tab k (pushed_of u db n))) ≡ channel_len * k
  pushed-all k h = length-joined channel_len k (pushed_of u db n) (λ j l. pushed_long j (omega arith))

  -- one turn of the pushes: u₁ is what the turns before left
  module _ (k : ℕ) (h : k < n) (u₁ : List ℕ) (t : u₁ ≡ splice (base n) (channel_len * k) u (joined (tab k (pushed_of u db n)))) where
    same-part : part (base n + channel_len * k) channel_len u₁ ≡ chan_part n u k
    same-part =
        ap (part (base n + channel_len * k) channel_len) t
        ∙ part-past (base n) (channel_len * k) (base n + channel_len * k) channel_len u (joined (tab k (pushed_of u db n))) (pushed-all k (omega arith)) (omega arith)
        (omega (arith, s.long, row channel_len k n h))

    pub turn-long : length u₁ ≡ length u
    turn-long =
        ap length t ∙ length-splice (base n) (channel_len * k) u (joined (tab k (pushed_of u db n))) (omega (arith, s.long, row channel_len k n h)) (pushed-all k (omega arith))

    pub turn-asks : (base n + channel_len * k + channel_len ≤ length u₁) × Sound ring_len bins (chan_of (part (base n + channel_len * k) channel_len u₁))
    turn-asks = (omega (arith, turn-long, lent-long u f n s k h), subst (λ (p : List ℕ). Sound ring_len bins (chan_of p)) (sym same-part) (s.sound k h))

    pub turn-done : (u₂ : List ℕ)
        → u₂ ≡ splice (base n + channel_len * k) channel_len u₁ (chan_u (push_in ring_len (eqb 0 (get_or u₁ (3 + k / block_channels) 0)) (chan_of (part (base n + channel_len * k) channel_len u₁)) (bin_of (get_or db k nan))))
        → u₂ ≡ splice (base n) (channel_len * (k + 1)) u (joined (tab (k + 1) (pushed_of u db n)))
    turn-done u₂ g =
        g
        ∙ (λ i.
        splice (base n + channel_len * k) channel_len (t i)
        (chan_u (push_in ring_len (eqb 0 (quiet i)) (chan_of (same-part i)) (bin_of (get_or db k nan)))))
        ∙ parts-turn (base n) channel_len k u (pushed_of u db n) (λ j l. pushed_long j (omega arith)) (omega (arith, lent-long u f n s k h))
      where
        quiet : get_or u₁ (3 + k / block_channels) 0 ≡ get_or u (3 + k / block_channels) 0
        quiet =
            ap (λ (l : List ℕ). get_or l (3 + k / block_channels) 0) t
            ∙ get_d-before (base n) (channel_len * k) u (joined (tab k (pushed_of u db n))) (3 + k / block_channels) 0 (omega arith) (omega (arith, s.long))

-- the bank of two ready stores, where n is their number of channels
module _ (u : List ℕ) (f : List Float) (r : Ready u f) (n : ℕ) (e : n ≡ get_or u 0 0) where
  n-same : n ≡ (bank_of u f).n
  n-same = e ∙ sym (n-of u f)

  whole : f ≡ bank_floats (bank_of u f)
  whole = sym (bank-forth-f u f r.long_f)

  L : Lengths (bank_of u f).n (blocks (bank_of u f).n) (bank_of u f).raw (bank_of u f).usable (bank_of u f).smooth (bank_of u f).rise (bank_of u f).block_floor (bank_of u f).seed_sum
  L = lengths (bank_of u f) r.good

  chan-same : (k : ℕ) → k < n → chan_of (chan_part n u k) ≡ channel (bank_of u f) k
  chan-same k h = ap (λ (m : ℕ). chan_of (chan_part m u k)) e ∙ sym (channel-of u f k (omega arith))

  -- w entries from a on replaced by x, where these are places and list of the bank
  put : (a w a' w' : ℕ) (x x' f' : List Float) → a ≡ a' → w ≡ w' → x ≡ x' → f' ≡ splice a w f x → f' ≡ splice a' w' (bank_floats (bank_of u f)) x'
  put a w a' w' x x' f' p q y t = t ∙ (λ i. splice (p i) (q i) (whole i) (y i))

  module _ (f' : List Float) where
    pub raw-done : f' ≡ splice 0 n f (tab n (λ k. raw_floor (chan_of (chan_part n u k)))) → f' ≡ bank_floats (raw_step (bank_of u f))
    unfolding raw_step raw_floors
    raw-done t =
        put 0 n 0 (bank_of u f).n _ (raw_floors (bank_of u f).n (bank_of u f).chans) f' refl n-same
        (tab-same n (bank_of u f).n _ _ n-same (λ k h. ap raw_floor (chan-same k h))) t
        ∙ put-raw L (raw_floors (bank_of u f).n (bank_of u f).chans)

    pub usable-done : f' ≡ splice n n f (tab n (λ k. usable_floor (chan_of (chan_part n u k)))) → f' ≡ bank_floats (usable_step (bank_of u f))
    unfolding usable_step usable_floors
    usable-done t =
        put n n (bank_of u f).n (bank_of u f).n _ (usable_floors (bank_of u f).n (bank_of u f).chans) f' n-same n-same
        (tab-same n (bank_of u f).n _ _ n-same (λ k h. ap usable_floor (chan-same k h))) t
        ∙ put-usable L (usable_floors (bank_of u f).n (bank_of u f).chans)

  raw-part : part 0 n f ≡ (bank_of u f).raw
  unfolding bank_of
  raw-part = ap (λ (m : ℕ). part 0 m f) e

  -- the raw floor of channel k as the usable floor's loop finds it
  pub raw_at_lem : (bank_of u f).raw ≡ raw_floors (bank_of u f).n (bank_of u f).chans → (k : ℕ) (l x : List Float) (j : ℕ) (d : Float) → k < n
      → l ≡ splice n j f x → get_or l k d ≡ raw_floor (chan_of (chan_part n u k))
  unfolding raw_floors
  raw_at_lem q k l x j d h t =
      ap (λ (m : List Float). get_or m k d) t
      ∙ get_d-before n j f x k d h (omega (arith, r.long_f))
      ∙ ap (λ (i : ℕ). get_or f i d) (let z : k ≡ 0 + k = omega arith in z)
      ∙ sym (get_d_part 0 n f k d h)
      ∙ ap (λ (m : List Float). get_or m k d) (raw-part ∙ q)
      ∙ get_d-tab (bank_of u f).n (λ i. raw_floor (channel (bank_of u f) i)) k d (omega (arith, n-same))
      ∙ ap raw_floor (sym (chan-same k h))

  -- ---- block floors

  usable-part : part n n f ≡ (bank_of u f).usable
  unfolding bank_of
  usable-part = ap (λ (m : ℕ). part m m f) e

  pub block-done : (f' : List Float) → f' ≡ splice (4 * n) (blocks n) f (tab (blocks n) (λ i. median (block i (part n n f)))) → f' ≡ bank_floats (block_step (bank_of u f))
  unfolding block_step block_floors
  block-done f' t =
      put (4 * n) (blocks n) (4 * (bank_of u f).n) (blocks (bank_of u f).n) _ (block_floors (bank_of u f).n (bank_of u f).usable) f' (ap (λ (m : ℕ). 4 * m) n-same) (ap blocks n-same)
      (tab-same (blocks n) (blocks (bank_of u f).n) _ _ (ap blocks n-same) (λ i h. ap (λ (l : List Float). median (block i l)) usable-part)) t
      ∙ put-block L (block_floors (bank_of u f).n (bank_of u f).usable)

  -- the usable floors as the loop finds them: they lie before what it writes
  pub usable-lent : (l x : List Float) (i : ℕ) → i ≤ blocks n → length x ≡ i → l ≡ splice (4 * n) i f x → part n (n + n - n) l ≡ part n n f
  usable-lent l x i h k t =
      ap (λ (w : ℕ). part n w l) (width n n)
      ∙ ap (part n n) t
      ∙ part-before (4 * n) i n n f x f0 (omega (arith, r.long_f)) k (omega arith)

  -- ---- rise floors

  in-part : (a w a' w' : ℕ) (k : ℕ) → a ≡ a' → w ≡ w' → a + w ≤ length f → k < w → get_or f (a + k) nan ≡ get_or (part a' w' f) k f0
  in-part a w a' w' k p q h j =
      get_d_any f (a + k) nan f0 (omega arith) ∙ sym (get_d_part a w f k f0 j) ∙ (λ i. get_or (part (p i) (q i) f) k f0)

  rise-same : (k : ℕ) → k < n
      → rise_at_of u f n k
      ≡ rise_floor (get_or (bank_of u f).usable k f0) (get_or (bank_of u f).block_floor (k / block_channels) f0) (since (channel (bank_of u f) k)) (get_or (bank_of u f).seeds (k / block_channels) 0)
      (get_or (bank_of u f).seed_sum (k / block_channels) f0)
  unfolding bank_of
  rise-same k h =
      let i : k / block_channels < blocks n = omega arith in
      (λ j.
      rise_floor (in-part n n (get_or u 0 0) (get_or u 0 0) k e e (omega (arith, long_f)) h j)
      (in-part (4 * n) (blocks n) (4 * get_or u 0 0) (blocks (get_or u 0 0)) (k / block_channels) (ap (λ (m : ℕ). 4 * m) e) (ap blocks e) (omega (arith, long_f)) i j)
      (since (chan-same k h j))
      ((sym (get_d_part 3 (blocks n) u (k / block_channels) 0 i) ∙ ap (λ (m : ℕ). get_or (part 3 (blocks m) u) (k / block_channels) 0) e) j)
      (in-part (4 * n + blocks n) (blocks n) (4 * get_or u 0 0 + blocks (get_or u 0 0)) (blocks (get_or u 0 0)) (k / block_channels) (ap (λ (m : ℕ). 4 * m + blocks m) e) (ap blocks e) (omega (arith, long_f)) i j))
    where
      long_f : length f ≡ bank_f_len n
      long_f = r.long_f ∙ ap bank_f_len (sym e)

  pub rise-done : (f' : List Float) → f' ≡ splice (3 * n) n f (tab n (rise_at_of u f n)) → f' ≡ bank_floats (rise_step (bank_of u f))
  unfolding rise_step rise_floors
  rise-done f' t =
      put (3 * n) n (3 * (bank_of u f).n) (bank_of u f).n _
      (rise_floors (bank_of u f).n (bank_of u f).chans (bank_of u f).usable (bank_of u f).block_floor (bank_of u f).seeds (bank_of u f).seed_sum) f' (ap (λ (m : ℕ). 3 * m) n-same) n-same
      (tab-same n (bank_of u f).n _ _ n-same rise-same) t
      ∙ put-rise L (rise_floors (bank_of u f).n (bank_of u f).chans (bank_of u f).usable (bank_of u f).block_floor (bank_of u f).seeds (bank_of u f).seed_sum)

  -- what the loop reads while it writes
  pub rise-reads : (l x : List Float) (k i : ℕ) → k < n → length x ≡ k → i < blocks n → l ≡ splice (3 * n) k f x
      → (get_or l (n + k) nan ≡ get_or f (n + k) nan) × (get_or l (4 * n + i) nan ≡ get_or f (4 * n + i) nan) × (get_or l (4 * n + blocks n + i) nan ≡ get_or f (4 * n + blocks n + i) nan)
  rise-reads l x k i h q j t = (
    ap (λ (m : List Float). get_or m (n + k) nan) t ∙ get_d-before (3 * n) k f x (n + k) nan (omega arith) (omega (arith, r.long_f)),
    ap (λ (m : List Float). get_or m (4 * n + i) nan) t ∙ get_d_past (3 * n) k f x (4 * n + i) nan q (omega (arith, r.long_f)) (omega arith),
    ap (λ (m : List Float). get_or m (4 * n + blocks n + i) nan) t ∙ get_d_past (3 * n) k f x (4 * n + blocks n + i) nan q (omega (arith, r.long_f)) (omega arith),
  )

  -- ---- pushes

  whole-u : u ≡ bank_u16s (bank_of u f)
  whole-u = sym (bank-forth-u u f r.long)

  chans_long : length (joined (map chan_u (bank_of u f).chans)) ≡ channel_len * (bank_of u f).n
  chans_long = omega (arith, ap length whole-u, length-append (bank_of u f).seeds (joined (map chan_u (bank_of u f).chans)), r.good.seeds_long, r.long, n-of u f)

  seed-same : (k : ℕ) → k < n → get_or u (3 + k / block_channels) 0 ≡ get_or (bank_of u f).seeds (k / block_channels) 0
  unfolding bank_of
  seed-same k h = sym (get_d_part 3 (blocks n) u (k / block_channels) 0 (omega arith)) ∙ ap (λ (m : ℕ). get_or (part 3 (blocks m) u) (k / block_channels) 0) e

  pushed-same : (db : List Float) → length db ≡ n → (k : ℕ) → k < n
      → pushed_of u db n k ≡ chan_u (channel_after (bank_of u f).chans (bank_of u f).seeds db k)
  pushed-same db z k h =
      let any : get_or db k nan ≡ get_or db k f0 = get_d_any db k nan f0 (omega arith) in
      (λ j. chan_u (push_in ring_len (eqb 0 (seed-same k h j)) (chan-same k h j) (bin_of (any j))))

  pub push-done : (db : List Float) → length db ≡ n → (u' : List ℕ) → u' ≡ splice (base n) (channel_len * n) u (joined (tab n (pushed_of u db n)))
      → u' ≡ bank_u16s (push_step db (bank_of u f))
  unfolding push_step chans_after
  push-done db z u' t =
      t
      ∙ (λ i. splice (base (n-same i)) (channel_len * n-same i) (whole-u i) (joined (lists i)))
      ∙ put-chans (bank_of u f).n (bank_of u f).phase (bank_of u f).started (blocks (bank_of u f).n) (channel_len * (bank_of u f).n) (bank_of u f).seeds (joined (map chan_u (bank_of u f).chans))
      r.good.seeds_long chans_long (joined (map chan_u (chans_after (bank_of u f) (bank_of u f).seeds db)))
    where
      lists : tab n (pushed_of u db n) ≡ map chan_u (chans_after (bank_of u f) (bank_of u f).seeds db)
      lists =
          tab-same n (bank_of u f).n (pushed_of u db n) (λ k. chan_u (channel_after (bank_of u f).chans (bank_of u f).seeds db k)) n-same (pushed-same db z)
          ∙ sym (map-tab chan_u (bank_of u f).n (channel_after (bank_of u f).chans (bank_of u f).seeds db))

  -- ---- seeds

  seeds-part : part 3 (blocks n) u ≡ (bank_of u f).seeds
  unfolding bank_of
  seeds-part = ap (λ (m : ℕ). part 3 (blocks m) u) e

  sums_part : part (4 * n + blocks n) (blocks n) f ≡ (bank_of u f).seed_sum
  unfolding bank_of
  sums_part = ap (λ (m : ℕ). part (4 * m + blocks m) (blocks m) f) e

  module _ (db : List Float) (z : length db ≡ n) where
    same : length db ≡ (bank_of u f).n
    same = z ∙ n-same

    pub seeds-ask : Seedable (part 3 (blocks n) u) (part (4 * n + blocks n) (blocks n) f) db
    seeds-ask =
        rw (seeds-part, sums_part)
        (record {
          low = omega (arith, r.good.low, same);
          high = omega (arith, r.good.high, same);
          seeds_long = r.good.seeds_long ∙ ap blocks (sym same);
          sums_long = r.good.seed_sum_long ∙ ap blocks (sym same);
          small = λ i h. r.good.seeds_small i (subst (λ (m : ℕ). i < blocks m) same h);
        })

    pub seeds-done : (x : List ℕ) (y : List Float) → Seeded (part 3 (blocks n) u) (part (4 * n + blocks n) (blocks n) f) db x y
        → Holds (seed_step db (bank_of u f)) (splice 3 (blocks n) u x) (splice (4 * n + blocks n) (blocks n) f y)
    unfolding seed_step seeds_after sums_after
    seeds-done x y q =
        record {
          u16s =
              (λ i. splice 3 (blocks (n-same i)) (whole-u i) (pushes i))
              ∙ put-seeds (bank_of u f).n (bank_of u f).phase (bank_of u f).started (blocks (bank_of u f).n) (channel_len * (bank_of u f).n) (bank_of u f).seeds (joined (map chan_u (bank_of u f).chans))
              r.good.seeds_long chans_long (seeds_after (bank_of u f) db);
          floats = (λ i. splice (4 * n-same i + blocks (n-same i)) (blocks (n-same i)) (whole i) (sum i)) ∙ put-sums L (sums_after (bank_of u f) db);
        }
      where
        pushes : x ≡ seeds_after (bank_of u f) db
        pushes = q.pushes ∙ (λ i. tab (blocks (same i)) (pushes_at (seeds-part i) db))

        sum : y ≡ sums_after (bank_of u f) db
        sum = q.sum ∙ (λ i. tab (blocks (same i)) (sum_at (seeds-part i) (sums_part i) db))

  -- ---- smoothed powers

  smooth-part : part (2 * n) n f ≡ (bank_of u f).smooth
  unfolding bank_of
  smooth-part = ap (λ (m : ℕ). part (2 * m) m f) e

  started-is : get_or u 2 0 ≡ (bank_of u f).started
  unfolding bank_of
  started-is = refl

  module _ (held : Bool) (power : List Float) where
    -- the powers written, where x is what the definition says of each channel
    pub smooth-done : (x f' : List Float) → x ≡ smooth_after (bank_of u f) (hop held [] power) → f' ≡ splice (2 * n) n f x → f' ≡ bank_floats (smooth_step held power (bank_of u f))
    unfolding smooth_step
    smooth-done x f' q t =
        put (2 * n) n (2 * (bank_of u f).n) (bank_of u f).n x (smooth_after (bank_of u f) (hop held [] power)) f' (ap (λ (m : ℕ). 2 * m) n-same) n-same q t
        ∙ put-smooth L (smooth_after (bank_of u f) (hop held [] power))

    -- the first hop ever, a held hop, and any other
    pub starts : get_or u 2 0 ≡ 0 → (w : ℕ) → w ≡ n → tab w (λ k. power_linear (get_or power k f0)) ≡ smooth_after (bank_of u f) (hop held [] power)
    unfolding smooth_after
    starts g w v =
        tab-same w (bank_of u f).n _ _ (v ∙ n-same)
        (λ k h. ap (λ (t : ℕ). power_after t held (get_or (bank_of u f).smooth k f0) (get_or power k f0)) (sym g ∙ started-is))

  on_step : (t : ℕ) (held : Bool) (s p : Float) → (t ≡ 0 → ⊥) → power_after t held s p ≡ cond held s (smoothed s (power_linear p))
  on_step zero held s p g = absurd (g refl)
  on_step (suc t) true s p g = refl
  on_step (suc t) false s p g = refl

  module _ (power : List Float) (g : get_or u 2 0 ≡ 0 → ⊥) where
    pub goes_on : (w : ℕ) → w ≡ n
        → tab w (λ k. smoothed (get_or (part (2 * n) n f) k f0) (power_linear (get_or power k f0))) ≡ smooth_after (bank_of u f) (hop false [] power)
    unfolding smooth_after
    goes_on w v =
        tab-same w (bank_of u f).n _ _ (v ∙ n-same)
        (λ k h.
        ap (λ (l : List Float). smoothed (get_or l k f0) (power_linear (get_or power k f0))) smooth-part
        ∙ sym (on_step (bank_of u f).started false (get_or (bank_of u f).smooth k f0) (get_or power k f0) (λ q. g (started-is ∙ q))))

    pub held_stays : f ≡ bank_floats (smooth_step true power (bank_of u f))
    unfolding smooth_step smooth_after
    held_stays =
        whole
        ∙ ap (λ (l : List Float). (bank_of u f).raw ++ ((bank_of u f).usable ++ (l ++ ((bank_of u f).rise ++ ((bank_of u f).block_floor ++ (bank_of u f).seed_sum)))))
        (sym
        (tab-ext (bank_of u f).n _ (λ k. get_or (bank_of u f).smooth k f0)
        (λ k h. on_step (bank_of u f).started true (get_or (bank_of u f).smooth k f0) (get_or power k f0) (λ q. g (started-is ∙ q)))
        ∙ tab-get_d (bank_of u f).smooth f0 (bank_of u f).n r.good.smooth_long))
