-- The steps of an update one after another: after each the two stores hold a sound bank, and together they are `bank_step`.
-- Assumes nothing.
use mathlib.Core.Path.{◌≡◌, refl, sym, ap, subst, ◌∙◌}
use mathlib.Core.Bool.{Bool, ◌||◌}
use mathlib.Core.List.{List, []}
use Prim.Native.Nat.{ℕ, zero, suc, ◌/◌, ◌<◌, ◌≤◌}
use native.Mathlib.Omega.{arith}
use lib.Dec.{eqb}
use lib.ListN.{length, get_or}
use lib.Ieee.{Float}
use Rattle.laws.specs.Tests.{differ}
use Rattle.laws.proofs.Tests.{passed, same_of, neither, or_l, or_r}
use Rattle.laws.proofs.Tabs.{length-tab, get_d-tab}
use Rattle.model.specs.Numbers.{f0}
use Rattle.model.specs.Layout.{bins, ring_len, block_channels}
use Rattle.model.specs.Ring.{ChannelFloor, bin_of}
use Rattle.model.specs.Bank.{FloorBank, Hop, hop, blocks, channel, channel_after, fresh_channel, smooth_after, seeds_after, sums_after, chans_after, raw_floors, usable_floors, block_floors, rise_floors, slow_step, fast_step, step_at, bank_step}
use Rattle.model.specs.Stores.{bank_u16s, bank_floats, bank_of}
use Rattle.model.specs.Refusals.{bank_refusal, update_refusal}
use Rattle.model.specs.Calls.{leaves, bank_update_call}
use Rattle.model.specs.Sound.{Sound}
use Rattle.model.proofs.Bins.{bin-below}
use Rattle.model.proofs.SoundRings.{sound-push}
use Rattle.model.specs.GoodBank.{Good, Ready}
use Rattle.model.proofs.BankStores.{bank-forth-u, bank-forth-f}
use Rattle.model.proofs.GoodBanks.{bank-back, good-ready, ready, length-bank_u}
use Rattle.model.proofs.FreshBanks.{seeds-slow}
use Rattle.bank_stages.specs.Steps.{Holds, Headed, with, advanced, smooth_step, seed_step, push_step, raw_step, usable_step, block_step, rise_step, floor_step, phase_step}

-- ---- each step keeps a bank sound and its number of channels

pub record Keeps (S : FloorBank → FloorBank) : Type 0 where
  pub good : (b : FloorBank) → Good b → Good (S b)
  pub size : (b : FloorBank) → (S b).n ≡ b.n

-- the lists of a bank replaced by others of the same lengths
good-with : (b : FloorBank) (seeds : List ℕ) (chans : List ChannelFloor) (raw usable smooth rise block_floor sums : List Float) → Good b
    → length seeds ≡ blocks b.n → ((i : ℕ) → i < blocks b.n → get_or seeds i 0 ≤ 25)
    → length chans ≡ b.n → ((k : ℕ) → k < b.n → Sound ring_len bins (get_or chans k fresh_channel))
    → length raw ≡ b.n → length usable ≡ b.n → length smooth ≡ b.n → length rise ≡ b.n → length block_floor ≡ blocks b.n → length sums ≡ blocks b.n
    → Good (with b seeds chans raw usable smooth rise block_floor sums)
good-with b seeds chans raw usable smooth rise block_floor sums g s small c sound r u m i f t =
    record {
      low = g.low;
      high = g.high;
      phase = g.phase;
      started = g.started;
      seeds_long = s;
      chans_long = c;
      raw_long = r;
      usable_long = u;
      smooth_long = m;
      rise_long = i;
      block_floor_long = f;
      seed_sum_long = t;
      seeds_small = small;
      sound = sound;
    }

pub keeps-smooth : (held : Bool) (power : List Float) → Keeps (smooth_step held power)
unfolding smooth_step smooth_after
keeps-smooth held power =
    record {
      good = λ b g.
          good-with b b.seeds b.chans b.raw b.usable (smooth_after b (hop held [] power)) b.rise b.block_floor b.seed_sum g g.seeds_long
          g.seeds_small g.chans_long g.sound g.raw_long g.usable_long (length-tab b.n _) g.rise_long g.block_floor_long g.seed_sum_long;
      size = λ b. refl;
    }

pub keeps-seed : (db : List Float) → Keeps (seed_step db)
unfolding seed_step seeds_after sums_after
keeps-seed db =
    record {
      good = λ b g.
          good-with b (seeds_after b db) b.chans b.raw b.usable b.smooth b.rise b.block_floor (sums_after b db) g (length-tab (blocks b.n) _)
          (seeds-slow b db g) g.chans_long g.sound g.raw_long g.usable_long g.smooth_long g.rise_long g.block_floor_long
          (length-tab (blocks b.n) _);
      size = λ b. refl;
    }

pub keeps-push : (db : List Float) → Keeps (push_step db)
unfolding push_step chans_after
keeps-push db =
    record {
      good = λ b g.
          good-with b b.seeds (chans_after b b.seeds db) b.raw b.usable b.smooth b.rise b.block_floor b.seed_sum g g.seeds_long
          g.seeds_small (length-tab b.n _)
          (λ k h.
          subst (Sound ring_len bins) (sym (get_d-tab b.n (channel_after b.chans b.seeds db) k fresh_channel h))
          (sound-push (eqb 0 (get_or b.seeds (k / block_channels) 0)) (channel b k) (bin_of (get_or db k f0)) (g.sound k h) (bin-below (get_or db k f0))))
          g.raw_long g.usable_long g.smooth_long g.rise_long g.block_floor_long g.seed_sum_long;
      size = λ b. refl;
    }

pub keeps-raw : Keeps raw_step
unfolding raw_step raw_floors
keeps-raw =
    record {
      good = λ b g.
          good-with b b.seeds b.chans (raw_floors b.n b.chans) b.usable b.smooth b.rise b.block_floor b.seed_sum g g.seeds_long
          g.seeds_small g.chans_long g.sound (length-tab b.n _) g.usable_long g.smooth_long g.rise_long g.block_floor_long g.seed_sum_long;
      size = λ b. refl;
    }

pub keeps-usable : Keeps usable_step
unfolding usable_step usable_floors
keeps-usable =
    record {
      good = λ b g.
          good-with b b.seeds b.chans b.raw (usable_floors b.n b.chans) b.smooth b.rise b.block_floor b.seed_sum g g.seeds_long
          g.seeds_small g.chans_long g.sound g.raw_long (length-tab b.n _) g.smooth_long g.rise_long g.block_floor_long g.seed_sum_long;
      size = λ b. refl;
    }

pub keeps-block : Keeps block_step
unfolding block_step block_floors
keeps-block =
    record {
      good = λ b g.
          good-with b b.seeds b.chans b.raw b.usable b.smooth b.rise (block_floors b.n b.usable) b.seed_sum g g.seeds_long
          g.seeds_small g.chans_long g.sound g.raw_long g.usable_long g.smooth_long g.rise_long (length-tab (blocks b.n) _) g.seed_sum_long;
      size = λ b. refl;
    }

pub keeps-rise : Keeps rise_step
unfolding rise_step rise_floors
keeps-rise =
    record {
      good = λ b g.
          good-with b b.seeds b.chans b.raw b.usable b.smooth (rise_floors b.n b.chans b.usable b.block_floor b.seeds b.seed_sum)
          b.block_floor b.seed_sum g g.seeds_long g.seeds_small g.chans_long g.sound g.raw_long g.usable_long g.smooth_long
          (length-tab b.n _) g.block_floor_long g.seed_sum_long;
      size = λ b. refl;
    }

pub keeps-floor : (db : List Float) → Keeps (floor_step db)
unfolding floor_step
keeps-floor db =
    record {
      good = λ b g.
          keeps-rise.good _ (keeps-block.good _ (keeps-usable.good _ (keeps-raw.good _ ((keeps-push db).good _ ((keeps-seed db).good b g)))));
      size = λ b.
          keeps-rise.size _ ∙ keeps-block.size _ ∙ keeps-usable.size _ ∙ keeps-raw.size _ ∙ (keeps-push db).size _ ∙ (keeps-seed db).size b;
    }

-- ---- two stores hold a sound bank of m channels

pub record At (m : ℕ) (b : FloorBank) (u : List ℕ) (f : List Float) : Type 0 where
  pub u16s : u ≡ bank_u16s b
  pub floats : f ≡ bank_floats b
  pub good : Good b
  pub size : b.n ≡ m

pub at_start : (u : List ℕ) (f : List Float) (m : ℕ) → Ready u f → m ≡ get_or u 0 0 → At m (bank_of u f) u f
unfolding bank_of
at_start u f m r e =
    record { u16s = sym (bank-forth-u u f r.long); floats = sym (bank-forth-f u f r.long_f); good = r.good; size = sym e }

module _ (m : ℕ) (b : FloorBank) (u : List ℕ) (f : List Float) (a : At m b u f) where
  -- what a function asks that works on them
  pub ready_at : Ready u f × (m ≡ get_or u 0 0)
  ready_at = (
    subst (λ (l : List ℕ). Ready l f) (sym a.u16s) (subst (λ (l : List Float). Ready (bank_u16s b) l) (sym a.floats) (good-ready b a.good)),
    sym a.size ∙ ap (λ (l : List ℕ). get_or l 0 0) (sym a.u16s),
  )

  pub bank-at : bank_of u f ≡ b
  bank-at = (λ i. bank_of (a.u16s i) (a.floats i)) ∙ bank-back b a.good

  -- a step, by what its function leaves
  module _ (S : FloorBank → FloorBank) (k : Keeps S) where
    pub both : (u' : List ℕ) (f' : List Float) → Holds (S (bank_of u f)) u' f' → At m (S b) u' f'
    both u' f' h =
        record {
          u16s = h.u16s ∙ ap (λ (x : FloorBank). bank_u16s (S x)) bank-at;
          floats = h.floats ∙ ap (λ (x : FloorBank). bank_floats (S x)) bank-at;
          good = k.good b a.good;
          size = k.size b ∙ a.size;
        }

    pub only-floats : ((x : FloorBank) → bank_u16s x ≡ bank_u16s (S x)) → (f' : List Float) → f' ≡ bank_floats (S (bank_of u f)) → At m (S b) u f'
    only-floats same f' h =
        record {
          u16s = a.u16s ∙ same b;
          floats = h ∙ ap (λ (x : FloorBank). bank_floats (S x)) bank-at;
          good = k.good b a.good;
          size = k.size b ∙ a.size;
        }

    pub only-u16s : ((x : FloorBank) → bank_floats x ≡ bank_floats (S x)) → (u' : List ℕ) → u' ≡ bank_u16s (S (bank_of u f)) → At m (S b) u' f
    only-u16s same u' h =
        record {
          u16s = h ∙ ap (λ (x : FloorBank). bank_u16s (S x)) bank-at;
          floats = a.floats ∙ same b;
          good = k.good b a.good;
          size = k.size b ∙ a.size;
        }

  pub headed : Headed u
  headed =
      record {
        long = omega (arith, ap length a.u16s, length-bank_u b a.good);
        phase = omega (arith, ap (λ (l : List ℕ). get_or l 1 0) a.u16s, a.good.phase);
      }

-- the steps that leave one store as it is
pub smooth-u : (held : Bool) (power : List Float) (b : FloorBank) → bank_u16s b ≡ bank_u16s (smooth_step held power b)
unfolding smooth_step
smooth-u held power b = refl

pub push-f : (db : List Float) (b : FloorBank) → bank_floats b ≡ bank_floats (push_step db b)
unfolding push_step
push-f db b = refl

pub raw-u : (b : FloorBank) → bank_u16s b ≡ bank_u16s (raw_step b)
unfolding raw_step
raw-u b = refl

pub usable-u : (b : FloorBank) → bank_u16s b ≡ bank_u16s (usable_step b)
unfolding usable_step
usable-u b = refl

pub block-u : (b : FloorBank) → bank_u16s b ≡ bank_u16s (block_step b)
unfolding block_step
block-u b = refl

pub rise-u : (b : FloorBank) → bank_u16s b ≡ bank_u16s (rise_step b)
unfolding rise_step
rise-u b = refl

pub raw-known : (b : FloorBank) → (raw_step b).raw ≡ raw_floors (raw_step b).n (raw_step b).chans
unfolding raw_step
raw-known b = refl

-- ---- the whole

pub phase-u : (b : FloorBank) → advanced (bank_u16s b) ≡ bank_u16s (phase_step b)
unfolding phase_step
phase-u b = refl

pub phase-f : (b : FloorBank) → bank_floats b ≡ bank_floats (phase_step b)
unfolding phase_step
phase-f b = refl

slow-is : (b : FloorBank) (held : Bool) (db power : List Float) → phase_step (floor_step db (smooth_step held power b)) ≡ slow_step b (hop held db power)
unfolding phase_step floor_step rise_step block_step usable_step raw_step push_step seed_step smooth_step slow_step seeds_after sums_after chans_after smooth_after
slow-is b held db power = refl

fast-is : (b : FloorBank) (held : Bool) (db power : List Float) → phase_step (smooth_step held power b) ≡ fast_step b (hop held db power)
unfolding phase_step smooth_step fast_step smooth_after
fast-is b held db power = refl

pub slow-step : (b : FloorBank) (held : Bool) (db power : List Float) → b.phase ≡ 0
    → phase_step (floor_step db (smooth_step held power b)) ≡ bank_step b (hop held db power)
unfolding bank_step
slow-step b held db power e = slow-is b held db power ∙ ap (λ (p : ℕ). step_at p b (hop held db power)) (sym e)

pub fast-step : (b : FloorBank) (held : Bool) (db power : List Float) → (b.phase ≡ 0 → ⊥)
    → phase_step (smooth_step held power b) ≡ bank_step b (hop held db power)
unfolding bank_step
fast-step b held db power e = go b.phase e
  where
    go : (p : ℕ) → (p ≡ 0 → ⊥) → phase_step (smooth_step held power b) ≡ step_at p b (hop held db power)
    go zero h = absurd (h refl)
    go (suc p) h = fast-is b held db power

-- the header's phase is the bank's
pub phase-of : (u : List ℕ) (f : List Float) → (bank_of u f).phase ≡ get_or u 1 0
unfolding bank_of
phase-of u f = refl

-- what is left where the phase has advanced
pub done : (m : ℕ) (b c : FloorBank) (u u' : List ℕ) (f : List Float) → At m b u f → phase_step b ≡ c → u' ≡ advanced u → Holds c u' f
done m b c u u' f a e h =
    record {
      u16s = h ∙ ap advanced a.u16s ∙ phase-u b ∙ ap bank_u16s e;
      floats = a.floats ∙ phase-f b ∙ ap bank_floats e;
    }

-- ---- the call

pub refused : (u : List ℕ) (f : List Float) (h : Hop) (r : ℕ) → r ≡ update_refusal u f h.db h.power → (r ≡ 0 → ⊥) → (r, u, f) ≡ bank_update_call u f h
unfolding bank_update_call
refused u f h r e z = go r z ∙ ap (λ (x : ℕ). leaves x (bank_step (bank_of u f) h) u f) e
  where
    go : (x : ℕ) → (x ≡ 0 → ⊥) → (x, u, f) ≡ leaves x (bank_step (bank_of u f) h) u f
    go zero w = absurd (w refl)
    go (suc x) w = refl

pub accepted : (u u' : List ℕ) (f f' : List Float) (h : Hop) → update_refusal u f h.db h.power ≡ 0 → Holds (bank_step (bank_of u f) h) u' f'
    → (0, u', f') ≡ bank_update_call u f h
unfolding bank_update_call
accepted u u' f f' h e q =
    (λ i. (0, q.u16s i, q.floats i)) ∙ ap (λ (x : ℕ). leaves x (bank_step (bank_of u f) h) u f) (sym e)

-- what a hop that is not refused has shown
pub asked : (u : List ℕ) (f db power : List Float) → update_refusal u f db power ≡ 0
    → Ready u f × (length db ≡ get_or u 0 0) × (length power ≡ get_or u 0 0)
unfolding update_refusal
asked u f db power e =
    let a = neither (bank_refusal u f) _ e in
    let b = passed (differ (length db) (get_or u 0 0) || differ (length power) (get_or u 0 0)) 5 _ (omega arith) a.1 in (
      ready u f a.0,
      same_of (length db) (get_or u 0 0) (or_l (differ (length db) (get_or u 0 0)) (differ (length power) (get_or u 0 0)) b.0),
      same_of (length power) (get_or u 0 0) (or_r (differ (length db) (get_or u 0 0)) (differ (length power) (get_or u 0 0)) b.0),
    )
