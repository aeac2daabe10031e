-- Where a reading finds what it reads: the fields of a bank as places of its two stores. Assumes nothing.
use mathlib.Core.Path.{◌≡◌, sym, ap, subst, ◌∙◌}
use mathlib.Core.Bool.{not}
use mathlib.Core.List.{List}
use Prim.Native.Nat.{ℕ, ◌+◌, ◌-◌, ◌*◌, ◌/◌, ◌≤◌, ◌<◌}
use native.Mathlib.Omega.{arith}
use lib.Dec.{ltb}
use lib.ListN.{length, get_or}
use lib.Ieee.{Float, nan}
use borrow.Author.Tests.{ltb-true, not-false}
use Rattle.laws.specs.Lists.{part}
use Rattle.laws.proofs.Defaults.{get_d_any}
use Rattle.laws.proofs.Lists.{width, length_part, get_d_part}
use Rattle.laws.proofs.Tests.{neither, passed}
use Rattle.model.specs.Numbers.{f0}
use Rattle.model.specs.Layout.{bins, ring_len, channel_len, block_channels}
use Rattle.model.specs.Ring.{since}
use Rattle.model.specs.Bank.{blocks}
use Rattle.model.specs.Stores.{base, bank_of, chan_of, chan_part}
use Rattle.model.specs.Refusals.{bank_refusal, read_refusal}
use Rattle.model.specs.Readings.{raw_at, rise_at}
use Rattle.model.specs.Sound.{Sound}
use Rattle.model.specs.GoodBank.{Ready}
use Rattle.model.proofs.GoodBanks.{ready, channel-at}
use Rattle.channel_readings.specs.Readable.{Readable}
use Rattle.channel_readings.specs.Sources.{sources_at}
use Rattle.block.specs.declared.Sources.{Sources}

pub from_ready : (u : List ℕ) (f : List Float) (k : ℕ) → Ready u f → k < get_or u 0 0 → Readable u f k
unfolding bank_of
from_ready u f k r h =
    record {
      below = h;
      high = r.good.high;
      long = r.long;
      long_f = r.long_f;
      sound = subst (Sound ring_len bins) (channel-at u f k h) (r.good.sound k h);
    }

-- a reading that is not refused
pub readable : (u : List ℕ) (f : List Float) (k : ℕ) → read_refusal u f k ≡ 0 → Readable u f k
unfolding read_refusal
readable u f k e =
    let t = neither (bank_refusal u f) _ e in
    let p = passed (not (ltb k (get_or u 0 0))) 7 0 (omega arith) t.1 in
    from_ready u f k (ready u f t.0) (ltb-true k (get_or u 0 0) (not-false (ltb k (get_or u 0 0)) p.0))

-- a float of the part of width w that starts at a
pub float_at : (a w i : ℕ) (f : List Float) → a + w ≤ length f → i < w → get_or f (a + i) nan ≡ get_or (part a w f) i f0
float_at a w i f h k = get_d_any f (a + i) nan f0 (omega arith) ∙ sym (get_d_part a w f i f0 k)

-- what the code gathers of channel k, with n and its blocks as they were read and e the entries since the leading silence
abbrev pub gathered : List ℕ → List Float → ℕ → ℕ → ℕ → ℕ → Sources
gathered u f k n B e =
    record {
      usable = get_or f (n + k) nan;
      block_floor = get_or f (4 * n + k / block_channels) nan;
      since = e;
      pushes = get_or u (3 + k / block_channels) 0;
      sum = get_or f (4 * n + B + k / block_channels) nan;
    }

module _ (u : List ℕ) (f : List Float) (k : ℕ) (r : Readable u f k) where
  abbrev N : ℕ
  N = get_or u 0 0

  pub raw_is : get_or f k nan ≡ raw_at (bank_of u f) k
  unfolding bank_of
  raw_is = get_d_any f k nan f0 (omega arith) ∙ sym (get_d_part 0 N f k f0 r.below ∙ ap (λ (i : ℕ). get_or f i f0) (omega arith))

  pub rise_is : get_or f (3 * N + k) nan ≡ rise_at (bank_of u f) k
  unfolding bank_of
  rise_is = float_at (3 * N) N k f (omega arith) r.below

  sources-are : gathered u f k N (blocks N) (since (chan_of (chan_part N u k))) ≡ sources_at (bank_of u f) k
  unfolding sources_at bank_of
  sources-are =
      let usable = float_at N N k f (omega arith) r.below in
      let floor = float_at (4 * N) (blocks N) (k / block_channels) f (omega arith) (omega arith) in
      let pushes = sym (get_d_part 3 (blocks N) u (k / block_channels) 0 (omega arith)) in
      let sum = float_at (4 * N + blocks N) (blocks N) (k / block_channels) f (omega arith) (omega arith) in
      λ j.
      record {
        usable = usable j;
        block_floor = floor j;
        since = since (sym (channel-at u f k r.below) j);
        pushes = pushes j;
        sum = sum j;
      }

  -- the ring of channel k, read as the code reads it
  pub sound_part : (a : ℕ) → a ≡ base N + channel_len * k
      → (length (part a (a + channel_len - a) u) ≡ channel_len) × Sound ring_len bins (chan_of (part a (a + channel_len - a) u))
  sound_part a d =
      let s = base N + channel_len * k in
      rw (d, width s channel_len) (length_part s channel_len u (omega arith), r.sound)

  pub sources_read : (n B a e : ℕ) → n ≡ N → B ≡ blocks N → a ≡ base N + channel_len * k → e ≡ since (chan_of (part a (a + channel_len - a) u))
      → gathered u f k n B e ≡ sources_at (bank_of u f) k
  sources_read n B a e d b p h =
      rw (d, b, h, p, width (base N + channel_len * k) channel_len) sources-are

pub block-below : (n k : ℕ) → k < n → k / block_channels < blocks n
block-below n k h = omega arith
