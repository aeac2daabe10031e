-- Document 01, "Readings", the bank's half.
use Rattle.std.specs.Prelude.{◌≡◌, cond, false, List, ℕ, ◌+◌, ◌-◌, ◌*◌, ◌/◌, ◌%◌, eqb, get_or, Float, Result}
use Rattle.std.specs.Borrow.{Bor}
use Rattle.std.specs.Float.{inf}
use Rattle.laws.specs.Lists.{part}
use Rattle.model.specs.Numbers.{f0, fmin}
use Rattle.model.specs.Layout.{ring_len, channel_len, block_channels}
use Rattle.model.specs.Ring.{since}
use Rattle.model.specs.Bank.{FloorBank, channel, effective_floor}
use Rattle.model.specs.Stores.{base, bank_of}
use Rattle.refusals.specs.Readings.{reading}
use Rattle.model.specs.Refusals.{read_refusal}
use Rattle.model.specs.declared.Floors.{Floors}

-- ---- the values, of a bank

-- the effective floor is worked out from the stored usable, block floor and seed
unfoldable pub effective_at : FloorBank → ℕ → Float
effective_at b k =
    effective_floor (get_or b.usable k f0) (get_or b.block_floor (k / block_channels) f0) (since (channel b k)) (get_or b.seeds (k / block_channels) 0)
    (get_or b.seed_sum (k / block_channels) f0)

abbrev pub raw_at : FloorBank → ℕ → Float
raw_at b k = get_or b.raw k f0

abbrev pub rise_at : FloorBank → ℕ → Float
rise_at b k = get_or b.rise k f0

-- the channels at distance d below and above c, wrapping, of n
abbrev pub below : ℕ → ℕ → ℕ → ℕ
below n c d = (c + 4 * n - d) % n

abbrev pub above : ℕ → ℕ → ℕ → ℕ
above n c d = (c + d) % n

-- least smoothed linear power of channels c±2, c±3, c±4, wrapping, NaN passed over, +infinity if all are NaN
unfoldable pub reference_at : FloorBank → ℕ → Float
reference_at b c =
    let s : ℕ → Float = λ k. get_or b.smooth k f0 in
    let n = b.n in
    fmin (fmin (fmin (fmin (fmin (fmin (inf false) (s (below n c 4))) (s (below n c 3))) (s (below n c 2))) (s (above n c 2))) (s (above n c 3)))
    (s (above n c 4))

-- ---- the readings: a value, or a refusal number

unfoldable pub raw_reading : List ℕ → List Float → ℕ → Result Float ℕ
raw_reading u f k = reading (read_refusal u f k) (raw_at (bank_of u f) k)

unfoldable pub effective_reading : List ℕ → List Float → ℕ → Result Float ℕ
effective_reading u f k = reading (read_refusal u f k) (effective_at (bank_of u f) k)

unfoldable pub rise_reading : List ℕ → List Float → ℕ → Result Float ℕ
rise_reading u f k = reading (read_refusal u f k) (rise_at (bank_of u f) k)

unfoldable pub reference_reading : List ℕ → List Float → ℕ → Result Float ℕ
reference_reading u f k = reading (read_refusal u f k) (reference_at (bank_of u f) k)

-- ---- the three floors at once

unfoldable pub floors_at : FloorBank → ℕ → Floors
floors_at b k = record { effective = effective_at b k; rise = rise_at b k; raw = raw_at b k }

unfoldable pub floors_reading : List ℕ → List Float → ℕ → Result Floors ℕ
floors_reading u f k = reading (read_refusal u f k) (floors_at (bank_of u f) k)

-- ---- the ring of channel k, as the very part of the lent store that it occupies

-- where the part starts and how long it is: the ring, or the empty part at the start where the reading is refused
unfoldable pub ring_start : List ℕ → List Float → ℕ → ℕ
ring_start u f k = cond (eqb (read_refusal u f k) 0) (base (get_or u 0 0) + channel_len * k) 0

unfoldable pub ring_length : List ℕ → List Float → ℕ → ℕ
ring_length u f k = cond (eqb (read_refusal u f k) 0) ring_len 0

-- r is the very part of b that starts at a and is w long: the same block of memory, a entries of two bytes on, and what stands there
pub record VeryPart (b r : Bor (List ℕ)) (a w : ℕ) : Type 0 where
  pub memory : r.ref_ptr.0 ≡ b.ref_ptr.0
  pub offset : r.ref_ptr.1 ≡ b.ref_ptr.1 + 2 * a
  pub holds : r.now ≡ part a w b.now
