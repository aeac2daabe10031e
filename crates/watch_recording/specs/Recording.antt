-- A recording: n in two bytes, then for each hop a flag byte, n dB values and n powers, the lowest byte of each first.
use Rattle.std.specs.Prelude.{Bool, ℕ, ◌+◌, ◌*◌, ◌%◌, ◌^◌, cond, List, length, ◌==◌, nat_lt, Result, Ok, Err}
use Rattle.low_first.specs.LowFirst.{byte_at}
use Rattle.refusals.specs.declared.Refusal.{Refusal}
use Rattle.watch_recording.specs.declared.Place.{Place}
use Rattle.watch_recording.specs.declared.Hop.{Hop}
use Rattle.watch_recording.specs.declared.Stop.{Stop}
use Rattle.watch_recording.specs.declared.Stop.TheVariants.{End, Cut, BadFlag}

-- the bytes of a hop of n channels
abbrev pub hop_bytes : ℕ → ℕ
hop_bytes n = 1 + 12 * n

-- a whole hop of so many bytes, with static heard or not
abbrev pub whole : Bool → ℕ → Result Hop (Stop Refusal)
whole heard size = Ok (record { is_static = heard; size = size })

-- what was read where a hop of `size` bytes is due. A flag that means nothing is told before a missing end: it is nearer
abbrev pub step_of : List ℕ → ℕ → Result Hop (Stop Refusal)
step_of l size =
    cond (length l == 0) (Err End)
    (cond (nat_lt 1 (byte_at l 0)) (Err (BadFlag (byte_at l 0)))
    (cond (nat_lt (length l) size) (Err (Cut (length l))) (whole (byte_at l 0 == 1) size)))

-- a hop's number and its first byte
abbrev pub place_at : ℕ → ℕ → Place
place_at h b = record { hop = h; byte = b }

-- behind a hop of so many bytes
abbrev pub place_after : Place → ℕ → Place
place_after p size = place_at ((p.hop + 1) % 2 ^ 64) ((p.byte + size) % 2 ^ 64)
