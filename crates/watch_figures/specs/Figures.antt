-- The figures of a report that are neither a reading nor a count.
use Rattle.std.specs.Prelude.{ℕ, ◌+◌, ◌*◌, ◌/◌, ◌%◌, ◌^◌, Bool, false, cond, ◌==◌}
use Rattle.std.specs.Float.{nan}
use Rattle.model.specs.declared.Floors.{Floors}

-- a level in thousandths of a dB, of eighths
abbrev pub thousandths : ℕ → ℕ
thousandths eighths = 125 * eighths

-- a minute has 22,500 hops: a line tells that one more was read
abbrev pub ends_minute : ℕ → Bool
ends_minute hop = cond (hop == 0) false (hop % 22500 == 0)

abbrev pub whole_seconds : ℕ → ℕ
whole_seconds hop = hop / 375

-- the byte at which a recording ends, `got` bytes into the hop at `byte`
abbrev pub end_byte : ℕ → ℕ → ℕ
end_byte byte got = (byte + got) % 2 ^ 64

-- what stands for the floors of a refused reading
abbrev pub no_floors : Floors
no_floors = record { effective = nan; rise = nan; raw = nan }
