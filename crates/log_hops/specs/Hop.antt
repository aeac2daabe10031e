-- What the code is lent to write a hop of: the hop of n channels that begins at a place of two slices.
use Rattle.std.specs.Prelude.{Bool, ℕ, ◌+◌, get_or}
use Rattle.log_model.specs.Format.{changed}
use Rattle.log_hops.specs.declared.lent.Pairs.{Pairs}

-- whether the pair of its channel k changed from the hop before, and that pair
abbrev pub marked : Pairs → ℕ → ℕ → Bool
marked s from k = changed s.n s.db.now s.power.now (from + k)

abbrev pub db_bits : Pairs → ℕ → ℕ → ℕ
db_bits s from k = get_or s.db.now (from + k) 0

abbrev pub power_bits : Pairs → ℕ → ℕ → ℕ
power_bits s from k = get_or s.power.now (from + k) 0
