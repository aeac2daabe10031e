-- Four tallies in one list, one after another: what they come to together.
use Rattle.std.specs.Prelude.{◌≡◌, List, ℕ, ◌+◌, ◌*◌, ◌<◌, length, get_or, take}
use Rattle.laws.specs.Lists.{occ}
use Rattle.model.specs.Layout.{bins}

abbrev pub lane_sum : List ℕ → ℕ → ℕ
lane_sum t b = get_or t b 0 + get_or t (bins + b) 0 + get_or t (2 * bins + b) 0 + get_or t (3 * bins + b) 0

-- together they have counted the first i entries of l
pub record Tallied (i : ℕ) (l t : List ℕ) : Type 0 where
  pub long : length t ≡ 4 * bins
  pub sums : (b : ℕ) → b < bins → lane_sum t b ≡ occ b (take i l)
