-- R-3, what is claimed of the remembered thresholds: from a fresh gate, every list of calls keeps every pair true, and every judgement is the
-- one that works the ladder out each time. The proofs are `stay-true` and `as-anew` in proofs/Remembered.antt.
use Rattle.std.specs.Prelude.{◌≡◌, List, [], ◌∷◌, ◌⊎◌, ℕ, ◌<◌, get_or}
use Rattle.std.specs.Float.{nan}
use Rattle.model.specs.Numbers.{f0}
use Rattle.model.specs.Gate.{Gate, threshold_of}
use Rattle.model.specs.MapCalls.{map_write_call, gate_update_if, gate_hold_if}
use Rattle.model.specs.WorstCalls.{update_if}
use Rattle.model.specs.Demand3.{Asked, Call, bank, gate, hold, write, Stores, unless_stopped, marks_before, Lent, left, left_by, Making, made, Made}
use Rattle.model.specs.Sets.{gate_in}
use Rattle.model.specs.Anew.{all_seen_anew}

-- "the floor is NaN, or the threshold is the ladder's for that floor + on"
abbrev pub TruePair : Gate → ℕ → Type 0
TruePair g k = (get_or g.used k nan ≡ nan) ⊎ (get_or g.threshold k f0 ≡ threshold_of g (get_or g.used k nan))

pub record PairsTrue (g : Gate) : Type 0 where
  pub pair : (k : ℕ) → k < g.n → TruePair g k

-- "every operation keeps the pair true, starting from a fresh gate"
abbrev pub StayTrue : Type 0
StayTrue = (k : Making) (p : Lent) → Made k p → (cs : List Call) → PairsTrue (gate_in (left_by (made k p) cs))

-- a call's answer, and what its output slices, rise and drop, hold after it
unfoldable pub shown : Stores → Asked → ℕ × List ℕ × List ℕ
shown s (bank c h) = ((update_if c s.bu s.bf s.wu s.wf h).0, [], [])
shown s (gate c h rise drop) =
    let a = gate_update_if c s.bu s.bf s.gu s.gf s.map h rise drop in
    (a.0, a.4, a.5)
shown s (hold c rise drop) =
    let a = gate_hold_if c s.bu s.bf s.gu s.gf s.map rise drop in
    (a.0, a.3, a.4)
shown s (write i v) = ((map_write_call s.gu s.gf s.map i v).0, [], [])

unfoldable pub seen : Stores → Call → ℕ × List ℕ × List ℕ
seen s c = unless_stopped c (λ r. (r, (marks_before c.asked).0, (marks_before c.asked).1)) (shown s c.asked)

abbrev pub all_seen : Stores → List Call → List (ℕ × List ℕ × List ℕ)
all_seen s [] = []
all_seen s (c ∷ cs) = seen s c ∷ all_seen (left s c) cs

-- whatever the calls, refused or not, a fresh set answers and marks as one that remembers nothing
abbrev pub AsAnew : Type 0
AsAnew = (k : Making) (p : Lent) → Made k p → (cs : List Call) → all_seen (made k p) cs ≡ all_seen_anew (made k p) cs
