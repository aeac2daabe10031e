-- What a line shows of the bank and the gate: readings, by channel.
use Rattle.std.specs.Prelude.{Bool, true, false, List, [], ◌∷◌, ℕ, Float, Option, Some, None, Result}
use Rattle.std.specs.Float.{nan}
use Rattle.laws.specs.Texts.{ascii}
use Rattle.model.specs.declared.Floors.{Floors}
use Rattle.model.specs.Readings.{floors_reading}
use Rattle.model.specs.GateCalls.{smoothed_reading}
use Rattle.model.specs.WorstCalls.{worst_reading}
use Rattle.refusals.specs.declared.Refusal.{Refusal}
use Rattle.refusals.specs.Numbers.{numbered}
use Rattle.refusals.specs.Readings.{value_or}
use Rattle.origins.specs.declared.Explanation.{Explanation}
use Rattle.origins.specs.Origins.{explained}
use Rattle.watch_origins.specs.Told.{no_explanation}
use Rattle.watch_text.specs.Text.{right}
use Rattle.watch_floats.specs.Floats.{power_text}
use Rattle.watch_figures.specs.Figures.{no_floors}
use Rattle.watch_worst.specs.Told.{worst_text}

-- a refused reading shows as no number
abbrev pub floors_shown : List ℕ → List Float → ℕ → Floors
floors_shown bu bf k = value_or no_floors (floors_reading bu bf k)

abbrev pub smoothed_shown : List ℕ → List Float → ℕ → Float
smoothed_shown gu gf k = value_or nan (smoothed_reading gu gf k)

abbrev pub explanation_shown : List ℕ → List Float → ℕ → Explanation
explanation_shown bu bf k = value_or no_explanation (explained bu bf k)

-- what a hop is held against, where channel k is to be explained
abbrev pub explanation_before : Option ℕ → List ℕ → List Float → Explanation
explanation_before None bu bf = no_explanation
explanation_before (Some k) bu bf = explanation_shown bu bf k

-- the reading of the worst floor of late (document 02, R-6), kept over so many slow hops; where it is not kept there is none
abbrev pub worst_shown : Option ℕ → List ℕ → List Float → List ℕ → List Float → ℕ → Option (Result (Option Float) ℕ)
worst_shown None bu bf wu wf k = None
worst_shown (Some w) bu bf wu wf k = Some (worst_reading bu bf wu wf k)

-- what was read, by this paper's number of a refusal
abbrev pub worst_told : Option (Result (Option Float) Refusal) → Option (Result (Option Float) ℕ)
worst_told None = None
worst_told (Some x) = Some (numbered x)

-- in a row of CSV, where it is kept
abbrev pub worst_cell : Option (Result (Option Float) ℕ) → List (List ℕ)
worst_cell None = []
worst_cell (Some r) = ascii "," ∷ worst_text r ∷ []

-- the spectral reference, at the right of a column, where it is asked for
abbrev pub reference_column : Bool → Result Float ℕ → List ℕ
reference_column true r = right 11 (power_text (value_or nan r))
reference_column false r = []

-- in a row of CSV, where it is asked for: empty for a channel that is idle
abbrev pub reference_cell : Bool → Bool → Result Float ℕ → List (List ℕ)
reference_cell false alive r = []
reference_cell true false r = ascii "," ∷ []
reference_cell true true r = ascii "," ∷ power_text (value_or nan r) ∷ []
