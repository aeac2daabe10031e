-- What the C interface answers and writes for an explanation (document 02, R-4): the numbers and the dB of both origins are written only where
-- the answer is 0.
use Rattle.std.specs.Prelude.{ℕ, Float, Result, Ok, Err}
use Rattle.origins.specs.Origins.{effective_number, effective_db, rise_number, rise_db}
use Rattle.origins.specs.declared.Explanation.{Explanation}

abbrev pub explanation_written : Explanation → ℕ × ℕ × Float × ℕ × Float
explanation_written x = (0, effective_number x.effective, effective_db x.effective, rise_number x.rise, rise_db x.rise)

-- the answer, and what the effective floor's origin and dB and the rise floor's become, that were these
unfoldable pub explained_answered : ℕ → Float → ℕ → Float → Result Explanation ℕ → ℕ × ℕ × Float × ℕ × Float
explained_answered o e p s (Ok x) = explanation_written x
explained_answered o e p s (Err r) = (r, o, e, p, s)
