-- The worst floor of late (document 02, R-6) as a report tells it. A refused reading shows as no number.
use Rattle.std.specs.Prelude.{List, ℕ, Option, Some, None, Result, Ok, Err, Float}
use Rattle.std.specs.Float.{nan}
use Rattle.laws.specs.Texts.{ascii}
use Rattle.watch_floats.specs.Floats.{db_text}

abbrev pub worst_text : Result (Option Float) ℕ → List ℕ
worst_text (Ok (Some x)) = db_text x
worst_text (Ok None) = ascii "none yet"
worst_text (Err r) = db_text nan
