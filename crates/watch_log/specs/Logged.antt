-- What the bytes of a hop of a log say, behind the log's header: by the answer of the log's reader.
use Rattle.std.specs.Prelude.{false, cond, List, ℕ, eqb, Float, get_or, Option, Some, None, Result, Ok, Err}
use Rattle.std.specs.Float.{binary32, binary64}
use Rattle.std.specs.Float.Ieee.{of_bits}
use Rattle.laws.specs.Lists.{tab}
use Rattle.refusals.specs.declared.Refusal.{Refusal}
use Rattle.refusals.specs.Numbers.{number_of}
use Rattle.watch_recording.specs.Recording.{whole}
use Rattle.watch_recording.specs.declared.Hop.{Hop}
use Rattle.watch_recording.specs.declared.Stop.{Stop}
use Rattle.watch_recording.specs.declared.Stop.TheVariants.{End, Cut, Refused}

-- a refusal of a hop of which so many bytes could be read: 10 is that it is cut
abbrev pub refused_by : Refusal → ℕ → Stop Refusal
refused_by r got = cond (eqb (number_of r) 10) (Cut got) (Refused r)

-- a log has no flag for static
abbrev pub step_by : Result (Option ℕ) Refusal → ℕ → Result Hop (Stop Refusal)
step_by (Ok (Some next)) got = whole false got
step_by (Ok None) got = Err End
step_by (Err r) got = Err (refused_by r got)

-- what it is, the bit patterns of the channels, and the floats whose bits they are, of so many channels
unfoldable pub logged_of : Result (Option ℕ) ℕ × List ℕ × List ℕ → ℕ → ℕ → Result (Option ℕ) ℕ × List ℕ × List ℕ × List Float × List Float
logged_of a dbs powers =
    (a.0, a.1, a.2, tab dbs (λ k. of_bits binary64 (get_or a.1 k 0)), tab powers (λ k. of_bits binary32 (get_or a.2 k 0)))
