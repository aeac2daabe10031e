-- What the bytes of a hop say, of which the first `got` could be read: what it is, and the values of so many channels.
use Rattle.std.specs.Prelude.{List, ℕ, ◌+◌, ◌*◌, Float, length, take, Result}
use Rattle.laws.specs.Lists.{tab}
use Rattle.refusals.specs.declared.Refusal.{Refusal}
use Rattle.low_first.specs.LowFirst.{double_at, single_at}
use Rattle.watch_recording.specs.Recording.{step_of}
use Rattle.watch_recording.specs.declared.Hop.{Hop}
use Rattle.watch_recording.specs.declared.Stop.{Stop}

abbrev pub read_of : List ℕ → ℕ → ℕ → ℕ → ℕ → Result Hop (Stop Refusal) × List Float × List Float
read_of hop got n dbs powers =
    (step_of (take got hop) (length hop), tab dbs (λ k. double_at hop (1 + 8 * k)), tab powers (λ k. single_at hop (1 + 8 * n + 4 * k)))
