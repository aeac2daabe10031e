-- Document 02, R-1: the reader as a record over the log's bytes and its position.
use Rattle.std.specs.Prelude.{ℕ, Option, Result}
use Rattle.refusals.specs.Readings.{some_or}
use Rattle.log_reader.specs.declared.LogReader.{LogReader}

-- the reader after an answer: over the same log, at the place that the answer leaves
abbrev pub advanced : LogReader → Result (Option ℕ) ℕ → LogReader
advanced r answer = record { log = r.log; at = some_or r.at answer }
