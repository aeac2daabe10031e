-- Document 02, R-8: what holds of two logs combined.
use Rattle.std.specs.Prelude.{◌≡◌, List, ◌++◌, ℕ, ◌≤◌, length, take, drop, None, Ok}
use Rattle.log_model.specs.Whole.{Below, read_log}
use Rattle.combine_model.specs.Combined.{db_chosen, power_chosen, combined}

-- a log that reads to its end, combined with itself, is that same log, byte for byte
abbrev pub WithItself : Type 0
WithItself = (a log : List ℕ) → Below 256 a → (read_log a).0 ≡ Ok None → length a ≤ length log
    → combined a a log ≡ (Ok (length a), a ++ drop (length a) log)

-- a result reads to its end, without a refusal, as the selection of what the two read as
abbrev pub ReadsAsChosen : Type 0
ReadsAsChosen = (a b log : List ℕ) (len : ℕ) (out : List ℕ) → Below 256 a → Below 256 b → combined a b log ≡ (Ok len, out)
    → read_log (take len out) ≡ (Ok None, db_chosen a b, power_chosen a b)

-- so a result is never refused by the reader
abbrev pub NeverRefused : Type 0
NeverRefused = (a b log : List ℕ) (len : ℕ) (out : List ℕ) → Below 256 a → Below 256 b → combined a b log ≡ (Ok len, out)
    → (read_log (take len out)).0 ≡ Ok None
