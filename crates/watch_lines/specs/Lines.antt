-- The lines of a report, each as the list of its columns.
use Rattle.std.specs.Prelude.{Bool, false, List, [], ◌∷◌, ◌++◌, ℕ, Float, Option, Some, None, Result}
use Rattle.laws.specs.Texts.{ascii}
use Rattle.laws.specs.Lists.{one}
use Rattle.model.specs.declared.Floors.{Floors}
use Rattle.refusals.specs.declared.Refusal.{Refusal}
use Rattle.refusals.specs.Numbers.{numbered}
use Rattle.watch_text.specs.Text.{Written, put_all, right, decimal, thousandths, millis}
use Rattle.watch_floats.specs.Floats.{db_text}
use Rattle.watch_names.specs.Names.{change_name, state_name, event_name, effective_name, rise_name}
use Rattle.origins.specs.Origins.{effective_db, rise_db}
use Rattle.origins.specs.declared.Explanation.{Explanation}
use Rattle.watch_worst.specs.Told.{worst_text}

-- one text after another
unfoldable pub put_texts : Written → List (List ℕ) → Written
put_texts w [] = w
put_texts w (t ∷ ts) = put_texts (put_all w t) ts

abbrev pub seconds_text : ℕ → List ℕ
seconds_text hops = thousandths false (millis hops)

-- a change: hop, seconds, channel, what became of it, smoothed level, effective floor, rise floor
abbrev pub change_line : ℕ → ℕ → Bool → Float → Floors → List (List ℕ)
change_line hop k alive smoothed f =
    right 8 (decimal hop)
    ∷ right 10 (seconds_text hop)
    ∷ right 9 (decimal k)
    ∷ change_name alive
    ∷ right 11 (db_text smoothed)
    ∷ right 11 (db_text f.effective)
    ∷ right 12 (db_text f.rise)
    ∷ []

-- each after a comma
abbrev pub more : List (List ℕ) → List (List ℕ)
more [] = []
more (t ∷ ts) = ascii "," ∷ t ∷ more ts

-- a row of CSV, in its parts: hop, seconds, channel
abbrev pub row_start : ℕ → ℕ → List (List ℕ)
row_start hop k = decimal hop ∷ more (seconds_text hop ∷ decimal k ∷ [])

-- the hop's level, the smoothed level, raw, effective and rise floor
abbrev pub row_levels : Float → Float → Floors → List (List ℕ)
row_levels db smoothed f =
    more (db_text db ∷ db_text smoothed ∷ db_text f.raw ∷ db_text f.effective ∷ db_text f.rise ∷ [])

-- 1 where the channel is alive, what was noted of it
abbrev pub row_end : Bool → ℕ → List (List ℕ)
row_end alive event = more (decimal (one alive) ∷ event_name event ∷ [])

-- where the effective and the rise floor come from (document 02, R-4)
abbrev pub row_origins : Explanation → List (List ℕ)
row_origins x = more (effective_name x.effective ∷ rise_name x.rise ∷ [])

abbrev pub row_line : ℕ → ℕ → Float → Float → Floors → Bool → ℕ → Explanation → List (List ℕ)
row_line hop k db smoothed f alive event x = row_start hop k ++ (row_levels db smoothed f ++ (row_end alive event ++ row_origins x))

-- an explanation: hop, seconds, effective floor and its origin, rise floor and its origin
abbrev pub explain_line : ℕ → Explanation → List (List ℕ)
explain_line hop x =
    right 8 (decimal hop)
    ∷ right 10 (seconds_text hop)
    ∷ right 11 (db_text (effective_db x.effective))
    ∷ right 16 (effective_name x.effective)
    ∷ right 12 (db_text (rise_db x.rise))
    ∷ right 17 (rise_name x.rise)
    ∷ []

-- what stands above the channels at the end
abbrev pub total_line : ℕ → List (List ℕ)
total_line hops =
    ascii "\nAfter " ∷ decimal hops ∷ ascii " hops, " ∷ seconds_text hops ∷ ascii " s, floors in dB:\n\n" ∷ []

-- a channel at the end, in its parts: channel, raw, effective and rise floor
abbrev pub channel_floors : ℕ → Floors → List (List ℕ)
channel_floors k f =
    right 7 (decimal k)
    ∷ right 11 (db_text f.raw)
    ∷ right 11 (db_text f.effective)
    ∷ right 12 (db_text f.rise)
    ∷ []

-- the worst floor of late, where it is kept (document 02, R-6)
abbrev pub worst_column : Option (Result (Option Float) Refusal) → List (List ℕ)
worst_column (Some r) = right 15 (worst_text (numbered r)) ∷ []
worst_column None = []

-- where the effective floor comes from, and where the rise floor
abbrev pub origin_columns : Explanation → List (List ℕ)
origin_columns x = right 16 (effective_name x.effective) ∷ right 17 (rise_name x.rise) ∷ []

-- seconds alive, rises, whether it is alive
abbrev pub channel_end : ℕ → ℕ → Bool → List (List ℕ)
channel_end aliveHops rises alive = right 10 (seconds_text aliveHops) ∷ right 7 (decimal rises) ∷ state_name alive ∷ []

abbrev pub channel_line : ℕ → Floors → Option (Result (Option Float) Refusal) → Explanation → ℕ → ℕ → Bool → List (List ℕ)
channel_line k f worst x aliveHops rises alive =
    channel_floors k f ++ (worst_column worst ++ (origin_columns x ++ channel_end aliveHops rises alive))
