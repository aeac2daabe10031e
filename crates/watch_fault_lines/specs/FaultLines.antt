-- What is wrong with a recording or a log: each line from behind its name, as the list of its texts.
use Rattle.std.specs.Prelude.{List, [], ◌∷◌, ◌++◌, ℕ}
use Rattle.laws.specs.Texts.{ascii}
use Rattle.watch_text.specs.Text.{decimal}
use Rattle.watch_names.specs.Names.{refusal_name}
use Rattle.watch_figures.specs.Figures.{end_byte}
use Rattle.watch_recording.specs.declared.Place.{Place}

-- where it stands
abbrev pub place_text : ℕ → ℕ → List (List ℕ)
place_text hop byte = ascii ": hop " ∷ decimal hop ∷ ascii ", byte " ∷ decimal byte ∷ ascii ": " ∷ []

-- a number of channels that no bank takes; a recording starts with it
abbrev pub bad_band_line : ℕ → List (List ℕ)
bad_band_line n = place_text 0 0 ++ (decimal n ∷ ascii " channels; there can be 1 to 512\n" ∷ [])

-- how much room is needed, and how much there is
abbrev pub room_text : ℕ → ℕ → ℕ → List (List ℕ)
room_text n needed most =
    decimal n
    ∷ ascii " channels with these lengths need "
    ∷ decimal needed
    ∷ ascii " places in the gate's store; watch has "
    ∷ decimal most
    ∷ ascii ". Take fewer or shorter lengths\n"
    ∷ []

-- told behind the number of channels, before the first hop is read
abbrev pub too_large_line : ℕ → ℕ → ℕ → List (List ℕ)
too_large_line n needed most = place_text 0 2 ++ room_text n needed most

-- a refusal by its number and its words
abbrev pub refusal_text : ℕ → List (List ℕ)
refusal_text r = ascii "refused (" ∷ decimal r ∷ ascii "), " ∷ refusal_name r ∷ ascii "\n" ∷ []

abbrev pub refused_line : ℕ → ℕ → ℕ → List (List ℕ)
refused_line hop byte r = place_text hop byte ++ refusal_text r

abbrev pub bad_flag_line : Place → ℕ → List (List ℕ)
bad_flag_line p flag =
    place_text p.hop p.byte
    ++ (ascii "the flag byte is " ∷ decimal flag ∷ ascii "; only 0 and 1 mean something\n" ∷ [])

-- a recording that ends `got` bytes into a hop; why it ends is told behind this
abbrev pub cut_place : Place → ℕ → List (List ℕ)
cut_place p got = place_text p.hop (end_byte p.byte got)
