-- The words of a report.
use Rattle.std.specs.Prelude.{Bool, true, false, cond, List, [], ◌∷◌, ℕ, eqb}
use Rattle.laws.specs.Texts.{ascii}
use Rattle.origins.specs.declared.EffectiveOrigin.{EffectiveOrigin}
use Rattle.origins.specs.declared.EffectiveOrigin.TheVariants as E
use Rattle.origins.specs.declared.RiseOrigin.{RiseOrigin}
use Rattle.origins.specs.declared.RiseOrigin.TheVariants as R

-- what became of a channel; true: it came alive
abbrev pub change_name : Bool → List ℕ
change_name true = ascii "  rise  "
change_name false = ascii "  drop  "

abbrev pub state_name : Bool → List ℕ
state_name true = ascii "  alive"
state_name false = ascii "  idle"

-- the text beside a number in a table, or another one
abbrev pub name_in : List (ℕ × List ℕ) → List ℕ → ℕ → List ℕ
name_in [] other n = other
name_in (e ∷ es) other n = cond (eqb n e.0) e.1 (name_in es other n)

-- the changes that were noted of a channel, by bits: 1 a rise, 2 a drop
abbrev pub event_name : ℕ → List ℕ
event_name = name_in ((0, []) ∷ (1, ascii "rise") ∷ (2, ascii "drop") ∷ []) (ascii "rise+drop")

-- document 02's numbers of the refusals, 10 to 16
abbrev pub request_refusal_name : ℕ → List ℕ
request_refusal_name =
    name_in
    ((10, ascii "cut: the log ends in its header or in a hop")
    ∷ (11, ascii "damaged: the log has a channel too many, or one that did not change")
    ∷ (12, ascii "span: 1 to 600 slow hops")
    ∷ (13, ascii "unlike: the logs differ in channels or hops")
    ∷ (14, ascii "segments: no such segment")
    ∷ (15, ascii "address: no such register")
    ∷ (16, ascii "right: not for this role")
    ∷ [])
    (ascii "no refusal has this number")

-- document 01's numbers and words of the refusals, 1 to 9, then those
abbrev pub refusal_name : ℕ → List ℕ
refusal_name r =
    name_in
    ((1, ascii "band: no such number of channels")
    ∷ (2, ascii "store size")
    ∷ (3, ascii "lengths: one to eight of 1 to 375 hops")
    ∷ (4, ascii "level: -100 to 100 dB")
    ∷ (5, ascii "hop size")
    ∷ (6, ascii "garbled: a dB value is not a number on a slow hop")
    ∷ (7, ascii "channel: no such channel")
    ∷ (8, ascii "mismatch")
    ∷ (9, ascii "unsound")
    ∷ [])
    (request_refusal_name r) r

-- where floors come from (document 02, R-4), in its words
abbrev pub effective_name : EffectiveOrigin → List ℕ
effective_name (E.OwnQuartile x) = ascii "own quartile"
effective_name (E.BlockPlus3 x) = ascii "block plus 3"
effective_name (E.Seed x) = ascii "seed"

abbrev pub rise_name : RiseOrigin → List ℕ
rise_name (R.EffectiveFloor x) = ascii "effective floor"
rise_name (R.Block x) = ascii "block"
rise_name (R.Seed x) = ascii "seed"
