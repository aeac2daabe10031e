-- Document 02, R-9: several band segments, a bank and a gate each. "For each segment the history guarantee is about its own accepted calls":
-- demand 3 holds for each segment, whatever is done to the others. The proofs are `apart`, `each-segment`, `all_seen_lem` and `each-can-be-met` in
-- proofs/Segments.antt.
use Rattle.std.specs.Prelude.{◌≡◌, Bool, true, not, cond, ◌&&◌, List, [], ◌∷◌, map, ℕ, ◌*◌, ◌%◌, eqb}
use Rattle.model.specs.Layout.{decimation_hops}
use Rattle.model.specs.Gate.{among}
use Rattle.model.specs.GateCalls.{absent}
use Rattle.model.specs.Demand3.{Call, Stores, Lent, answer, left, rises_of, arguments, left_by, bank_updates, gate_updates, Making, made, Made, SameFloors, Enough, Same}

-- ---- runs

-- "a Relay receiver feeds up to eight banks, each with its gate": the stores of each segment, by its number. How many there are plays no part
abbrev pub Segments : Type 0
Segments = ℕ → Stores

-- a call names its segment; a tick of the dispatcher (its count, the waiting byte, the last served) is lent no store, in whatever role; and anything
-- else may be done to a segment's stores, as making them anew or a remake, after which they hold these
pub data Event : Type 0 where
  on : ℕ → Call → Event
  tick : ℕ → ℕ → ℕ → Event
  anew : ℕ → Stores → Event

-- s for the stores of segment i, the others as they were
abbrev pub put : ℕ → Stores → Segments → Segments
put i s r j = cond (eqb j i) s (r j)

abbrev pub after : Segments → Event → Segments
after r (on i c) = put i (left (r i) c) r
after r (tick count w last) = r
after r (anew i s) = put i s r

abbrev pub after_all : Segments → List Event → Segments
after_all r [] = r
after_all r (e ∷ es) = after_all (after r e) es

-- ---- one segment in a run

-- "its own .. calls"
abbrev pub own : ℕ → List Event → List Call
own i [] = []
own i (on j c ∷ es) = cond (eqb i j) (c ∷ own i es) (own i es)
own i (tick count w last ∷ es) = own i es
own i (anew j s ∷ es) = own i es

-- nothing but these is done to segment i
abbrev pub is_kept : ℕ → List Event → Bool
is_kept i [] = true
is_kept i (on j c ∷ es) = is_kept i es
is_kept i (tick count w last ∷ es) = is_kept i es
is_kept i (anew j s ∷ es) = not (eqb i j) && is_kept i es

-- the calls on segment i in a run, each with the stores that it is lent
abbrev pub lent_in : ℕ → Segments → List Event → List (Stores × Call)
lent_in i r [] = []
lent_in i r (on j c ∷ es) = cond (eqb i j) ((r j, c) ∷ lent_in i (after r (on j c)) es) (lent_in i (after r (on j c)) es)
lent_in i r (tick count w last ∷ es) = lent_in i r es
lent_in i r (anew j s ∷ es) = lent_in i (after r (anew j s)) es

-- the calls of a list, each with the stores that it is lent, where there is no other segment
abbrev pub lent_alone : Stores → List Call → List (Stores × Call)
lent_alone s [] = []
lent_alone s (c ∷ cs) = (s, c) ∷ lent_alone (left s c) cs

-- In a run segment i is as it would be if it were alone: its calls are lent the same, so that they answer and write the same, and leave the same
pub record Apart (i : ℕ) (r : Segments) (es : List Event) : Type 0 where
  pub calls : lent_in i r es ≡ lent_alone (r i) (own i es)
  pub stores : after_all r es i ≡ left_by (r i) (own i es)

abbrev pub AllApart : Type 0
AllApart = (i : ℕ) (r : Segments) (es : List Event) → is_kept i es ≡ true → Apart i r es

-- ---- demand 3 for segment i

-- the same from here on, of segment i in a run from r and in one from t. What `same` says of a list of calls alone holds in the runs, by `one`
-- and `other`
pub record SameIn (k : Making) (a i : ℕ) (r t : Segments) (fs gs : List Event) : Type 0 where
  pub one : Apart i r fs
  pub other : Apart i t gs
  pub same : Same k a (r i) (t i) (own i fs) (own i gs)

abbrev pub EachSegment : Type 0
EachSegment =
    (i : ℕ)
    -- its bank and gate are fresh and of equal settings in both; the other segments hold anything, made by settings of their own or not
    (k : Making) (p q : Lent) → Made k p → Made k q → (r t : Segments) → r i ≡ made k p → t i ≡ made k q
    -- any two runs, in which segment i is changed by its own calls alone, and with the others anything is done
    → (xs ys : List Event) → is_kept i xs ≡ true → is_kept i ys ≡ true
    -- whose numbers of accepted updates of segment i are as demand 3 asks
    → bank_updates (made k p) (own i xs) % decimation_hops ≡ bank_updates (made k q) (own i ys) % decimation_hops
    → ((m : ℕ) → among m k.lengths ≡ true
    → gate_updates (made k p) (own i xs) % (2 * m) ≡ gate_updates (made k q) (own i ys) % (2 * m))
    -- any further runs that agree in what is called on segment i: the ticks and what is done to the others may differ
    → (fs gs : List Event) → is_kept i fs ≡ true → is_kept i gs ≡ true → map arguments (own i fs) ≡ map arguments (own i gs)
    → SameIn k (bank_updates (made k p) (own i xs)) i (after_all r xs) (after_all t ys) fs gs

-- what a call answers, with the stores that it is lent
abbrev pub answer_of : Stores × Call → ℕ
answer_of x = answer x.0 x.1

-- demand 3's words, of the runs themselves
pub record SeenIn (k : Making) (a i : ℕ) (r t : Segments) (fs gs : List Event) : Type 0 where
  -- "the same of its calls are refused, with the same refusals"
  pub refusals : map answer_of (lent_in i r fs) ≡ map answer_of (lent_in i t gs)
  -- "that next call gets the same refusal"
  pub next_refusal : (c d : Call) → arguments c ≡ arguments d → answer (after_all r fs i) c ≡ answer (after_all t gs i) d
  -- "then after it every raw, effective and rise floor is equal for both"
  pub floors : Enough k.n a (r i) (own i fs) → SameFloors k.n (after_all r fs i) (after_all t gs i)
  -- "where early rise is absent, the rises of the gate update or hold that comes next are equal too"
  pub rises : Enough k.n a (r i) (own i fs) → absent k.early ≡ true → (c d : Call) → arguments c ≡ arguments d
      → answer (after_all r fs i) c ≡ 0 → rises_of (after_all r fs i) c ≡ rises_of (after_all t gs i) d

abbrev pub AllSeen : Type 0
AllSeen = (k : Making) (a i : ℕ) (r t : Segments) (fs gs : List Event) → SameIn k a i r t fs gs → SeenIn k a i r t fs gs

-- its conditions can be met, for any segment: there is a set, early rise absent, and a run after which it speaks of the segment's floors and rises
abbrev pub EachCanBeMet : Type 0
EachCanBeMet =
    (i : ℕ)
    → (k : Making) × (p : Lent) × (fs : List Event) × Made k p × (absent k.early ≡ true) × (is_kept i fs ≡ true)
    × Enough k.n 0 (made k p) (own i fs)
