-- Document 02, R-12: lists of calls on a map of n channels. Every map that a fresh one comes to is sound, no mark is lost, and reading changes
-- nothing. The proofs are `reached` and `none-lost` in proofs/MapReach.antt; `write_does` and those beside it say there that each call does its
-- step, and MapSets.antt has the lists of a whole set.
use Rattle.std.specs.Prelude.{◌≡◌, Bool, true, false, ◌&&◌, ◌||◌, List, [], ◌∷◌, ◌++◌, ℕ, ◌+◌, ◌/◌, ◌%◌, ◌<◌, eqb, length}
use Rattle.laws.specs.Bits.{bit_at, width}
use Rattle.laws.specs.Tests.{differ, first}
use Rattle.model.specs.GateCalls.{or_else}
use Rattle.model.specs.Map.{map_long, rise_flag, drop_flag, sound_map, fresh_map, marked, marks_set, written}
use Rattle.model.specs.MapCalls.{map_refusal, address_refusal, unless_refused}

-- ---- calls

-- an update or a hold that carries the map, by the marks that it writes; a write of a value at an address; a read of an address; the wire
pub data MapCall : Type 0 where
  marks : List ℕ → List ℕ → MapCall
  writes : ℕ → ℕ → MapCall
  reads : ℕ → MapCall
  wires : MapCall

-- the map, then 5: the marks aren't n long
unfoldable pub marks_refusal : ℕ → List ℕ → ℕ → ℕ → ℕ
marks_refusal n m rise drop = or_else (map_refusal n m) (first (differ rise n || differ drop n) 5 0)

-- what a call answers, 0 or its refusal, and the map that it leaves: "reading changes nothing", nor does the wire
unfoldable pub map_step : ℕ → List ℕ → MapCall → ℕ × List ℕ
map_step n m (marks rise drop) = unless_refused (marks_refusal n m (length rise) (length drop)) (marks_set n m rise drop) m
map_step n m (writes a v) = unless_refused (address_refusal n m a) (written n m a v) m
map_step n m (reads a) = (address_refusal n m a, m)
map_step n m wires = (map_refusal n m, m)

abbrev pub map_answer : ℕ → List ℕ → MapCall → ℕ
map_answer n m c = (map_step n m c).0

abbrev pub map_left : ℕ → List ℕ → MapCall → List ℕ
map_left n m c = (map_step n m c).1

-- a list of calls, each lent the map as the call before left it
abbrev pub map_left_by : ℕ → List ℕ → List MapCall → List ℕ
map_left_by n m [] = m
map_left_by n m (c ∷ cs) = map_left_by n (map_left n m c) cs

-- ---- sound

pub record IsMap (n : ℕ) (m : List ℕ) : Type 0 where
  pub long : length m ≡ map_long n
  pub sound : sound_map n m ≡ true

abbrev pub Reached : Type 0
Reached = (n : ℕ) (cs : List MapCall) → IsMap n (map_left_by n (fresh_map n) cs)

-- ---- no mark is lost

-- both kinds of flag: the flag of channel k, the address of its byte, the marks that set it
pub data Kind : Type 0 where
  rises : Kind
  drops : Kind

abbrev pub flag_of : Kind → ℕ → List ℕ → ℕ → Bool
flag_of rises n m k = rise_flag n m k
flag_of drops n m k = drop_flag n m k

abbrev pub address_of : Kind → ℕ → ℕ → ℕ
address_of rises n k = k / 8
address_of drops n k = width n + k / 8

abbrev pub marks_in : Kind → List ℕ → List ℕ → List ℕ
marks_in rises rise drop = rise
marks_in drops rise drop = drop

-- an accepted call marks channel k
abbrev pub marks_it : Kind → ℕ → ℕ → List ℕ → MapCall → Bool
marks_it g n k m (marks rise drop) = eqb (map_answer n m (marks rise drop)) 0 && marked (marks_in g rise drop) k
marks_it g n k m (writes a v) = false
marks_it g n k m (reads a) = false
marks_it g n k m wires = false

-- an accepted call clears its flag
abbrev pub clears_it : Kind → ℕ → ℕ → List ℕ → MapCall → Bool
clears_it g n k m (marks rise drop) = false
clears_it g n k m (writes a v) = eqb (map_answer n m (writes a v)) 0 && (eqb a (address_of g n k) && bit_at v (k % 8))
clears_it g n k m (reads a) = false
clears_it g n k m wires = false

-- some call of the list clears it
abbrev pub cleared_by : Kind → ℕ → ℕ → List ℕ → List MapCall → Bool
cleared_by g n k m [] = false
cleared_by g n k m (c ∷ cs) = clears_it g n k m c || cleared_by g n k (map_left n m c) cs

-- a call of the list marks channel k, and none after it clears the flag
pub record MarkedSince (g : Kind) (n k : ℕ) (m : List ℕ) (cs : List MapCall) : Type 0 where
  pub before : List MapCall
  pub it : MapCall
  pub after : List MapCall
  pub all : cs ≡ before ++ it ∷ after
  pub marks : marks_it g n k (map_left_by n m before) it ≡ true
  pub kept : cleared_by g n k (map_left n (map_left_by n m before) it) after ≡ false

-- each from the other
pub record Exactly (A B : Type 0) : Type 0 where
  pub to : A → B
  pub from : B → A

-- a flag is up exactly if its channel was marked since the flag was last cleared
abbrev pub NoneLost : Type 0
NoneLost =
    (g : Kind) (n k : ℕ) (cs : List MapCall) → k < n
    → Exactly (flag_of g n (map_left_by n (fresh_map n) cs) k ≡ true) (MarkedSince g n k (fresh_map n) cs)
