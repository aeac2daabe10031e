-- Demand 3, stated: "Nobody who can choose what a set heard earlier can change its floors afterwards, nor its rises without early rise."
-- The words in quotes are the customer's and document 01's, and at a request's number document 02's. The proof is `demand-3` in proofs/Demand3.antt.
-- A remake (R-14) stands in none of its lists: `Season` in Remake.antt says the same of a set whose gate was remade in mid-season.
-- A run of hops stands in them as its single calls: `calls_of` in Runs.antt of the crate run_model; of lists with runs `WithRuns` in Fed.antt there.
use Rattle.std.specs.Prelude.{◌≡◌, Bool, true, false, cond, List, [], ◌∷◌, ◌++◌, map, ℕ, zero, suc, ◌*◌, ◌%◌, ◌≤◌, ◌<◌, eqb, length, ℤ, Float}
use Rattle.std.specs.Float.Ieee.{le}
use Rattle.laws.specs.Tests.{all_below}
use Rattle.model.specs.Layout.{hist_min, decimation_hops, settling_hops}
use Rattle.model.specs.Bank.{FloorBank, Hop, blocks, block, median}
use Rattle.model.specs.Readings.{raw_at, effective_at, rise_at}
use Rattle.model.specs.Stores.{bank_of}
use Rattle.model.specs.Calls.{bank_new_call}
use Rattle.model.specs.Gate.{among}
use Rattle.model.specs.GateCalls.{GateHop, absent, gate_new_call}
use Rattle.model.specs.MapCalls.{map_new_call, map_write_call, gate_update_if, gate_hold_if}
use Rattle.model.specs.WorstCalls.{worst_new_call, update_if}
use Rattle.roles.specs.Rights.{Exported, bank_update, bank_update_worst, gate_update, gate_update_map, gate_hold, gate_hold_map, map_write, as_role}

-- ---- calls

-- "bank updates, gate updates and holds, refused ones included": slices of any lengths. The two lists of a gate update and of a hold are what
-- its output slices, rise and drop, held before. R-12: they carry the map (true) or don't; and writes to the map, of a value at an address. R-6: a
-- bank update carries the store of the worst floor of late (true) or doesn't
pub data Asked : Type 0 where
  bank : Bool → Hop → Asked
  gate : Bool → GateHop → List ℕ → List ℕ → Asked
  hold : Bool → List ℕ → List ℕ → Asked
  write : ℕ → ℕ → Asked

-- R-14: a call is asked for by someone, in a role
pub record Call : Type 0 where
  pub role : ℕ
  pub asked : Asked

abbrev pub asked_by : ℕ → Asked → Call
asked_by role a = record { role = role; asked = a }

-- a call's arguments "apart from the lent stores and what the outputs held before"
pub data AskedWith : Type 0 where
  bank : Bool → Hop → AskedWith
  gate : Bool → GateHop → ℕ → ℕ → AskedWith
  hold : Bool → ℕ → ℕ → AskedWith
  write : ℕ → ℕ → AskedWith

abbrev pub with : Asked → AskedWith
with (bank c h) = bank c h
with (gate c h rise drop) = gate c h (length rise) (length drop)
with (hold c rise drop) = hold c (length rise) (length drop)
with (write i v) = write i v

-- .. and its role
pub record Arguments : Type 0 where
  pub role : ℕ
  pub asked : AskedWith

abbrev pub arguments : Call → Arguments
arguments c = record { role = c.role; asked = with c.asked }

-- what it is exported as: an update has the same right, however its power comes and whatever it holds
abbrev pub exported : AskedWith → Exported
exported (bank true h) = bank_update_worst
exported (bank false h) = bank_update
exported (gate true h rise drop) = gate_update_map
exported (gate false h rise drop) = gate_update
exported (hold true rise drop) = gate_hold_map
exported (hold false rise drop) = gate_hold
exported (write i v) = map_write

-- "a call stopped for lack of a right": with 16, and everything as it was
abbrev pub unless_stopped : {A : Type 0} → Call → (ℕ → A) → A → A
unless_stopped c kept done = as_role (exported (with c.asked)) c.role kept done

-- the lent stores: the bank's and the gate's, with the gate's pairs (R-3), which gate updates and holds change; beside the bank those of the
-- worst floor of late (R-6), which the updates that carry them change; beside the gate its map (R-12), which the calls that carry it change, and
-- writes to it
pub record Stores : Type 0 where
  pub bu : List ℕ
  pub bf : List Float
  pub gu : List ℕ
  pub gf : List Float
  pub wu : List ℕ
  pub wf : List Float
  pub map : List ℕ

-- what is asked for answers, 0 or its refusal, and the stores that it leaves
unfoldable pub does : Stores → Asked → ℕ × Stores
does s (bank c h) =
    let a = update_if c s.bu s.bf s.wu s.wf h in
    (a.0, record { bu = a.1; bf = a.2; gu = s.gu; gf = s.gf; wu = a.3; wf = a.4; map = s.map })
does s (gate c h rise drop) =
    let a = gate_update_if c s.bu s.bf s.gu s.gf s.map h rise drop in
    (a.0, record { bu = s.bu; bf = s.bf; gu = a.1; gf = a.2; wu = s.wu; wf = s.wf; map = a.3 })
does s (hold c rise drop) =
    let a = gate_hold_if c s.bu s.bf s.gu s.gf s.map rise drop in
    (a.0, record { bu = s.bu; bf = s.bf; gu = s.gu; gf = a.1; wu = s.wu; wf = s.wf; map = a.2 })
does s (write i v) =
    let a = map_write_call s.gu s.gf s.map i v in
    (a.0, record { bu = s.bu; bf = s.bf; gu = s.gu; gf = s.gf; wu = s.wu; wf = s.wf; map = a.1 })

-- .. and a call: one that is stopped "doesn't count as accepted in any guarantee"
unfoldable pub step : Stores → Call → ℕ × Stores
step s c = unless_stopped c (λ r. (r, s)) (does s c.asked)

abbrev pub answer : Stores → Call → ℕ
answer s c = (step s c).0

abbrev pub left : Stores → Call → Stores
left s c = (step s c).1

-- what the output slices, rise and drop, held before
abbrev pub marks_before : Asked → List ℕ × List ℕ
marks_before (bank c h) = ([], [])
marks_before (gate c h rise drop) = (rise, drop)
marks_before (hold c rise drop) = (rise, drop)
marks_before (write i v) = ([], [])

-- what rise holds after a gate update or a hold
unfoldable pub rises_done : Stores → Asked → List ℕ
rises_done s (bank c h) = []
rises_done s (gate c h rise drop) = (gate_update_if c s.bu s.bf s.gu s.gf s.map h rise drop).4
rises_done s (hold c rise drop) = (gate_hold_if c s.bu s.bf s.gu s.gf s.map rise drop).3
rises_done s (write i v) = []

unfoldable pub rises_of : Stores → Call → List ℕ
rises_of s c = unless_stopped c (λ _. (marks_before c.asked).0) (rises_done s c.asked)

-- ---- lists of calls: "each call is lent the bank and gate as the call before left them", and the map

abbrev pub left_by : Stores → List Call → Stores
left_by s [] = s
left_by s (c ∷ cs) = left_by (left s c) cs

abbrev pub answers : Stores → List Call → List ℕ
answers s [] = []
answers s (c ∷ cs) = answer s c ∷ answers (left s c) cs

-- "a call is accepted if it isn't refused": the hop of an accepted bank update, and of an accepted gate update
abbrev pub bank_hop : ℕ → AskedWith → List Hop
bank_hop zero (bank c h) = h ∷ []
bank_hop zero (gate c h rise drop) = []
bank_hop zero (hold c rise drop) = []
bank_hop zero (write i v) = []
bank_hop (suc r) c = []

abbrev pub gate_hop : ℕ → AskedWith → List GateHop
gate_hop zero (bank c h) = []
gate_hop zero (gate c h rise drop) = h ∷ []
gate_hop zero (hold c rise drop) = []
gate_hop zero (write i v) = []
gate_hop (suc r) c = []

abbrev pub bank_hops : Stores → List Call → List Hop
bank_hops s [] = []
bank_hops s (c ∷ cs) = bank_hop (answer s c) (arguments c).asked ++ bank_hops (left s c) cs

abbrev pub gate_hops : Stores → List Call → List GateHop
gate_hops s [] = []
gate_hops s (c ∷ cs) = gate_hop (answer s c) (arguments c).asked ++ gate_hops (left s c) cs

-- the numbers of accepted updates
abbrev pub bank_updates : Stores → List Call → ℕ
bank_updates s cs = length (bank_hops s cs)

abbrev pub gate_updates : Stores → List Call → ℕ
gate_updates s cs = length (gate_hops s cs)

-- ---- the slow hop

-- "a median of -140 dB or more in each block"; since R-11 hist_min or more
unfoldable pub loud : ℕ → List Float → Bool
loud n db = all_below (blocks n) (λ i. le hist_min (median (block i db)))

-- The first slow hop of these is loud. "A slow hop there is a bank update before which its bank, since fresh, has accepted a multiple of 15
-- bank updates, 0 included": a is how many were accepted before these
abbrev pub first_slow_loud : ℕ → ℕ → List Hop → Bool
first_slow_loud n a [] = true
first_slow_loud n a (h ∷ hs) = cond (eqb (a % decimation_hops) 0) (loud n h.db) (first_slow_loud n (suc a) hs)

-- ---- a fresh set

-- "equal settings are the same n, window lengths, on, off and early", as making takes them; the bank's n and the gate's may differ
pub record Making : Type 0 where
  pub n : ℕ
  pub gate_n : ℕ
  pub on : ℤ
  pub off : ℤ
  pub early : ℤ
  pub lengths : List ℕ

-- what a set is made from: lent stores that hold anything. R-6: with W, which is no setting: in two sets of equal settings it may differ
pub record Lent : Type 0 where
  pub stores : Stores
  pub W : ℕ

-- what making answers and leaves
unfoldable pub new_bank : Making → Lent → ℕ × List ℕ × List Float
new_bank k p = bank_new_call p.stores.bu p.stores.bf k.n

unfoldable pub new_gate : Making → Lent → ℕ × List ℕ × List Float
new_gate k p = gate_new_call p.stores.gu p.stores.gf k.gate_n k.on k.off k.early k.lengths

-- R-6: "the store starts fresh beside its bank, made for the same n"
unfoldable pub new_worst : Making → Lent → ℕ × List ℕ × List Float
new_worst k p = worst_new_call p.stores.wu p.stores.wf k.n p.W

-- R-12: "a lent map starts fresh beside its gate, made for the same n"
unfoldable pub new_map : Making → Lent → ℕ × List ℕ
new_map k p = map_new_call (new_gate k p).1 (new_gate k p).2 p.stores.map

abbrev pub made : Making → Lent → Stores
made k p =
    record {
      bu = (new_bank k p).1;
      bf = (new_bank k p).2;
      gu = (new_gate k p).1;
      gf = (new_gate k p).2;
      wu = (new_worst k p).1;
      wf = (new_worst k p).2;
      map = (new_map k p).1;
    }

-- none is refused. A set that never carries R-6's store or R-12's map has none: any W, and any stores and bytes of the right lengths stand for them,
-- since they are not touched
pub record Made (k : Making) (p : Lent) : Type 0 where
  pub bank : (new_bank k p).0 ≡ 0
  pub gate : (new_gate k p).0 ≡ 0
  pub worst : (new_worst k p).0 ≡ 0
  pub map : (new_map k p).0 ≡ 0

-- ---- the claim

abbrev pub bank_in : Stores → FloorBank
bank_in s = bank_of s.bu s.bf

-- "every raw, effective and rise floor is equal for both"
pub record SameFloors (n : ℕ) (s t : Stores) : Type 0 where
  pub raw : (k : ℕ) → k < n → raw_at (bank_in s) k ≡ raw_at (bank_in t) k
  pub effective : (k : ℕ) → k < n → effective_at (bank_in s) k ≡ effective_at (bank_in t) k
  pub rise : (k : ℕ) → k < n → rise_at (bank_in s) k ≡ rise_at (bank_in t) k

-- what is asked of a further list fs after s, a bank updates having been accepted before it
pub record Enough (n a : ℕ) (s : Stores) (fs : List Call) : Type 0 where
  -- "if it has at least 3,750 accepted bank updates"
  pub enough_bank_updates : settling_hops ≤ bank_updates s fs
  -- "and 1,500 accepted gate updates"
  pub enough_gate_updates : 1500 ≤ gate_updates s fs
  -- "and its first accepted slow hop has a median of -140 dB or more in each block"; since R-11 hist_min or more
  pub slow_hop : first_slow_loud n a (bank_hops s fs) ≡ true

-- the same from here on, of a set that is in s and one that is in t
pub record Same (k : Making) (a : ℕ) (s t : Stores) (fs gs : List Call) : Type 0 where
  -- "the same of its calls are refused, with the same refusals"
  pub refusals : answers s fs ≡ answers t gs
  -- "that next call gets the same refusal"
  pub next_refusal : (c d : Call) → arguments c ≡ arguments d → answer (left_by s fs) c ≡ answer (left_by t gs) d
  -- "then after it every raw, effective and rise floor is equal for both"
  pub floors : Enough k.n a s fs → SameFloors k.n (left_by s fs) (left_by t gs)
  -- "where early rise is absent, the rises of the gate update or hold that comes next are equal too"
  pub rises : Enough k.n a s fs → absent k.early ≡ true → (c d : Call) → arguments c ≡ arguments d → answer (left_by s fs) c ≡ 0
      → rises_of (left_by s fs) c ≡ rises_of (left_by t gs) d

abbrev pub Demand3 : Type 0
Demand3 =
    -- "each from a fresh bank and gate of equal settings", and R-6's store with a W of its own
    (k : Making) (p q : Lent) → Made k p → Made k q
    -- "Take any two lists of bank updates, gate updates and holds, refused ones included": from dB, or from linear power alone (R-13), whose hop has
    -- the dB that are worked out; a bank update carrying R-6's store or not, a gate update or hold R-12's map or not; and writes to the map. Each in a
    -- role (R-14): one that lacks the right is refused with 16 and counts as accepted nowhere. No remake stands in them
    → (xs ys : List Call)
    -- "whose numbers of accepted bank updates are equal modulo 15"
    → bank_updates (made k p) xs % decimation_hops ≡ bank_updates (made k q) ys % decimation_hops
    -- "and of accepted gate updates modulo twice every window length"
    → ((m : ℕ) → among m k.lengths ≡ true → gate_updates (made k p) xs % (2 * m) ≡ gate_updates (made k q) ys % (2 * m))
    -- "Whatever further list of these calls follows both": with the same arguments, the role among them
    → (fs gs : List Call) → map arguments fs ≡ map arguments gs
    → Same k (bank_updates (made k p) xs) (left_by (made k p) xs) (left_by (made k q) ys) fs gs
