-- Demand 3 where runs of hops stand in its lists, beside single calls: "a run is the list of its hops' calls", so it speaks of the calls that a list
-- of both is. The words in quotes are those of Demand3.antt. The proofs are in proofs/Histories.antt.
use Rattle.std.specs.Prelude.{◌≡◌, true, cond, List, [], ◌∷◌, ◌++◌, map, ℕ, ◌*◌, ◌%◌, length, Float}
use Rattle.model.specs.Layout.{decimation_hops}
use Rattle.model.specs.Gate.{among}
use Rattle.model.specs.GateCalls.{absent}
use Rattle.model.specs.Demand3.{Call, Arguments, arguments, Stores, answer, left_by, bank_updates, gate_updates, Making, Lent, made, Made, Enough, Same}
use Rattle.roles.specs.Rights.{receive, may}
use Rattle.run_model.specs.Runs.{Run, rises_by}
use Rattle.run_model.specs.Claims.{refusal_on, calls_on, is_heard, run_calls}

-- ---- what a set is fed

-- a single call, or a run by someone in a role
pub data Fed : Type 0 where
  single : Call → Fed
  run : ℕ → Run → Fed

-- what a set in s answers
abbrev pub fed_answer : Stores → Fed → ℕ
fed_answer s (single c) = answer s c
fed_answer s (run role r) = cond (may receive role) (refusal_on s r) 16

-- the calls that it is to a set in s
abbrev pub fed_calls : Stores → Fed → List Call
fed_calls s (single c) = c ∷ []
fed_calls s (run role r) = run_calls role s r

-- ---- lists of these: each is lent the stores as the one before left them

abbrev pub calls_by : Stores → List Fed → List Call
calls_by s [] = []
calls_by s (x ∷ xs) = fed_calls s x ++ calls_by (left_by s (fed_calls s x)) xs

abbrev pub answers_by : Stores → List Fed → List ℕ
answers_by s [] = []
answers_by s (x ∷ xs) = fed_answer s x ∷ answers_by (left_by s (fed_calls s x)) xs

-- ---- arguments "apart from the lent stores and what the outputs held before", the role among them

pub record RunWith : Type 0 where
  pub hold : List ℕ
  pub db : List Float
  pub power : List Float
  pub rise : ℕ
  pub drop : ℕ

abbrev pub run_with : Run → RunWith
run_with r = record { hold = r.hold; db = r.db; power = r.power; rise = length r.rise; drop = length r.drop }

pub data FedWith : Type 0 where
  single : Arguments → FedWith
  run : ℕ → RunWith → FedWith

abbrev pub fed_with : Fed → FedWith
fed_with (single c) = single (arguments c)
fed_with (run role r) = run role (run_with r)

-- ---- the claims

-- the same calls to a set that is in s and to one that is in t
pub record SameCalls (s t : Stores) (fs gs : List Fed) : Type 0 where
  -- "the same of its calls are refused, with the same refusals", a run with one for the whole of it
  pub refusals : answers_by s fs ≡ answers_by t gs
  -- what they are to both has the same arguments
  pub alike : map arguments (calls_by s fs) ≡ map arguments (calls_by t gs)

-- of two sets whose "numbers of accepted bank updates are equal modulo 15"
abbrev pub SameFedRuns : Type 0
SameFedRuns = (k : Making) (p q : Lent) → Made k p → Made k q → (xs ys : List Call)
    → bank_updates (made k p) xs % decimation_hops ≡ bank_updates (made k q) ys % decimation_hops
    → (fs gs : List Fed) → map fed_with fs ≡ map fed_with gs
    → SameCalls (left_by (made k p) xs) (left_by (made k q) ys) fs gs

-- the same from here on
pub record SameFed (k : Making) (a : ℕ) (s t : Stores) (fs gs : List Fed) : Type 0 where
  -- all that demand 3 says, of the calls that they are: refusals, the floors after them, the call that comes next and its rises
  pub same : Same k a s t (calls_by s fs) (calls_by t gs)
  -- where early rise is absent, the rises of the run that comes next are equal too
  pub rises : Enough k.n a s (calls_by s fs) → absent k.early ≡ true → (role : ℕ) (r o : Run) → run_with r ≡ run_with o
      → let u = left_by s (calls_by s fs) in
      let v = left_by t (calls_by t gs) in
      is_heard role u r ≡ true → rises_by u (calls_on u r) ≡ rises_by v (calls_on v o)

-- as `Demand3`, with runs in both lists and in what follows
abbrev pub WithRuns : Type 0
WithRuns = (k : Making) (p q : Lent) → Made k p → Made k q → (xs ys : List Fed)
    → let x = calls_by (made k p) xs in
    let y = calls_by (made k q) ys in
    bank_updates (made k p) x % decimation_hops ≡ bank_updates (made k q) y % decimation_hops
    → ((m : ℕ) → among m k.lengths ≡ true → gate_updates (made k p) x % (2 * m) ≡ gate_updates (made k q) y % (2 * m))
    → (fs gs : List Fed) → map fed_with fs ≡ map fed_with gs
    → SameFed k (bank_updates (made k p) x) (left_by (made k p) x) (left_by (made k q) y) fs gs
