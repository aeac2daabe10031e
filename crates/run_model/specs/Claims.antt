-- What a run of hops can be relied on for. The proofs are in proofs/Claims.antt.
use Rattle.std.specs.Prelude.{◌≡◌, Bool, false, not, cond, ◌&&◌, ◌||◌, List, [], ◌∷◌, map, ℕ, ◌+◌, ◌%◌, eqb, length, get_or, replicate, Float}
use Rattle.model.specs.GateCalls.{pair_refusal}
use Rattle.model.specs.Layout.{decimation_hops}
use Rattle.model.specs.Demand3.{Call, arguments, Stores, left_by, answers, bank_updates, Making, Lent, made, Made}
use Rattle.roles.specs.Rights.{receive, may, as_role}
use Rattle.run_model.specs.Runs.{Run, hops_of, calls_of, rises_by, drops_by, not_long, run_refusal, Received, received}

-- on a set that has a store of R-6 and a map beside its bank and gate, or stands them in
abbrev pub refusal_on : Stores → Run → ℕ
refusal_on s r = run_refusal s.bu s.bf s.gu s.gf r

abbrev pub received_on : Stores → Run → Received
received_on s r = received s.bu s.bf s.gu s.gf r

abbrev pub calls_on : Stores → Run → List Call
calls_on s r = calls_of (hops_of (get_or s.gu 0 0) r)

-- the set with what a run leaves: the others are not carried
abbrev pub with_run : Stores → List ℕ → List Float → List ℕ → List Float → Stores
with_run s u f g k = record { bu = u; bf = f; gu = g; gf = k; wu = s.wu; wf = s.wf; map = s.map }

-- "an accepted run leaves the four stores and both outputs as the single calls one after another would, none of them refused"
pub record AsCalls (s : Stores) (r : Run) : Type 0 where
  pub none_refused : answers s (calls_on s r) ≡ replicate (length r.hold + length r.hold) 0
  pub accepted : (received_on s r).0 ≡ 0
  pub stores : let a = received_on s r in with_run s a.1 a.2 a.3 a.4 ≡ left_by s (calls_on s r)
  pub rises : (received_on s r).5 ≡ rises_by s (calls_on s r)
  pub drops : (received_on s r).6 ≡ drops_by s (calls_on s r)

abbrev pub AcceptedRun : Type 0
AcceptedRun = (s : Stores) (r : Run) → refusal_on s r ≡ 0 → AsCalls s r

-- some call of a list is refused
abbrev pub any_refused : List ℕ → Bool
any_refused [] = false
any_refused (x ∷ xs) = not (eqb x 0) || any_refused xs

-- "on stores that pass, a run of right lengths is refused with 6 exactly when some call of that list would be"
abbrev pub RefusedExactly : Type 0
RefusedExactly = (s : Stores) (r : Run) → pair_refusal s.bu s.bf s.gu s.gf ≡ 0 → not_long (get_or s.gu 0 0) r ≡ false
    → eqb (refusal_on s r) 6 ≡ any_refused (answers s (calls_on s r))

-- "a run of no hops makes the same checks, changes nothing and answers 0"
abbrev pub NoHops : Type 0
NoHops = (s : Stores) (db power : List Float) (rise drop : List ℕ)
    → let r : Run = record { hold = []; db = db; power = power; rise = rise; drop = drop } in
    received_on s r ≡ (refusal_on s r, s.bu, s.bf, s.gu, s.gf, rise, drop)

-- a run on s is stopped for lack of a right, refused, or heard
abbrev pub is_heard : ℕ → Stores → Run → Bool
is_heard role s r = may receive role && eqb (refusal_on s r) 0

-- "a run is the list of its hops' calls": what it asks of demand 3's lists. One that is not heard asks nothing
abbrev pub run_calls : ℕ → Stores → Run → List Call
run_calls role s r = cond (is_heard role s r) (calls_on s r) []

-- what a run on s answers and leaves: the stores by demand 3's list, the marks those of its calls, or what was there before
pub record AsList (s : Stores) (role : ℕ) (r : Run) (x : ℕ) (u : List ℕ) (f : List Float) (g : List ℕ) (k : List Float) (rise drop : List ℕ) : Type 0 where
  pub answer : x ≡ cond (may receive role) (refusal_on s r) 16
  pub stores : with_run s u f g k ≡ left_by s (run_calls role s r)
  pub rises : rise ≡ cond (is_heard role s r) (rises_by s (calls_on s r)) r.rise
  pub drops : drop ≡ cond (is_heard role s r) (drops_by s (calls_on s r)) r.drop

-- wolfcloak_receive: from the equation that is its contract. x, u, f, g, k, rise and drop are the answer and what the lent slices hold at exit. So
-- demand 3 covers runs, with no new claim
abbrev pub ReceiveDoes : Type 0
ReceiveDoes = (s : Stores) (role : ℕ) (r : Run) (x : ℕ) (u : List ℕ) (f : List Float) (g : List ℕ) (k : List Float) (rise drop : List ℕ)
    → (x, u, f, g, k, rise, drop) ≡ as_role receive role (λ y. (y, s.bu, s.bf, s.gu, s.gf, r.rise, r.drop)) (received_on s r)
    → AsList s role r x u f g k rise drop

-- two runs with the same arguments, "apart from the lent stores and what the outputs held before"
pub record SameArguments (r o : Run) : Type 0 where
  pub hold : r.hold ≡ o.hold
  pub db : r.db ≡ o.db
  pub power : r.power ≡ o.power
  pub rise : length r.rise ≡ length o.rise
  pub drop : length r.drop ≡ length o.drop

-- two sets as demand 3 has them, each after a list of its own, give the run that comes next the same answer, and it is the same calls to both, with
-- the same arguments
abbrev pub SameRuns : Type 0
SameRuns = (k : Making) (p q : Lent) → Made k p → Made k q → (xs ys : List Call)
    → bank_updates (made k p) xs % decimation_hops ≡ bank_updates (made k q) ys % decimation_hops
    → (role : ℕ) (r o : Run) → SameArguments r o
    → let s = left_by (made k p) xs in
    let t = left_by (made k q) ys in
    (refusal_on s r ≡ refusal_on t o) × (map arguments (run_calls role s r) ≡ map arguments (run_calls role t o))
