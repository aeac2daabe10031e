-- A run of hops (after R-14): a receiver that hands over many hops at once has the stores tested once. It is the single calls of its hops, one
-- after another, as demand 3's lists have them, or nothing at all.
use Rattle.std.specs.Prelude.{Bool, false, not, cond, ◌&&◌, ◌||◌, List, [], ◌∷◌, ◌++◌, ℕ, zero, suc, ◌+◌, ◌*◌, ◌%◌, eqb, length, get_or, take, drop as after, Float}
use Rattle.laws.specs.Tests.{differ, first}
use Rattle.model.specs.Layout.{decimation_hops}
use Rattle.model.specs.Bank.{hop}
use Rattle.model.specs.Refusals.{garbled}
use Rattle.model.specs.GateCalls.{or_else, pair_refusal}
use Rattle.model.specs.MapCalls.{gate_update_if, gate_hold_if}
use Rattle.model.specs.Demand3.{Asked, Call, asked_by, bank, gate, hold, write, unless_stopped, Stores, left, left_by, marks_before, rises_of}
use Rattle.roles.specs.Rights.{technician}

-- ---- the hops of a run

-- the lent slices: "a run of hold.len() hops; power_db, power, rise and drop hold.len() times n long, hop after hop"
pub record Run : Type 0 where
  pub hold : List ℕ
  pub db : List Float
  pub power : List Float
  pub rise : List ℕ
  pub drop : List ℕ

-- one hop: what its n places of the slices hold, those of the outputs before the run
pub record RunHop : Type 0 where
  pub hold : ℕ
  pub db : List Float
  pub power : List Float
  pub rise : List ℕ
  pub drop : List ℕ

-- the next n places are the next hop's
abbrev pub hops_from : ℕ → List ℕ → List Float → List Float → List ℕ → List ℕ → List RunHop
hops_from n [] db power rise drop = []
hops_from n (x ∷ xs) db power rise drop =
    record { hold = x; db = take n db; power = take n power; rise = take n rise; drop = take n drop }
    ∷ hops_from n xs (after n db) (after n power) (after n rise) (after n drop)

abbrev pub hops_of : ℕ → Run → List RunHop
hops_of n r = hops_from n r.hold r.db r.power r.rise r.drop

-- ---- its calls

-- "with hold[i] = 0 a bank update and then a gate update with that hop; else the bank update that holds the reference and then a gate hold"
abbrev pub is_held : RunHop → Bool
is_held h = not (eqb h.hold 0)

abbrev pub bank_asked : RunHop → Asked
bank_asked h = bank false (hop (is_held h) h.db h.power)

abbrev pub gate_asked : RunHop → Asked
gate_asked h = cond (is_held h) (hold false h.rise h.drop) (gate false (record { db = h.db; power = h.power }) h.rise h.drop)

-- the receiver acts as technician
abbrev pub bank_call : RunHop → Call
bank_call h = asked_by technician (bank_asked h)

abbrev pub gate_call : RunHop → Call
gate_call h = asked_by technician (gate_asked h)

-- "for each hop in turn"
abbrev pub calls_of : List RunHop → List Call
calls_of [] = []
calls_of (h ∷ hs) = bank_call h ∷ gate_call h ∷ calls_of hs

-- ---- "the marks of each hop go to its n places of rise and drop"

-- what drop holds after a call, as `rises_of` says it of rise
unfoldable pub drops_done : Stores → Asked → List ℕ
drops_done s (bank c h) = []
drops_done s (gate c h rise drop) = (gate_update_if c s.bu s.bf s.gu s.gf s.map h rise drop).5
drops_done s (hold c rise drop) = (gate_hold_if c s.bu s.bf s.gu s.gf s.map rise drop).4
drops_done s (write i v) = []

unfoldable pub drops_of : Stores → Call → List ℕ
drops_of s c = unless_stopped c (λ _. (marks_before c.asked).1) (drops_done s c.asked)

abbrev pub rises_by : Stores → List Call → List ℕ
rises_by s [] = []
rises_by s (c ∷ cs) = rises_of s c ++ rises_by (left s c) cs

abbrev pub drops_by : Stores → List Call → List ℕ
drops_by s [] = []
drops_by s (c ∷ cs) = drops_of s c ++ drops_by (left s c) cs

-- ---- checks: the stores and 8, then 5, then 6

-- "6 if the bank would refuse one of the run's slow hops, held ones too": p is the phase before the first of these
abbrev pub garbled_run : ℕ → ℕ → List RunHop → Bool
garbled_run n p [] = false
garbled_run n p (h ∷ hs) = (eqb p 0 && garbled n h.db) || garbled_run n ((p + 1) % decimation_hops) hs

-- "5 for any slice's length"
abbrev pub not_long : ℕ → Run → Bool
not_long n r =
    let long = length r.hold * n in
    differ (length r.db) long || differ (length r.power) long || differ (length r.rise) long || differ (length r.drop) long

unfoldable pub run_refusal : List ℕ → List Float → List ℕ → List Float → Run → ℕ
run_refusal bu bf gu gf r =
    let n = get_or gu 0 0 in
    or_else (pair_refusal bu bf gu gf) (first (not_long n r) 5 (first (garbled_run n (get_or bu 1 0) (hops_of n r)) 6 0))

-- ---- what it answers and leaves: the bank's two stores, the gate's, rise and drop

-- a bank and a gate with nothing beside them: "the store of R-6 and the map of R-12 are not carried by a run"
abbrev pub alone : List ℕ → List Float → List ℕ → List Float → Stores
alone u f g k = record { bu = u; bf = f; gu = g; gf = k; wu = []; wf = []; map = [] }

abbrev pub Received : Type 0
Received = ℕ × List ℕ × List Float × List ℕ × List Float × List ℕ × List ℕ

-- as the single calls leave it
abbrev pub by_calls : Stores → List Call → Received
by_calls s cs = let t = left_by s cs in (0, t.bu, t.bf, t.gu, t.gf, rises_by s cs, drops_by s cs)

-- "a refusal changes nothing of the whole run"
abbrev pub run_leaves : ℕ → Stores → Run → Received
run_leaves zero s r = by_calls s (calls_of (hops_of (get_or s.gu 0 0) r))
run_leaves (suc x) s r = (suc x, s.bu, s.bf, s.gu, s.gf, r.rise, r.drop)

unfoldable pub received : List ℕ → List Float → List ℕ → List Float → Run → Received
received bu bf gu gf r = run_leaves (run_refusal bu bf gu gf r) (alone bu bf gu gf) r
