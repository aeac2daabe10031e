-- Document 02, R-14: each row of the C interface does what `leaves` says: from the equation that is its contract, all that is lent is afterwards what
-- `leaves` has. So what Alone says holds of the rows. Here are those that are lent a store to write, or a log's output; the others are lent their stores
-- to read only, and can change none.
-- role is who asks; r, u, f, wu, wf, m and log are the answer and what the lent slices hold at exit, rise', drop' and len' what no store holds.
use Rattle.std.specs.Prelude.{◌≡◌, Bool, ℤ}
use Rattle.std.proofs.Common.{ap, ◌∙◌}
use mathlib.Core.List.{List}
use Prim.Native.Nat.{ℕ}
use Rattle.std.specs.Float.Ieee.{Float}
use Rattle.model.specs.Bank.{Hop}
use Rattle.model.specs.Calls.{bank_new_call, bank_update_call}
use Rattle.model.specs.GateCalls.{GateHop, gate_new_call, gate_update_call, gate_hold_call}
use Rattle.model.specs.WorstCalls.{Answered, worst_new_call, worst_update}
use Rattle.model.specs.MapCalls.{map_new_call, map_write_call, gate_update_map_call, gate_hold_map_call}
use Rattle.model.specs.Decibels.{linear_hop, linear_gate_hop}
use Rattle.model.specs.Demand3.{Stores}
use Rattle.model.specs.Remake.{gate_remake_call}
use Rattle.roles.specs.Rights as rights
use Rattle.roles.specs.Rights.{Exported, as_role}
use Rattle.roles.proofs.Roles.{through}
use Rattle.run_model.specs.Runs.{Run, Received}
use Rattle.run_model.specs.Claims.{received_on, with_run}
use Rattle.log_model.specs.Format.{written}
use Rattle.log_answers.specs.LogAnswers.{write_answered}
use Rattle.combine_model.specs.Combined.{combined}
use Rattle.rights.specs.AllCalls.{Lent, does, leaves, gated, bank_new, bank_update, bank_update_holding_reference, gate_new, gate_update, gate_hold, gate_remake, log_write, log_combine, worst_new, bank_update_worst, map_new, gate_update_map, gate_hold_map, map_write, bank_update_linear, gate_update_linear, bank_update_linear_worst, gate_update_linear_map, receive}

-- all that is lent, with these for the bank's stores, for those of R-6 beside it, for the log's output; `gated` is that for a gate and its map
abbrev pub with_bank : Lent → List ℕ → List Float → Lent
with_bank e u f =
    let s = e.set in
    record { set = record { bu = u; bf = f; gu = s.gu; gf = s.gf; wu = s.wu; wf = s.wf; map = s.map }; log = e.log }

abbrev pub with_worst : Lent → List ℕ → List Float → Lent
with_worst e u f =
    let s = e.set in
    record { set = record { bu = s.bu; bf = s.bf; gu = s.gu; gf = s.gf; wu = u; wf = f; map = s.map }; log = e.log }

abbrev pub with_log : Lent → List ℕ → Lent
with_log e log = record { set = e.set; log = log }

-- what is made of a row's answer
made_of : {A : Type 0} (to : A → Lent) (call : Exported) (role : ℕ) (kept : ℕ → A) (said : A) {x : A} → x ≡ as_role call role kept said
    → to x ≡ as_role call role (λ r. to (kept r)) (to said)
made_of to call role kept said q = ap to q ∙ through to call role kept said

module _ (e : Lent) (role : ℕ) where
  abbrev s : Stores
  s = e.set

  -- ---- the bank, and the store of R-6

  -- wolfcloak_bank_new
  pub bank_new_leaves : (n r : ℕ) (u : List ℕ) (f : List Float)
      → (r, u, f) ≡ as_role rights.bank_new role (λ r. (r, s.bu, s.bf)) (bank_new_call s.bu s.bf n)
      → with_bank e u f ≡ leaves role e (bank_new n)
  unfolding leaves does
  bank_new_leaves n r u f q = made_of (λ (a : ℕ × List ℕ × List Float). with_bank e a.1 a.2) rights.bank_new role _ _ q

  -- wolfcloak_bank_update
  pub bank_update_leaves : (h : Hop) (r : ℕ) (u : List ℕ) (f : List Float)
      → (r, u, f) ≡ as_role rights.bank_update role (λ r. (r, s.bu, s.bf)) (bank_update_call s.bu s.bf h)
      → with_bank e u f ≡ leaves role e (bank_update h)
  unfolding leaves does
  bank_update_leaves h r u f q = made_of (λ (a : ℕ × List ℕ × List Float). with_bank e a.1 a.2) rights.bank_update role _ _ q

  -- wolfcloak_bank_update_holding_reference
  pub bank_update_holding_reference_leaves : (h : Hop) (r : ℕ) (u : List ℕ) (f : List Float)
      → (r, u, f) ≡ as_role rights.bank_update_holding_reference role (λ r. (r, s.bu, s.bf)) (bank_update_call s.bu s.bf h)
      → with_bank e u f ≡ leaves role e (bank_update_holding_reference h)
  unfolding leaves does
  bank_update_holding_reference_leaves h r u f q =
      made_of (λ (a : ℕ × List ℕ × List Float). with_bank e a.1 a.2) rights.bank_update_holding_reference role _ _ q

  -- wolfcloak_bank_update_linear
  pub bank_update_linear_leaves : (held : Bool) (power : List Float) (r : ℕ) (u : List ℕ) (f : List Float)
      → (r, u, f) ≡ as_role rights.bank_update_linear role (λ r. (r, s.bu, s.bf)) (bank_update_call s.bu s.bf (linear_hop held power))
      → with_bank e u f ≡ leaves role e (bank_update_linear held power)
  unfolding leaves does
  bank_update_linear_leaves held power r u f q =
      made_of (λ (a : ℕ × List ℕ × List Float). with_bank e a.1 a.2) rights.bank_update_linear role _ _ q

  -- wolfcloak_worst_new
  pub worst_new_leaves : (n W r : ℕ) (wu : List ℕ) (wf : List Float)
      → (r, wu, wf) ≡ as_role rights.worst_new role (λ r. (r, s.wu, s.wf)) (worst_new_call s.wu s.wf n W)
      → with_worst e wu wf ≡ leaves role e (worst_new n W)
  unfolding leaves does
  worst_new_leaves n W r wu wf q = made_of (λ (a : ℕ × List ℕ × List Float). with_worst e a.1 a.2) rights.worst_new role _ _ q

  -- wolfcloak_bank_update_worst
  pub bank_update_worst_leaves : (h : Hop) (r : ℕ) (u : List ℕ) (f : List Float) (wu : List ℕ) (wf : List Float)
      → (r, u, f, wu, wf)
      ≡ as_role rights.bank_update_worst role (λ r. (r, s.bu, s.bf, s.wu, s.wf)) (worst_update s.bu s.bf s.wu s.wf h)
      → with_worst (with_bank e u f) wu wf ≡ leaves role e (bank_update_worst h)
  unfolding leaves does
  bank_update_worst_leaves h r u f wu wf q =
      made_of (λ (a : Answered). with_worst (with_bank e a.1 a.2) a.3 a.4) rights.bank_update_worst role _ _ q

  -- wolfcloak_bank_update_linear_worst
  pub bank_update_linear_worst_leaves : (held : Bool) (power : List Float) (r : ℕ) (u : List ℕ) (f : List Float) (wu : List ℕ) (wf : List Float)
      → (r, u, f, wu, wf)
      ≡ as_role rights.bank_update_linear_worst role (λ r. (r, s.bu, s.bf, s.wu, s.wf))
      (worst_update s.bu s.bf s.wu s.wf (linear_hop held power))
      → with_worst (with_bank e u f) wu wf ≡ leaves role e (bank_update_linear_worst held power)
  unfolding leaves does
  bank_update_linear_worst_leaves held power r u f wu wf q =
      made_of (λ (a : Answered). with_worst (with_bank e a.1 a.2) a.3 a.4) rights.bank_update_linear_worst role _ _ q

  -- ---- the gate

  -- wolfcloak_gate_new
  pub gate_new_leaves : (n : ℕ) (on off early : ℤ) (lengths : List ℕ) (r : ℕ) (u : List ℕ) (f : List Float)
      → (r, u, f) ≡ as_role rights.gate_new role (λ r. (r, s.gu, s.gf)) (gate_new_call s.gu s.gf n on off early lengths)
      → gated e u f s.map ≡ leaves role e (gate_new n on off early lengths)
  unfolding leaves does
  gate_new_leaves n on off early lengths r u f q =
      made_of (λ (a : ℕ × List ℕ × List Float). gated e a.1 a.2 s.map) rights.gate_new role _ _ q

  -- wolfcloak_gate_remake, which is lent no map
  pub gate_remake_leaves : (on off early : ℤ) (r : ℕ) (u : List ℕ) (f : List Float)
      → (r, u, f) ≡ as_role rights.gate_remake role (λ r. (r, s.gu, s.gf)) (gate_remake_call s.gu s.gf on off early)
      → gated e u f s.map ≡ leaves role e (gate_remake on off early)
  unfolding leaves does
  gate_remake_leaves on off early r u f q = made_of (λ (a : ℕ × List ℕ × List Float). gated e a.1 a.2 s.map) rights.gate_remake role _ _ q

  -- wolfcloak_gate_update
  pub gate_update_leaves : (h : GateHop) (rise drop rise' drop' : List ℕ) (r : ℕ) (u : List ℕ) (f : List Float)
      → (r, u, f, rise', drop')
      ≡ as_role rights.gate_update role (λ r. (r, s.gu, s.gf, rise, drop)) (gate_update_call s.bu s.bf s.gu s.gf h rise drop)
      → gated e u f s.map ≡ leaves role e (gate_update h rise drop)
  unfolding leaves does
  gate_update_leaves h rise drop rise' drop' r u f q =
      made_of (λ (a : ℕ × List ℕ × List Float × List ℕ × List ℕ). gated e a.1 a.2 s.map) rights.gate_update role _ _ q

  -- wolfcloak_gate_update_linear
  pub gate_update_linear_leaves : (power : List Float) (rise drop rise' drop' : List ℕ) (r : ℕ) (u : List ℕ) (f : List Float)
      → (r, u, f, rise', drop')
      ≡ as_role rights.gate_update_linear role (λ r. (r, s.gu, s.gf, rise, drop))
      (gate_update_call s.bu s.bf s.gu s.gf (linear_gate_hop power) rise drop)
      → gated e u f s.map ≡ leaves role e (gate_update_linear power rise drop)
  unfolding leaves does
  gate_update_linear_leaves power rise drop rise' drop' r u f q =
      made_of (λ (a : ℕ × List ℕ × List Float × List ℕ × List ℕ). gated e a.1 a.2 s.map) rights.gate_update_linear role _ _ q

  -- wolfcloak_gate_hold, which is lent the gate's u16 store to read only
  pub gate_hold_leaves : (rise drop rise' drop' : List ℕ) (r : ℕ) (f : List Float)
      → (r, f, rise', drop')
      ≡ as_role rights.gate_hold role (λ r. (r, s.gf, rise, drop)) (gate_hold_call s.bu s.bf s.gu s.gf rise drop)
      → gated e s.gu f s.map ≡ leaves role e (gate_hold rise drop)
  unfolding leaves does
  gate_hold_leaves rise drop rise' drop' r f q =
      made_of (λ (a : ℕ × List Float × List ℕ × List ℕ). gated e s.gu a.1 s.map) rights.gate_hold role _ _ q

  -- ---- the map

  -- wolfcloak_map_new, which is lent the gate's stores to read only, as is a write
  pub map_new_leaves : (r : ℕ) (m : List ℕ)
      → (r, m) ≡ as_role rights.map_new role (λ r. (r, s.map)) (map_new_call s.gu s.gf s.map)
      → gated e s.gu s.gf m ≡ leaves role e map_new
  unfolding leaves does
  map_new_leaves r m q = made_of (λ (a : ℕ × List ℕ). gated e s.gu s.gf a.1) rights.map_new role _ _ q

  -- wolfcloak_map_write
  pub map_write_leaves : (address value r : ℕ) (m : List ℕ)
      → (r, m) ≡ as_role rights.map_write role (λ r. (r, s.map)) (map_write_call s.gu s.gf s.map address value)
      → gated e s.gu s.gf m ≡ leaves role e (map_write address value)
  unfolding leaves does
  map_write_leaves address value r m q = made_of (λ (a : ℕ × List ℕ). gated e s.gu s.gf a.1) rights.map_write role _ _ q

  -- wolfcloak_gate_update_map
  pub gate_update_map_leaves : (h : GateHop) (rise drop rise' drop' : List ℕ) (r : ℕ) (u : List ℕ) (f : List Float) (m : List ℕ)
      → (r, u, f, m, rise', drop')
      ≡ as_role rights.gate_update_map role (λ r. (r, s.gu, s.gf, s.map, rise, drop))
      (gate_update_map_call s.bu s.bf s.gu s.gf s.map h rise drop)
      → gated e u f m ≡ leaves role e (gate_update_map h rise drop)
  unfolding leaves does
  gate_update_map_leaves h rise drop rise' drop' r u f m q =
      made_of (λ (a : ℕ × List ℕ × List Float × List ℕ × List ℕ × List ℕ). gated e a.1 a.2 a.3) rights.gate_update_map role _ _ q

  -- wolfcloak_gate_update_linear_map
  pub gate_update_linear_map_leaves : (power : List Float) (rise drop rise' drop' : List ℕ) (r : ℕ) (u : List ℕ) (f : List Float) (m : List ℕ)
      → (r, u, f, m, rise', drop')
      ≡ as_role rights.gate_update_linear_map role (λ r. (r, s.gu, s.gf, s.map, rise, drop))
      (gate_update_map_call s.bu s.bf s.gu s.gf s.map (linear_gate_hop power) rise drop)
      → gated e u f m ≡ leaves role e (gate_update_linear_map power rise drop)
  unfolding leaves does
  gate_update_linear_map_leaves power rise drop rise' drop' r u f m q =
      made_of (λ (a : ℕ × List ℕ × List Float × List ℕ × List ℕ × List ℕ). gated e a.1 a.2 a.3) rights.gate_update_linear_map role _ _ q

  -- wolfcloak_gate_hold_map
  pub gate_hold_map_leaves : (rise drop rise' drop' : List ℕ) (r : ℕ) (f : List Float) (m : List ℕ)
      → (r, f, m, rise', drop')
      ≡ as_role rights.gate_hold_map role (λ r. (r, s.gf, s.map, rise, drop)) (gate_hold_map_call s.bu s.bf s.gu s.gf s.map rise drop)
      → gated e s.gu f m ≡ leaves role e (gate_hold_map rise drop)
  unfolding leaves does
  gate_hold_map_leaves rise drop rise' drop' r f m q =
      made_of (λ (a : ℕ × List Float × List ℕ × List ℕ × List ℕ). gated e s.gu a.1 a.2) rights.gate_hold_map role _ _ q

  -- ---- the log's output

  -- wolfcloak_log_write
  pub log_write_leaves : (n : ℕ) (db power : List ℕ) (len r len' : ℕ) (log : List ℕ)
      → (r, len', log) ≡ as_role rights.log_write role (λ r. (r, len, e.log)) (write_answered len (written n db power e.log))
      → with_log e log ≡ leaves role e (log_write n db power)
  unfolding leaves does
  log_write_leaves n db power len r len' log q = made_of (λ (a : ℕ × ℕ × List ℕ). with_log e a.2) rights.log_write role _ _ q

  -- wolfcloak_log_combine
  pub log_combine_leaves : (first second : List ℕ) (len r len' : ℕ) (log : List ℕ)
      → (r, len', log) ≡ as_role rights.log_combine role (λ r. (r, len, e.log)) (write_answered len (combined first second e.log))
      → with_log e log ≡ leaves role e (log_combine first second)
  unfolding leaves does
  log_combine_leaves first second len r len' log q = made_of (λ (a : ℕ × ℕ × List ℕ). with_log e a.2) rights.log_combine role _ _ q

  -- ---- a run of hops

  -- wolfcloak_receive
  pub receive_leaves : (run : Run) (r : ℕ) (u : List ℕ) (f : List Float) (g : List ℕ) (k : List Float) (rise' drop' : List ℕ)
      → (r, u, f, g, k, rise', drop') ≡ as_role rights.receive role (λ r. (r, s.bu, s.bf, s.gu, s.gf, run.rise, run.drop)) (received_on s run)
      → record { set = with_run s u f g k; log = e.log } ≡ leaves role e (receive run)
  unfolding leaves does
  receive_leaves run r u f g k rise' drop' q =
      made_of (λ (a : Received). record { set = with_run s a.1 a.2 a.3 a.4; log = e.log }) rights.receive role _ _ q
