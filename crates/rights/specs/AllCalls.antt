-- Document 02, R-14: the exported calls that answer a refusal, with whatever arguments, and what each leaves in the stores. Rows leads there from the
-- contracts.
use Rattle.std.specs.Prelude.{Bool, true, false, List, [], ◌∷◌, ℕ, ℤ, Float}
use Rattle.model.specs.Bank.{Hop}
use Rattle.model.specs.Calls.{bank_new_call}
use Rattle.model.specs.GateCalls.{GateHop, gate_new_call}
use Rattle.model.specs.WorstCalls.{worst_new_call, update_if}
use Rattle.model.specs.MapCalls.{map_new_call, map_write_call, gate_update_if, gate_hold_if}
use Rattle.model.specs.Decibels.{linear_hop, linear_gate_hop}
use Rattle.model.specs.Remake.{gate_remake_call}
use Rattle.roles.specs.Rights as rights
use Rattle.roles.specs.Rights.{Exported, as_role}
use Rattle.model.specs.Demand3.{Stores}
use Rattle.run_model.specs.Runs.{Run}
use Rattle.run_model.specs.Claims.{received_on, with_run}
use Rattle.log_model.specs.Format.{written}
use Rattle.combine_model.specs.Combined.{combined}

-- the stores of a bank, a gate, R-6 and a map, and a log output
pub record Lent : Type 0 where
  pub set : Stores
  pub log : List ℕ

-- each call by its name, with its arguments but for the lent stores. Where a call only reads, what it is lent to write its answer to is no store
pub data Deed : Type 0 where
  bank_new : ℕ → Deed
  bank_update : Hop → Deed
  bank_update_holding_reference : Hop → Deed
  channel_floor_db : ℕ → Deed
  effective_floor_db : ℕ → Deed
  rise_floor_db : ℕ → Deed
  spectral_reference : ℕ → Deed
  floors : ℕ → Deed
  ring : ℕ → Deed
  explain : ℕ → Deed
  gate_new : ℕ → ℤ → ℤ → ℤ → List ℕ → Deed
  gate_update : GateHop → List ℕ → List ℕ → Deed
  gate_hold : List ℕ → List ℕ → Deed
  gate_remake : ℤ → ℤ → ℤ → Deed
  smoothed_db : ℕ → Deed
  ema_rise : ℕ → Deed
  log_write : ℕ → List ℕ → List ℕ → Deed
  log_channels : Deed
  log_read : ℕ → List ℕ → List ℕ → Deed
  log_combine : List ℕ → List ℕ → Deed
  worst_new : ℕ → ℕ → Deed
  bank_update_worst : Hop → Deed
  worst_floor : ℕ → Deed
  dispatch : ℕ → ℕ → ℕ → Deed
  map_new : Deed
  gate_update_map : GateHop → List ℕ → List ℕ → Deed
  gate_hold_map : List ℕ → List ℕ → Deed
  map_read : ℕ → Deed
  map_write : ℕ → ℕ → Deed
  map_wire : Deed
  bank_update_linear : Bool → List Float → Deed
  gate_update_linear : List Float → List ℕ → List ℕ → Deed
  bank_update_linear_worst : Bool → List Float → Deed
  gate_update_linear_map : List Float → List ℕ → List ℕ → Deed
  receive : Run → Deed

abbrev pub named : Deed → Exported
named (bank_new n) = rights.bank_new
named (bank_update h) = rights.bank_update
named (bank_update_holding_reference h) = rights.bank_update_holding_reference
named (channel_floor_db k) = rights.channel_floor_db
named (effective_floor_db k) = rights.effective_floor_db
named (rise_floor_db k) = rights.rise_floor_db
named (spectral_reference k) = rights.spectral_reference
named (floors k) = rights.floors
named (ring k) = rights.ring
named (explain k) = rights.explain
named (gate_new n on off early lengths) = rights.gate_new
named (gate_update h rise drop) = rights.gate_update
named (gate_hold rise drop) = rights.gate_hold
named (gate_remake on off early) = rights.gate_remake
named (smoothed_db k) = rights.smoothed_db
named (ema_rise k) = rights.ema_rise
named (log_write n db power) = rights.log_write
named log_channels = rights.log_channels
named (log_read at db power) = rights.log_read
named (log_combine first second) = rights.log_combine
named (worst_new n W) = rights.worst_new
named (bank_update_worst h) = rights.bank_update_worst
named (worst_floor k) = rights.worst_floor
named (dispatch count waiting last) = rights.dispatch
named map_new = rights.map_new
named (gate_update_map h rise drop) = rights.gate_update_map
named (gate_hold_map rise drop) = rights.gate_hold_map
named (map_read address) = rights.map_read
named (map_write address value) = rights.map_write
named map_wire = rights.map_wire
named (bank_update_linear held power) = rights.bank_update_linear
named (gate_update_linear power rise drop) = rights.gate_update_linear
named (bank_update_linear_worst held power) = rights.bank_update_linear_worst
named (gate_update_linear_map power rise drop) = rights.gate_update_linear_map
named (receive r) = rights.receive

-- ---- what a call leaves, by its definition

abbrev pub banked : Lent → ℕ × List ℕ × List Float → Lent
banked e a = record { set = record { bu = a.1; bf = a.2; gu = e.set.gu; gf = e.set.gf; wu = e.set.wu; wf = e.set.wf; map = e.set.map }; log = e.log }

abbrev pub updated : Bool → Hop → Lent → Lent
updated c h e =
    let s = e.set in
    let a = update_if c s.bu s.bf s.wu s.wf h in
    record { set = record { bu = a.1; bf = a.2; gu = s.gu; gf = s.gf; wu = a.3; wf = a.4; map = s.map }; log = e.log }

abbrev pub gated : Lent → List ℕ → List Float → List ℕ → Lent
gated e gu gf m = let s = e.set in
    record { set = record { bu = s.bu; bf = s.bf; gu = gu; gf = gf; wu = s.wu; wf = s.wf; map = m }; log = e.log }

abbrev pub gate_updated : Bool → GateHop → List ℕ → List ℕ → Lent → Lent
gate_updated c h rise drop e =
    let s = e.set in
    let a = gate_update_if c s.bu s.bf s.gu s.gf s.map h rise drop in
    gated e a.1 a.2 a.3

abbrev pub gate_held : Bool → List ℕ → List ℕ → Lent → Lent
gate_held c rise drop e =
    let s = e.set in
    let a = gate_hold_if c s.bu s.bf s.gu s.gf s.map rise drop in
    gated e s.gu a.1 a.2

unfoldable pub does : Lent → Deed → Lent
does e (bank_new n) = banked e (bank_new_call e.set.bu e.set.bf n)
does e (bank_update h) = updated false h e
does e (bank_update_holding_reference h) = updated false h e
does e (channel_floor_db k) = e
does e (effective_floor_db k) = e
does e (rise_floor_db k) = e
does e (spectral_reference k) = e
does e (floors k) = e
does e (ring k) = e
does e (explain k) = e
does e (gate_new n on off early lengths) =
    let a = gate_new_call e.set.gu e.set.gf n on off early lengths in
    gated e a.1 a.2 e.set.map
does e (gate_update h rise drop) = gate_updated false h rise drop e
does e (gate_hold rise drop) = gate_held false rise drop e
does e (gate_remake on off early) = let a = gate_remake_call e.set.gu e.set.gf on off early in gated e a.1 a.2 e.set.map
does e (smoothed_db k) = e
does e (ema_rise k) = e
does e (log_write n db power) = record { set = e.set; log = (written n db power e.log).1 }
does e log_channels = e
does e (log_read at db power) = e
does e (log_combine first second) = record { set = e.set; log = (combined first second e.log).1 }
does e (worst_new n W) =
    let s = e.set in
    let a = worst_new_call s.wu s.wf n W in
    record { set = record { bu = s.bu; bf = s.bf; gu = s.gu; gf = s.gf; wu = a.1; wf = a.2; map = s.map }; log = e.log }
does e (bank_update_worst h) = updated true h e
does e (worst_floor k) = e
does e (dispatch count waiting last) = e
does e map_new = gated e e.set.gu e.set.gf (map_new_call e.set.gu e.set.gf e.set.map).1
does e (gate_update_map h rise drop) = gate_updated true h rise drop e
does e (gate_hold_map rise drop) = gate_held true rise drop e
does e (map_read address) = e
does e (map_write address value) = gated e e.set.gu e.set.gf (map_write_call e.set.gu e.set.gf e.set.map address value).1
does e map_wire = e
does e (bank_update_linear held power) = updated false (linear_hop held power) e
does e (gate_update_linear power rise drop) = gate_updated false (linear_gate_hop power) rise drop e
does e (bank_update_linear_worst held power) = updated true (linear_hop held power) e
does e (gate_update_linear_map power rise drop) = gate_updated true (linear_gate_hop power) rise drop e
does e (receive r) = let a = received_on e.set r in record { set = with_run e.set a.1 a.2 a.3 a.4; log = e.log }

-- ---- lists of calls, each lent what the call before left

-- by someone, in a role
unfoldable pub leaves : ℕ → Lent → Deed → Lent
leaves role e d = as_role (named d) role (λ _. e) (does e d)

-- all in one role
abbrev pub leaves_by : ℕ → Lent → List Deed → Lent
leaves_by role e [] = e
leaves_by role e (d ∷ ds) = leaves_by role (leaves role e d) ds
