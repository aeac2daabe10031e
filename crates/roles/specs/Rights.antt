-- Document 02, R-14: who may turn what. Every exported call that answers a refusal takes the role first.
use Rattle.std.specs.Prelude.{Bool, cond, ◌&&◌, ℕ, leb}

-- "A role is given as 0, 1 or 2 in that order": a watch keeper, a team leader, a service technician
abbrev pub keeper : ℕ
keeper = 0

abbrev pub leader : ℕ
leader = 1

abbrev pub technician : ℕ
technician = 2

-- the exported calls that answer a refusal, by their names
pub data Exported : Type 0 where
  bank_new : Exported
  bank_update : Exported
  bank_update_holding_reference : Exported
  channel_floor_db : Exported
  effective_floor_db : Exported
  rise_floor_db : Exported
  spectral_reference : Exported
  floors : Exported
  ring : Exported
  explain : Exported
  gate_new : Exported
  gate_update : Exported
  gate_hold : Exported
  gate_remake : Exported
  smoothed_db : Exported
  ema_rise : Exported
  log_write : Exported
  log_channels : Exported
  log_read : Exported
  log_combine : Exported
  worst_new : Exported
  bank_update_worst : Exported
  worst_floor : Exported
  dispatch : Exported
  map_new : Exported
  gate_update_map : Exported
  gate_hold_map : Exported
  map_read : Exported
  map_write : Exported
  map_wire : Exported
  bank_update_linear : Exported
  gate_update_linear : Exported
  bank_update_linear_worst : Exported
  gate_update_linear_map : Exported
  receive : Exported

-- the table of rights: for each call the least role that has the right
abbrev pub least : Exported → ℕ
-- "The keeper may read, registers and wire included, and explain"
least channel_floor_db = keeper
least effective_floor_db = keeper
least rise_floor_db = keeper
least spectral_reference = keeper
least floors = keeper
least ring = keeper
least smoothed_db = keeper
least ema_rise = keeper
least worst_floor = keeper
least map_read = keeper
least map_wire = keeper
least explain = keeper
-- "The leader may also write masks, clear flags and remake a gate with new levels"
least map_write = leader
least gate_remake = leader
-- "The technician may do everything, updates, holds, making and reading or writing logs included"
least bank_new = technician
least bank_update = technician
least bank_update_holding_reference = technician
least gate_new = technician
least gate_update = technician
least gate_hold = technician
least log_write = technician
least log_channels = technician
least log_read = technician
least log_combine = technician
least worst_new = technician
least bank_update_worst = technician
least dispatch = technician
least map_new = technician
least gate_update_map = technician
least gate_hold_map = technician
least bank_update_linear = technician
least gate_update_linear = technician
least bank_update_linear_worst = technician
least gate_update_linear_map = technician
least receive = technician

-- a role has the right to a call: not one above 2
abbrev pub may : Exported → ℕ → Bool
may call role = leb (least call) role && leb role technician

-- "16 for a role above 2 or one lacking the right, before all others": then everything is as it was, else it is what the call says. Over any answer
-- and whatever is lent: `kept` has what was lent behind the answer
unfoldable pub as_role : {A : Type 0} → Exported → ℕ → (ℕ → A) → A → A
as_role call role kept said = cond (may call role) said (kept 16)
