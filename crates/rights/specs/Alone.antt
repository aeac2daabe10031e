-- Document 02, R-14: what keepers alone and leaders alone can change. The proofs are `keepers-alone` and `leaders-alone` in proofs/Alone.antt.
use Rattle.std.specs.Prelude.{◌≡◌, Bool, true, false, cond, List, [], ◌∷◌}
use Rattle.roles.specs.Rights.{keeper, leader}
use Rattle.rights.specs.AllCalls.{Lent, Deed, leaves_by, bank_new, bank_update, bank_update_holding_reference, channel_floor_db, effective_floor_db, rise_floor_db, spectral_reference, floors, ring, explain, gate_new, gate_update, gate_hold, gate_remake, smoothed_db, ema_rise, log_write, log_channels, log_read, log_combine, worst_new, bank_update_worst, worst_floor, dispatch, map_new, gate_update_map, gate_hold_map, map_read, map_write, map_wire, bank_update_linear, gate_update_linear, bank_update_linear_worst, gate_update_linear_map, receive}

-- "Calls made by keepers alone leave every store equal to what it was"
abbrev pub KeepersAlone : Type 0
KeepersAlone = (ds : List Deed) (e : Lent) → leaves_by keeper e ds ≡ e

-- the two by which a leader changes anything: a remake changes a gate, a write a map. Named here, not taken from the table of rights
abbrev pub turns : Deed → Bool
turns (gate_remake on off early) = true
turns (map_write address value) = true
turns (bank_new n) = false
turns (bank_update h) = false
turns (bank_update_holding_reference h) = false
turns (channel_floor_db k) = false
turns (effective_floor_db k) = false
turns (rise_floor_db k) = false
turns (spectral_reference k) = false
turns (floors k) = false
turns (ring k) = false
turns (explain k) = false
turns (gate_new n on off early lengths) = false
turns (gate_update h rise drop) = false
turns (gate_hold rise drop) = false
turns (smoothed_db k) = false
turns (ema_rise k) = false
turns (log_write n db power) = false
turns log_channels = false
turns (log_read at db power) = false
turns (log_combine first second) = false
turns (worst_new n W) = false
turns (bank_update_worst h) = false
turns (worst_floor k) = false
turns (dispatch count waiting last) = false
turns map_new = false
turns (gate_update_map h rise drop) = false
turns (gate_hold_map rise drop) = false
turns (map_read address) = false
turns map_wire = false
turns (bank_update_linear held power) = false
turns (gate_update_linear power rise drop) = false
turns (bank_update_linear_worst held power) = false
turns (gate_update_linear_map power rise drop) = false
turns (receive r) = false

abbrev pub only_turns : List Deed → List Deed
only_turns [] = []
only_turns (d ∷ ds) = cond (turns d) (d ∷ only_turns ds) (only_turns ds)

-- the bank, the store of R-6 and the log
pub record SameBut (e f : Lent) : Type 0 where
  pub bu : e.set.bu ≡ f.set.bu
  pub bf : e.set.bf ≡ f.set.bf
  pub wu : e.set.wu ≡ f.set.wu
  pub wf : e.set.wf ≡ f.set.wf
  pub log : e.log ≡ f.log

-- of leaders alone: every bank, every store of R-6 and every log is as it was; and a gate and a map change only by remake and writes, since all is
-- as those alone leave it
pub record LeadersLeave (ds : List Deed) (e : Lent) : Type 0 where
  pub others : SameBut (leaves_by leader e ds) e
  pub by_turns : leaves_by leader e ds ≡ leaves_by leader e (only_turns ds)

abbrev pub LeadersAlone : Type 0
LeadersAlone = (ds : List Deed) (e : Lent) → LeadersLeave ds e
