-- R-14: keepers change nothing, leaders gates and maps alone. Assumes nothing.
use mathlib.Core.Path.{◌≡◌, refl, ap, ◌∙◌}
use mathlib.Core.List.{List, [], ◌∷◌}
use Rattle.roles.specs.Rights.{keeper, leader, as_role}
use Rattle.rights.specs.AllCalls.{Lent, Deed, does, leaves, leaves_by, bank_new, bank_update, bank_update_holding_reference, bank_update_worst, channel_floor_db, dispatch, effective_floor_db, ema_rise, explain, floors, gate_hold, gate_hold_map, gate_new, gate_remake, gate_update, gate_update_map, log_channels, log_combine, log_read, log_write, map_new, map_read, map_wire, map_write, ring, rise_floor_db, smoothed_db, spectral_reference, worst_floor, worst_new, bank_update_linear, gate_update_linear, bank_update_linear_worst, gate_update_linear_map, receive}
use Rattle.rights.specs.Alone.{KeepersAlone, only_turns, SameBut, LeadersAlone}

-- a keeper's call is stopped or only reads
keeper-leaves : (e : Lent) (d : Deed) → leaves keeper e d ≡ e
unfolding leaves does as_role
keeper-leaves e (bank_new n) = refl
keeper-leaves e (bank_update h) = refl
keeper-leaves e (bank_update_holding_reference h) = refl
keeper-leaves e (channel_floor_db k) = refl
keeper-leaves e (effective_floor_db k) = refl
keeper-leaves e (rise_floor_db k) = refl
keeper-leaves e (spectral_reference k) = refl
keeper-leaves e (floors k) = refl
keeper-leaves e (ring k) = refl
keeper-leaves e (explain k) = refl
keeper-leaves e (gate_new n on off early lengths) = refl
keeper-leaves e (gate_update h rise drop) = refl
keeper-leaves e (gate_hold rise drop) = refl
keeper-leaves e (gate_remake on off early) = refl
keeper-leaves e (smoothed_db k) = refl
keeper-leaves e (ema_rise k) = refl
keeper-leaves e (log_write n db power) = refl
keeper-leaves e log_channels = refl
keeper-leaves e (log_read at db power) = refl
keeper-leaves e (log_combine first second) = refl
keeper-leaves e (worst_new n W) = refl
keeper-leaves e (bank_update_worst h) = refl
keeper-leaves e (worst_floor k) = refl
keeper-leaves e (dispatch count waiting last) = refl
keeper-leaves e map_new = refl
keeper-leaves e (gate_update_map h rise drop) = refl
keeper-leaves e (gate_hold_map rise drop) = refl
keeper-leaves e (map_read address) = refl
keeper-leaves e (map_write address value) = refl
keeper-leaves e map_wire = refl
keeper-leaves e (bank_update_linear held power) = refl
keeper-leaves e (gate_update_linear power rise drop) = refl
keeper-leaves e (bank_update_linear_worst held power) = refl
keeper-leaves e (gate_update_linear_map power rise drop) = refl
keeper-leaves e (receive r) = refl

pub keepers-alone : KeepersAlone
keepers-alone [] e = refl
keepers-alone (d ∷ ds) e = ap (λ (f : Lent). leaves_by keeper f ds) (keeper-leaves e d) ∙ keepers-alone ds e

-- a leader's call leaves all but a gate and a map
leader-leaves : (e : Lent) (d : Deed) → SameBut (leaves leader e d) e
unfolding leaves does as_role
leader-leaves e (bank_new n) = record { bu = refl; bf = refl; wu = refl; wf = refl; log = refl }
leader-leaves e (bank_update h) = record { bu = refl; bf = refl; wu = refl; wf = refl; log = refl }
leader-leaves e (bank_update_holding_reference h) = record { bu = refl; bf = refl; wu = refl; wf = refl; log = refl }
leader-leaves e (channel_floor_db k) = record { bu = refl; bf = refl; wu = refl; wf = refl; log = refl }
leader-leaves e (effective_floor_db k) = record { bu = refl; bf = refl; wu = refl; wf = refl; log = refl }
leader-leaves e (rise_floor_db k) = record { bu = refl; bf = refl; wu = refl; wf = refl; log = refl }
leader-leaves e (spectral_reference k) = record { bu = refl; bf = refl; wu = refl; wf = refl; log = refl }
leader-leaves e (floors k) = record { bu = refl; bf = refl; wu = refl; wf = refl; log = refl }
leader-leaves e (ring k) = record { bu = refl; bf = refl; wu = refl; wf = refl; log = refl }
leader-leaves e (explain k) = record { bu = refl; bf = refl; wu = refl; wf = refl; log = refl }
leader-leaves e (gate_new n on off early lengths) = record { bu = refl; bf = refl; wu = refl; wf = refl; log = refl }
leader-leaves e (gate_update h rise drop) = record { bu = refl; bf = refl; wu = refl; wf = refl; log = refl }
leader-leaves e (gate_hold rise drop) = record { bu = refl; bf = refl; wu = refl; wf = refl; log = refl }
leader-leaves e (gate_remake on off early) = record { bu = refl; bf = refl; wu = refl; wf = refl; log = refl }
leader-leaves e (smoothed_db k) = record { bu = refl; bf = refl; wu = refl; wf = refl; log = refl }
leader-leaves e (ema_rise k) = record { bu = refl; bf = refl; wu = refl; wf = refl; log = refl }
leader-leaves e (log_write n db power) = record { bu = refl; bf = refl; wu = refl; wf = refl; log = refl }
leader-leaves e log_channels = record { bu = refl; bf = refl; wu = refl; wf = refl; log = refl }
leader-leaves e (log_read at db power) = record { bu = refl; bf = refl; wu = refl; wf = refl; log = refl }
leader-leaves e (log_combine first second) = record { bu = refl; bf = refl; wu = refl; wf = refl; log = refl }
leader-leaves e (worst_new n W) = record { bu = refl; bf = refl; wu = refl; wf = refl; log = refl }
leader-leaves e (bank_update_worst h) = record { bu = refl; bf = refl; wu = refl; wf = refl; log = refl }
leader-leaves e (worst_floor k) = record { bu = refl; bf = refl; wu = refl; wf = refl; log = refl }
leader-leaves e (dispatch count waiting last) = record { bu = refl; bf = refl; wu = refl; wf = refl; log = refl }
leader-leaves e map_new = record { bu = refl; bf = refl; wu = refl; wf = refl; log = refl }
leader-leaves e (gate_update_map h rise drop) = record { bu = refl; bf = refl; wu = refl; wf = refl; log = refl }
leader-leaves e (gate_hold_map rise drop) = record { bu = refl; bf = refl; wu = refl; wf = refl; log = refl }
leader-leaves e (map_read address) = record { bu = refl; bf = refl; wu = refl; wf = refl; log = refl }
leader-leaves e (map_write address value) = record { bu = refl; bf = refl; wu = refl; wf = refl; log = refl }
leader-leaves e map_wire = record { bu = refl; bf = refl; wu = refl; wf = refl; log = refl }
leader-leaves e (bank_update_linear held power) = record { bu = refl; bf = refl; wu = refl; wf = refl; log = refl }
leader-leaves e (gate_update_linear power rise drop) = record { bu = refl; bf = refl; wu = refl; wf = refl; log = refl }
leader-leaves e (bank_update_linear_worst held power) = record { bu = refl; bf = refl; wu = refl; wf = refl; log = refl }
leader-leaves e (gate_update_linear_map power rise drop) = record { bu = refl; bf = refl; wu = refl; wf = refl; log = refl }
leader-leaves e (receive r) = record { bu = refl; bf = refl; wu = refl; wf = refl; log = refl }

pub leaders-leave : (ds : List Deed) (e : Lent) → SameBut (leaves_by leader e ds) e
leaders-leave [] e = record { bu = refl; bf = refl; wu = refl; wf = refl; log = refl }
leaders-leave (d ∷ ds) e =
    let a = leaders-leave ds (leaves leader e d) in
    let b = leader-leaves e d in
    record { bu = a.bu ∙ b.bu; bf = a.bf ∙ b.bf; wu = a.wu ∙ b.wu; wf = a.wf ∙ b.wf; log = a.log ∙ b.log }

-- one that is neither a remake nor a write leaves everything
turns-only : (ds : List Deed) (e : Lent) → leaves_by leader e ds ≡ leaves_by leader e (only_turns ds)
unfolding leaves does as_role
turns-only [] e = refl
turns-only ((bank_new n) ∷ ds) e = turns-only ds e
turns-only ((bank_update h) ∷ ds) e = turns-only ds e
turns-only ((bank_update_holding_reference h) ∷ ds) e = turns-only ds e
turns-only ((channel_floor_db k) ∷ ds) e = turns-only ds e
turns-only ((effective_floor_db k) ∷ ds) e = turns-only ds e
turns-only ((rise_floor_db k) ∷ ds) e = turns-only ds e
turns-only ((spectral_reference k) ∷ ds) e = turns-only ds e
turns-only ((floors k) ∷ ds) e = turns-only ds e
turns-only ((ring k) ∷ ds) e = turns-only ds e
turns-only ((explain k) ∷ ds) e = turns-only ds e
turns-only ((gate_new n on off early lengths) ∷ ds) e = turns-only ds e
turns-only ((gate_update h rise drop) ∷ ds) e = turns-only ds e
turns-only ((gate_hold rise drop) ∷ ds) e = turns-only ds e
turns-only (gate_remake on off early ∷ ds) e = turns-only ds (leaves leader e (gate_remake on off early))
turns-only ((smoothed_db k) ∷ ds) e = turns-only ds e
turns-only ((ema_rise k) ∷ ds) e = turns-only ds e
turns-only ((log_write n db power) ∷ ds) e = turns-only ds e
turns-only (log_channels ∷ ds) e = turns-only ds e
turns-only ((log_read at db power) ∷ ds) e = turns-only ds e
turns-only ((log_combine first second) ∷ ds) e = turns-only ds e
turns-only ((worst_new n W) ∷ ds) e = turns-only ds e
turns-only ((bank_update_worst h) ∷ ds) e = turns-only ds e
turns-only ((worst_floor k) ∷ ds) e = turns-only ds e
turns-only ((dispatch count waiting last) ∷ ds) e = turns-only ds e
turns-only (map_new ∷ ds) e = turns-only ds e
turns-only ((gate_update_map h rise drop) ∷ ds) e = turns-only ds e
turns-only ((gate_hold_map rise drop) ∷ ds) e = turns-only ds e
turns-only ((map_read address) ∷ ds) e = turns-only ds e
turns-only (map_write address value ∷ ds) e = turns-only ds (leaves leader e (map_write address value))
turns-only (map_wire ∷ ds) e = turns-only ds e
turns-only ((bank_update_linear held power) ∷ ds) e = turns-only ds e
turns-only ((gate_update_linear power rise drop) ∷ ds) e = turns-only ds e
turns-only ((bank_update_linear_worst held power) ∷ ds) e = turns-only ds e
turns-only ((gate_update_linear_map power rise drop) ∷ ds) e = turns-only ds e
turns-only ((receive r) ∷ ds) e = turns-only ds e

pub leaders-alone : LeadersAlone
leaders-alone ds e = record { others = leaders-leave ds e; by_turns = turns-only ds e }
