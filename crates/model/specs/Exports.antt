-- Each exported call does what demand 3's step says: from the equation that is its contract, `step`'s answer and stores, and the rises; a remake what
-- the turn of Remake says.
-- In the contracts role is who asks, and r, u, f, m, rise and drop are the answer and what the lent slices hold at exit.
use Rattle.std.specs.Prelude.{◌≡◌, Bool, true, false, List, ℕ, ℤ, Float}
use Rattle.std.proofs.Common.{ap, ◌∙◌}
use Rattle.model.specs.Bank.{Hop}
use Rattle.model.specs.Calls.{bank_update_call}
use Rattle.model.specs.GateCalls.{GateHop, gate_update_call, gate_hold_call}
use Rattle.model.specs.MapCalls.{gate_update_map_call, gate_hold_map_call, map_write_call}
use Rattle.model.specs.WorstCalls.{Answered, worst_update}
use Rattle.model.specs.Decibels.{linear_hop, linear_gate_hop}
use Rattle.roles.specs.Rights.{bank_update, bank_update_holding_reference, bank_update_worst, gate_update, gate_update_map, gate_hold, gate_hold_map, map_write, gate_remake, bank_update_linear, bank_update_linear_worst, gate_update_linear, gate_update_linear_map, as_role}
use Rattle.roles.proofs.Roles.{through}
use Rattle.model.specs.Demand3.{asked_by, bank, gate, hold, write, Stores, does, step, rises_done, rises_of}
use Rattle.model.specs.Remake.{gate_remake_call, remake, turn}

-- a set with these stores for its bank's, its gate's, or its map
abbrev pub with_bank : Stores → List ℕ → List Float → Stores
with_bank s u f = record { bu = u; bf = f; gu = s.gu; gf = s.gf; wu = s.wu; wf = s.wf; map = s.map }

abbrev pub with_worst : Stores → List ℕ → List Float → List ℕ → List Float → Stores
with_worst s u f wu wf = record { bu = u; bf = f; gu = s.gu; gf = s.gf; wu = wu; wf = wf; map = s.map }

abbrev pub with_gate : Stores → List ℕ → List Float → List ℕ → Stores
with_gate s u f m = record { bu = s.bu; bf = s.bf; gu = u; gf = f; wu = s.wu; wf = s.wf; map = m }

-- wolfcloak_bank_update
pub bank_does : (s : Stores) (role : ℕ) (h : Hop) (r : ℕ) (u : List ℕ) (f : List Float)
    → (r, u, f) ≡ as_role bank_update role (λ r. (r, s.bu, s.bf)) (bank_update_call s.bu s.bf h)
    → (r, with_bank s u f) ≡ step s (asked_by role (bank false h))
unfolding step does
bank_does s role h r u f e =
    let on : ℕ × List ℕ × List Float → ℕ × Stores = λ a. (a.0, with_bank s a.1 a.2) in
    ap on e ∙ through on bank_update role (λ r. (r, s.bu, s.bf)) (bank_update_call s.bu s.bf h)

-- wolfcloak_bank_update_holding_reference: its right is the same
pub holding_does : (s : Stores) (role : ℕ) (h : Hop) (r : ℕ) (u : List ℕ) (f : List Float)
    → (r, u, f) ≡ as_role bank_update_holding_reference role (λ r. (r, s.bu, s.bf)) (bank_update_call s.bu s.bf h)
    → (r, with_bank s u f) ≡ step s (asked_by role (bank false h))
unfolding as_role
holding_does s role h r u f e = bank_does s role h r u f e

-- wolfcloak_bank_update_worst
pub carry_does : (s : Stores) (role : ℕ) (h : Hop) (r : ℕ) (u : List ℕ) (f : List Float) (wu : List ℕ) (wf : List Float)
    → (r, u, f, wu, wf) ≡ as_role bank_update_worst role (λ r. (r, s.bu, s.bf, s.wu, s.wf)) (worst_update s.bu s.bf s.wu s.wf h)
    → (r, with_worst s u f wu wf) ≡ step s (asked_by role (bank true h))
unfolding step does
carry_does s role h r u f wu wf e =
    let on : Answered → ℕ × Stores = λ a. (a.0, with_worst s a.1 a.2 a.3 a.4) in
    ap on e ∙ through on bank_update_worst role (λ r. (r, s.bu, s.bf, s.wu, s.wf)) (worst_update s.bu s.bf s.wu s.wf h)

-- wolfcloak_gate_update
pub gate_does : (s : Stores) (role : ℕ) (h : GateHop) (rise drop rise' drop' : List ℕ) (r : ℕ) (u : List ℕ) (f : List Float)
    → (r, u, f, rise', drop') ≡ as_role gate_update role (λ r. (r, s.gu, s.gf, rise, drop)) (gate_update_call s.bu s.bf s.gu s.gf h rise drop)
    → let c = asked_by role (gate false h rise drop) in
    ((r, with_gate s u f s.map) ≡ step s c) × (rise' ≡ rises_of s c)
unfolding step does rises_of rises_done
gate_does s role h rise drop rise' drop' r u f e =
    let on : ℕ × List ℕ × List Float × List ℕ × List ℕ → ℕ × Stores = λ a. (a.0, with_gate s a.1 a.2 s.map) in
    let rises : ℕ × List ℕ × List Float × List ℕ × List ℕ → List ℕ = λ a. a.3 in
    let kept : ℕ → ℕ × List ℕ × List Float × List ℕ × List ℕ = λ r. (r, s.gu, s.gf, rise, drop) in
    let said = gate_update_call s.bu s.bf s.gu s.gf h rise drop in
    (ap on e ∙ through on gate_update role kept said, ap rises e ∙ through rises gate_update role kept said)

-- wolfcloak_gate_hold, which is lent the gate's u16 store to read only
pub hold_does : (s : Stores) (role : ℕ) (rise drop rise' drop' : List ℕ) (r : ℕ) (f : List Float)
    → (r, f, rise', drop') ≡ as_role gate_hold role (λ r. (r, s.gf, rise, drop)) (gate_hold_call s.bu s.bf s.gu s.gf rise drop)
    → let c = asked_by role (hold false rise drop) in
    ((r, with_gate s s.gu f s.map) ≡ step s c) × (rise' ≡ rises_of s c)
unfolding step does rises_of rises_done
hold_does s role rise drop rise' drop' r f e =
    let on : ℕ × List Float × List ℕ × List ℕ → ℕ × Stores = λ a. (a.0, with_gate s s.gu a.1 s.map) in
    let rises : ℕ × List Float × List ℕ × List ℕ → List ℕ = λ a. a.2 in
    let kept : ℕ → ℕ × List Float × List ℕ × List ℕ = λ r. (r, s.gf, rise, drop) in
    let said = gate_hold_call s.bu s.bf s.gu s.gf rise drop in
    (ap on e ∙ through on gate_hold role kept said, ap rises e ∙ through rises gate_hold role kept said)

-- wolfcloak_gate_update_map
pub gate_map_does : (s : Stores) (role : ℕ) (h : GateHop) (rise drop rise' drop' : List ℕ) (r : ℕ) (u : List ℕ) (f : List Float) (m : List ℕ)
    → (r, u, f, m, rise', drop')
    ≡ as_role gate_update_map role (λ r. (r, s.gu, s.gf, s.map, rise, drop)) (gate_update_map_call s.bu s.bf s.gu s.gf s.map h rise drop)
    → let c = asked_by role (gate true h rise drop) in
    ((r, with_gate s u f m) ≡ step s c) × (rise' ≡ rises_of s c)
unfolding step does rises_of rises_done
gate_map_does s role h rise drop rise' drop' r u f m e =
    let on : ℕ × List ℕ × List Float × List ℕ × List ℕ × List ℕ → ℕ × Stores = λ a. (a.0, with_gate s a.1 a.2 a.3) in
    let rises : ℕ × List ℕ × List Float × List ℕ × List ℕ × List ℕ → List ℕ = λ a. a.4 in
    let kept : ℕ → ℕ × List ℕ × List Float × List ℕ × List ℕ × List ℕ = λ r. (r, s.gu, s.gf, s.map, rise, drop) in
    let said = gate_update_map_call s.bu s.bf s.gu s.gf s.map h rise drop in
    (ap on e ∙ through on gate_update_map role kept said, ap rises e ∙ through rises gate_update_map role kept said)

-- wolfcloak_gate_hold_map
pub hold_map_does : (s : Stores) (role : ℕ) (rise drop rise' drop' : List ℕ) (r : ℕ) (f : List Float) (m : List ℕ)
    → (r, f, m, rise', drop')
    ≡ as_role gate_hold_map role (λ r. (r, s.gf, s.map, rise, drop)) (gate_hold_map_call s.bu s.bf s.gu s.gf s.map rise drop)
    → let c = asked_by role (hold true rise drop) in
    ((r, with_gate s s.gu f m) ≡ step s c) × (rise' ≡ rises_of s c)
unfolding step does rises_of rises_done
hold_map_does s role rise drop rise' drop' r f m e =
    let on : ℕ × List Float × List ℕ × List ℕ × List ℕ → ℕ × Stores = λ a. (a.0, with_gate s s.gu a.1 a.2) in
    let rises : ℕ × List Float × List ℕ × List ℕ × List ℕ → List ℕ = λ a. a.3 in
    let kept : ℕ → ℕ × List Float × List ℕ × List ℕ × List ℕ = λ r. (r, s.gf, s.map, rise, drop) in
    let said = gate_hold_map_call s.bu s.bf s.gu s.gf s.map rise drop in
    (ap on e ∙ through on gate_hold_map role kept said, ap rises e ∙ through rises gate_hold_map role kept said)

-- wolfcloak_map_write, which is lent the gate's stores to read only
pub write_does : (s : Stores) (role i v r : ℕ) (m : List ℕ) → (r, m) ≡ as_role map_write role (λ r. (r, s.map)) (map_write_call s.gu s.gf s.map i v)
    → (r, with_gate s s.gu s.gf m) ≡ step s (asked_by role (write i v))
unfolding step does
write_does s role i v r m e =
    let on : ℕ × List ℕ → ℕ × Stores = λ a. (a.0, with_gate s s.gu s.gf a.1) in
    ap on e ∙ through on map_write role (λ r. (r, s.map)) (map_write_call s.gu s.gf s.map i v)

-- R-13: an update from linear power alone is the update above with the dB that it works out, so it counts like it in every guarantee; its right is
-- the same

-- wolfcloak_bank_update_linear
pub linear_bank_does : (s : Stores) (role : ℕ) (held : Bool) (power : List Float) (r : ℕ) (u : List ℕ) (f : List Float)
    → (r, u, f) ≡ as_role bank_update_linear role (λ r. (r, s.bu, s.bf)) (bank_update_call s.bu s.bf (linear_hop held power))
    → (r, with_bank s u f) ≡ step s (asked_by role (bank false (linear_hop held power)))
unfolding as_role
linear_bank_does s role held power r u f e = bank_does s role (linear_hop held power) r u f e

-- wolfcloak_gate_update_linear
pub linear_gate_does : (s : Stores) (role : ℕ) (power : List Float) (rise drop rise' drop' : List ℕ) (r : ℕ) (u : List ℕ) (f : List Float)
    → (r, u, f, rise', drop')
    ≡ as_role gate_update_linear role (λ r. (r, s.gu, s.gf, rise, drop)) (gate_update_call s.bu s.bf s.gu s.gf (linear_gate_hop power) rise drop)
    → let c = asked_by role (gate false (linear_gate_hop power) rise drop) in
    ((r, with_gate s u f s.map) ≡ step s c) × (rise' ≡ rises_of s c)
unfolding as_role
linear_gate_does s role power rise drop rise' drop' r u f e = gate_does s role (linear_gate_hop power) rise drop rise' drop' r u f e

-- wolfcloak_gate_update_linear_map
pub linear_gate_map_does : (s : Stores) (role : ℕ) (power : List Float) (rise drop rise' drop' : List ℕ) (r : ℕ) (u : List ℕ) (f : List Float) (m : List ℕ)
    → (r, u, f, m, rise', drop')
    ≡ as_role gate_update_linear_map role (λ r. (r, s.gu, s.gf, s.map, rise, drop))
    (gate_update_map_call s.bu s.bf s.gu s.gf s.map (linear_gate_hop power) rise drop)
    → let c = asked_by role (gate true (linear_gate_hop power) rise drop) in
    ((r, with_gate s u f m) ≡ step s c) × (rise' ≡ rises_of s c)
unfolding as_role
linear_gate_map_does s role power rise drop rise' drop' r u f m e = gate_map_does s role (linear_gate_hop power) rise drop rise' drop' r u f m e

-- wolfcloak_bank_update_linear_worst
pub linear_carry_does : (s : Stores) (role : ℕ) (held : Bool) (power : List Float) (r : ℕ) (u : List ℕ) (f : List Float) (wu : List ℕ) (wf : List Float)
    → (r, u, f, wu, wf)
    ≡ as_role bank_update_linear_worst role (λ r. (r, s.bu, s.bf, s.wu, s.wf)) (worst_update s.bu s.bf s.wu s.wf (linear_hop held power))
    → (r, with_worst s u f wu wf) ≡ step s (asked_by role (bank true (linear_hop held power)))
unfolding as_role
linear_carry_does s role held power r u f wu wf e = carry_does s role (linear_hop held power) r u f wu wf e

-- ---- and a remake what the turn of `Season`'s lists says

-- wolfcloak_gate_remake. It is lent no map, so one beside the gate stays as it is
pub remake_does : (s : Stores) (role : ℕ) (on off early : ℤ) (r : ℕ) (u : List ℕ) (f : List Float)
    → (r, u, f) ≡ as_role gate_remake role (λ r. (r, s.gu, s.gf)) (gate_remake_call s.gu s.gf on off early)
    → (r, with_gate s u f s.map) ≡ turn s (remake role on off early)
unfolding turn
remake_does s role on off early r u f e =
    let on-gate : ℕ × List ℕ × List Float → ℕ × Stores = λ a. (a.0, with_gate s a.1 a.2 s.map) in
    ap on-gate e ∙ through on-gate gate_remake role (λ r. (r, s.gu, s.gf)) (gate_remake_call s.gu s.gf on off early)
