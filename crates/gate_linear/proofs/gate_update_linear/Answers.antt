-- Past the refusals the hop is taken with the dB that were worked out. Assumes nothing.
use Rattle.std.proofs.Common.{◌≡◌, ◌≤◌, ◌∙◌, sym, ap, subst, ℕ, List, length, arith}
use Rattle.std.proofs.lemmas.Result.{err_from_is_err_and}
use lib.Ieee.{Float}
use Rattle.model.specs.Bank.{FloorBank}
use Rattle.model.specs.Stores.{bank_of}
use Rattle.model.specs.Gate.{Gate, update_step}
use Rattle.model.specs.GateStores.{gate_of}
use Rattle.model.specs.GateCalls.{gate_update_refusal}
use Rattle.model.specs.Decibels.{decibels, linear_gate_hop}
use Rattle.model.proofs.GoodGates.{n-of}
use Rattle.model.proofs.Decibels.{decibels-long}
use Rattle.decibels.proofs.Hops.{in-front-long, in-the-array}
use Rattle.gate.specs.Hops.{Takes, Taken}
use Rattle.refusals.proofs.Answers.{refuses}
use Rattle.gate.proofs.Calls.{update-asked, update-refused, updated}
use Rattle.gate_linear.proofs.gate_update_linear.Goals as goal

-- as many dB as powers are measured
measured : (r : ℕ) (bu : List ℕ) (bf : List Float) (gu : List ℕ) (gf power : List Float) (rise drop : List ℕ)
    → r ≡ gate_update_refusal bu bf gu gf (length power) (length power) (length rise) (length drop)
    → r ≡ gate_update_refusal bu bf gu gf (length (decibels power)) (length power) (length rise) (length drop)
measured r bu bf gu gf power rise drop e =
    e ∙ ap (λ (n : ℕ). gate_update_refusal bu bf gu gf n (length power) (length rise) (length drop)) (sym (decibels-long power))

-- past the test the update is not refused
asked : (bu : List ℕ) (bf : List Float) (gu : List ℕ) (gf power : List Float) (rise drop : List ℕ)
    → 0 ≡ gate_update_refusal bu bf gu gf (length power) (length power) (length rise) (length drop)
    → Takes bu bf gu gf (length (decibels power)) (length power) (length rise) (length drop)
asked bu bf gu gf power rise drop e =
    update-asked bu bf gu gf (length (decibels power)) (length power) (length rise) (length drop) (sym (measured 0 bu bf gu gf power rise drop e))

-- the hop taken with the dB that were worked out
with-db : (g : Gate) (b : FloorBank) (power db db' : List Float) (u : List ℕ) (f : List Float) (rise drop : List ℕ) → db ≡ db'
    → Taken (update_step g b db power) b u f rise drop → Taken (update_step g b db' power) b u f rise drop
with-db g b power db db' u f rise drop e t = subst (λ (x : List Float). Taken (update_step g b x power) b u f rise drop) e t

pub returns-in_err-gate_update_refusal : goal.returns-in_err-gate_update_refusal
returns-in_err-gate_update_refusal c =
    let a = c.args in
    let p = err_from_is_err_and c.from_residual.result c.from_residual.ensures.1 in
    rw (p.1, p.2)
    (update-refused a.bank.now a.bank_f.now a.gate.now a.gate_f.now (linear_gate_hop a.power.now) a.rise.now a.drop.now _
    (measured _ a.bank.now a.bank_f.now a.gate.now a.gate_f.now a.power.now a.rise.now a.drop.now c.in_err-gate_update_refusal.ensures) (refuses _))

pub hop_db-db-requires : goal.hop_db-db-requires
hop_db-db-requires c =
    let a = c.args in
    let t = asked a.bank.now a.bank_f.now a.gate.now a.gate_f.now a.power.now a.rise.now a.drop.now c.in_ok-gate_update_refusal.ensures in
    let h : length a.power.now ≤ 512 = omega (arith, t.power_long, t.paired.gate.good.high, n-of a.gate.now a.gate_f.now) in
    h

pub slice_bounds-db-end : goal.slice_bounds-db-end
slice_bounds-db-end c = in-the-array c.args.power.now c.hop_db-db.result c.hop_db-db.ensures

pub slice_bounds-take_hop-end : goal.slice_bounds-take_hop-end
slice_bounds-take_hop-end c = sym (in-front-long c.args.power.now c.hop_db-db.result c.hop_db-db.ensures)

pub take_hop-requires : goal.take_hop-requires
take_hop-requires c =
    let a = c.args in
    let t = asked a.bank.now a.bank_f.now a.gate.now a.gate_f.now a.power.now a.rise.now a.drop.now c.in_ok-gate_update_refusal.ensures in
    record {
      paired = t.paired;
      db_long = in-front-long a.power.now c.hop_db-db.result c.hop_db-db.ensures ∙ t.power_long;
      power_long = t.power_long;
      rise_long = t.rise_long;
      drop_long = t.drop_long;
    }

pub returns : goal.returns
returns c =
    let a = c.args in
    updated a.bank.now a.bank_f.now a.gate.now a.gate_f.now (linear_gate_hop a.power.now) a.rise.now a.drop.now _ _ _ _
    (sym (measured 0 a.bank.now a.bank_f.now a.gate.now a.gate_f.now a.power.now a.rise.now a.drop.now c.in_ok-gate_update_refusal.ensures))
    (with-db (gate_of a.gate.now a.gate_f.now) (bank_of a.bank.now a.bank_f.now) a.power.now _ _ _ _ _ _ c.hop_db-db.ensures c.take_hop.ensures)
