-- `gate::take_hop`: the gate that it leaves is the one that it judges.
use Rattle.std.proofs.Common.{◌≡◌, sym, ◌∙◌, List, ℕ, get_or}
use lib.Ieee.{Float}
use Rattle.model.specs.Stores.{bank_of}
use Rattle.model.specs.Gate.{update_step, gate_step, refresh}
use Rattle.model.specs.GateStores.{gate_of, gate_floats}
use Rattle.gate_cursors.specs.Paired.{Paired, Marked}
use Rattle.gate_step.specs.Steps.{Holds}
use Rattle.gate.specs.Hops.{Taken}
use Rattle.gate.proofs.Calls.{left-n, left-paired, left-marked, hop-good, hop-n, update-good, update-n, update-holds}
use Rattle.gate.proofs.take_hop.Goals as goal

-- u' and f' are what the step leaves, and f'' the pairs brought up to date
module _ (bu : List ℕ) (bf : List Float) (gu : List ℕ) (gf : List Float) (p : Paired bu bf gu gf) (db power : List Float) (u' : List ℕ) (f' : List Float) (h : Holds (gate_step (gate_of gu gf) db power) u' f') where
  stepped : Paired bu bf u' f'
  stepped = left-paired bu bf gu gf p _ (hop-good bu bf gu gf p db power) (hop-n bu bf gu gf p db power) u' f' h

  module _ (f'' : List Float) (e : f'' ≡ gate_floats (refresh (gate_of u' f') (bank_of bu bf))) where
    holds : Holds (update_step (gate_of gu gf) (bank_of bu bf) db power) u' f''
    holds = update-holds bu bf gu gf p db power u' f' f'' h e

    judged : Paired bu bf u' f''
    judged = left-paired bu bf gu gf p _ (update-good bu bf gu gf p db power) (update-n bu bf gu gf p db power) u' f'' holds

    same_n : get_or u' 0 0 ≡ get_or gu 0 0
    same_n = left-n bu bf gu gf p _ (update-good bu bf gu gf p db power) (update-n bu bf gu gf p db power) u' f'' holds

    taken : (rise drop : List ℕ) → Marked (gate_of u' f'') (bank_of bu bf) rise drop
        → Taken (update_step (gate_of gu gf) (bank_of bu bf) db power) (bank_of bu bf) u' f'' rise drop
    taken rise drop m =
        record {
          holds = holds;
          marked = left-marked bu bf gu gf p _ (update-good bu bf gu gf p db power) (update-n bu bf gu gf p db power) u' f'' holds (bank_of bu bf) rise drop m;
        }

pub refresh-requires : goal.refresh-requires
refresh-requires c =
    let a = c.args in
    stepped a.bank.now a.bank_f.now a.gate.now a.gate_f.now c.requires.paired a.power_db.now a.power.now _ _ c.step.ensures

pub judge-requires : goal.judge-requires
judge-requires c =
    let a = c.args in
    let n = same_n a.bank.now a.bank_f.now a.gate.now a.gate_f.now c.requires.paired a.power_db.now a.power.now _ _ c.step.ensures _ c.refresh.ensures in (
      judged a.bank.now a.bank_f.now a.gate.now a.gate_f.now c.requires.paired a.power_db.now a.power.now _ _ c.step.ensures _ c.refresh.ensures,
      c.requires.rise_long ∙ sym n,
      c.requires.drop_long ∙ sym n,
    )

pub returns : goal.returns
returns c =
    let a = c.args in
    taken a.bank.now a.bank_f.now a.gate.now a.gate_f.now c.requires.paired a.power_db.now a.power.now _ _ c.step.ensures _ c.refresh.ensures _ _ c.judge.ensures
