-- `gate_step::step`: the samples stand in front of the array, and the three steps are the gate's.
use Rattle.std.proofs.Common.{◌≡◌, ◌≤◌, ◌++◌, List, ℕ, length, get_or, take, drop, sym, ap, ◌∙◌, arith}
use lib.ListN.{replicate}
use lib.Seq.{length-take-le}
use lib.Ieee.{Float}
use Rattle.laws.specs.Lists.{tab}
use Rattle.laws.proofs.Tabs.{length-tab}
use Rattle.model.specs.Numbers.{f0}
use Rattle.model.specs.Gate.{sample_of}
use Rattle.model.specs.GoodGate.{GateReady}
use Rattle.model.proofs.GoodGates.{sizes}
use Rattle.gate_step.proofs.Samples.{samples-fit, samples-are}
use Rattle.gate_step.proofs.Stages.{smoothed-ready, step-done}
use Rattle.gate_step.proofs.step.Goals as goal

-- as it is before the samples are in it
abbrev array : List Float
array = replicate 512 f0

-- a hop has room there
few : (u : List ℕ) (f power : List Float) → GateReady u f → length power ≡ get_or u 0 0 → length power ≤ 512
few u f power r e = omega (arith, (sizes u f r).high)

-- the samples that are lent to the windows
lent : (x power : List Float) → length power ≤ 512 → x ≡ tab (length (take (length power) array)) (sample_of power)
    → length (take (length power) (x ++ drop (length power) array)) ≡ length power
lent x power h e = ap length (samples-are array x power h e) ∙ length-tab (length power) (sample_of power)

pub slice_bounds-samples-end : goal.slice_bounds-samples-end
slice_bounds-samples-end c = few c.args.gate.now c.args.gate_f.now c.args.power.now c.requires.0 c.requires.2

pub slice_bounds-start_powers-end : goal.slice_bounds-start_powers-end
slice_bounds-start_powers-end c =
    sym (length-take-le (length c.args.power.now) array (few c.args.gate.now c.args.gate_f.now c.args.power.now c.requires.0 c.requires.2))

pub start_powers-requires : goal.start_powers-requires
start_powers-requires c =
    sym (length-take-le (length c.args.power.now) array (few c.args.gate.now c.args.gate_f.now c.args.power.now c.requires.0 c.requires.2))

pub slice_bounds-samples-end-2 : goal.slice_bounds-samples-end-2
slice_bounds-samples-end-2 c =
    let a = c.args in
    samples-fit array c.start_powers.new.smooth a.power.now (few a.gate.now a.gate_f.now a.power.now c.requires.0 c.requires.2) c.start_powers.ensures

pub slice_bounds-step_looks-end : goal.slice_bounds-step_looks-end
slice_bounds-step_looks-end c =
    let a = c.args in
    sym (lent c.start_powers.new.smooth a.power.now (few a.gate.now a.gate_f.now a.power.now c.requires.0 c.requires.2) c.start_powers.ensures)

pub step_looks-requires : goal.step_looks-requires
step_looks-requires c =
    let a = c.args in (
      smoothed-ready a.gate.now a.gate_f.now c.requires.0 a.power_db.now c.smooth_db.new.gate_f c.smooth_db.ensures,
      lent c.start_powers.new.smooth a.power.now (few a.gate.now a.gate_f.now a.power.now c.requires.0 c.requires.2) c.start_powers.ensures ∙ c.requires.2,
    )

pub returns : goal.returns
returns c =
    let a = c.args in
    let power = a.power.now in
    let h = few a.gate.now a.gate_f.now power c.requires.0 c.requires.2 in
    step-done a.gate.now a.gate_f.now c.requires.0 a.power_db.now c.smooth_db.new.gate_f c.smooth_db.ensures _ power c.step_looks.new.gate c.step_looks.new.gate_f
    (samples-are array c.start_powers.new.smooth power h c.start_powers.ensures ∙ ap (λ (n : ℕ). tab n (sample_of power)) c.requires.2) c.step_looks.ensures
