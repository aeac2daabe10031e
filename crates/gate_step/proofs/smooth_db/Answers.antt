-- `gate_step::smooth_db`: the smoothed dB are the first n floats.
use Rattle.std.proofs.Common.{◌≡◌, ◌≤◌, ◌-◌, length, get_or, refl, ◌∙◌, arith}
use Rattle.laws.proofs.Lists.{length_part}
use Rattle.gate_cursors.proofs.Lengths.{smooth-within}
use Rattle.gate_step.proofs.Stages.{starts, follows, smooth-done}
use Rattle.gate_step.proofs.smooth_db.Goals as goal

pub slice_bounds-start_db-end : goal.slice_bounds-start_db-end
slice_bounds-start_db-end c = omega (arith, smooth-within c.args.gate.now c.args.gate_f.now c.requires.0)

pub slice_bounds-follow_db-end : goal.slice_bounds-follow_db-end
slice_bounds-follow_db-end c = omega (arith, smooth-within c.args.gate.now c.args.gate_f.now c.requires.0)

pub returns-then-gate-eq0 : goal.returns-then-gate-eq0
returns-then-gate-eq0 c =
    let u = c.args.gate.now in
    let f = c.args.gate_f.now in
    let db = c.args.power_db.now in
    let w : length db - 0 ≡ get_or u 0 0 = omega arith in
    let fits : length db ≤ length f = omega (arith, smooth-within u f c.requires.0) in
    smooth-done u f c.requires.0 db (length db - 0) w c.start_db.new.smooth _
    (c.start_db.ensures ∙ starts u f c.requires.0 db (length db - 0) w c.if-gate-eq0.true _ (length_part 0 (length db - 0) f (omega arith))) refl

pub returns-else-gate-eq0 : goal.returns-else-gate-eq0
returns-else-gate-eq0 c =
    let u = c.args.gate.now in
    let f = c.args.gate_f.now in
    let db = c.args.power_db.now in
    let w : length db - 0 ≡ get_or u 0 0 = omega arith in
    let fits : length db ≤ length f = omega (arith, smooth-within u f c.requires.0) in
    smooth-done u f c.requires.0 db (length db - 0) w c.follow_db.new.smooth _
    (c.follow_db.ensures ∙ follows u f c.requires.0 db (length db - 0) w c.if-gate-eq0.false _ (length_part 0 (length db - 0) f (omega arith))) refl
