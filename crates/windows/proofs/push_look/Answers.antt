-- `windows::push_look`: the windows as they stand in the part, channel by channel.
use Rattle.std.proofs.Common.{refl, sym, ap, ◌∙◌, length, get_or}
use Rattle.std.proofs.Math.ListN.{length-set}
use native.Mathlib.Nat.{le_antisymm}
use lib.Ieee.{nan}
use Rattle.laws.proofs.Defaults.{get_d_any}
use Rattle.cursors.specs.declared.Middle.{Middle}
use Rattle.model.specs.Numbers.{f0}
use Rattle.model.proofs.WindowStores.{look-forth, read-shaped}
use Rattle.windows.specs.Looks.{looks_in, sample_at}
use Rattle.windows.proofs.Loops.{pushed_to, push-begins, push-turns, push-done}
use Rattle.windows.proofs.push_look.Goals as goal

pub loop-k-init : goal.loop-k-init
loop-k-init c =
    let p = c.args.samples.now in
    let l = c.args.look.now in
    let d = c.args.c in
    let f = c.requires.0.long in
    record {
      taken =
          sym (look-forth (length p) d.m d.at d.filled l f)
          ∙ push-begins (sample_at p) (length p) (looks_in l d (length p)) (read-shaped (length p) d.m d.at d.filled l f);
      as_long = refl;
    }

pub loop-k-preserved : goal.loop-k-preserved
loop-k-preserved c =
    let p = c.args.samples.now in
    let l = c.args.look.now in
    let d = c.args.c in
    let k = c.loop-k.k in
    let h = c.loop-k-test.true in
    record {
      taken =
          push-turns (sample_at p) (length p) (looks_in l d (length p)) (read-shaped (length p) d.m d.at d.filled l c.requires.0.long) k h
          c.requires.1.at_below c.middle-half.result.place c.loop-k.look (get_or p k nan)
          (ap (λ (r : Middle). r.place) c.middle-half.ensures.0) c.middle-half.ensures.1 c.loop-k.invariant.taken (get_d_any p k nan f0 h);
      as_long = simp length-set c.loop-k.invariant.as_long;
    }

pub returns : goal.returns
returns c =
    let p = c.args.samples.now in
    let l = c.args.look.now in
    let d = c.args.c in
    let s = looks_in l d (length p) in
    c.loop-k.invariant.taken
    ∙ ap (pushed_to (sample_at p) s) (le_antisymm c.loop-k.auto.k-end c.loop-k-test.false)
    ∙ push-done (sample_at p) (length p) s (read-shaped (length p) d.m d.at d.filled l c.requires.0.long)
