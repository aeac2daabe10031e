-- `windows::rebase_look`: each channel's two sums, of the halves of its ring.
use Rattle.std.proofs.Common.{refl, sym, ap, ◌∙◌}
use Rattle.std.proofs.Math.ListN.{length-set}
use native.Mathlib.Nat.{le_antisymm}
use Rattle.model.specs.Numbers.{f0}
use Rattle.model.specs.Windows.{total}
use Rattle.model.proofs.WindowStores.{look-forth, read-shaped}
use Rattle.windows.specs.Looks.{looks_in}
use Rattle.windows.proofs.Loops.{rebased_to, first-half, last-half, rebase-turns, rebase-done}
use Rattle.windows.proofs.rebase_look.Goals as goal

pub loop-k-init : goal.loop-k-init
loop-k-init c = record {
  afresh = sym (look-forth c.args.n c.args.c.m c.args.c.at c.args.c.filled c.args.look.now c.requires.long);
  as_long = refl;
}

pub loop-k-preserved : goal.loop-k-preserved
loop-k-preserved c =
    let n = c.args.n in
    let s = looks_in c.args.look.now c.args.c n in
    let sh = read-shaped n c.args.c.m c.args.c.at c.args.c.filled c.args.look.now c.requires.long in
    let k = c.loop-k.k in
    let l = c.loop-k.look in
    let h = c.loop-k-test.true in
    let is = c.loop-k.invariant.afresh in
    record {
      afresh =
          rebase-turns n s sh k h l is c.sum-p.result c.sum-r.result
          (c.sum-p.ensures ∙ ap (total f0) (first-half n s sh k h l is))
          (c.sum-r.ensures ∙ ap (total f0) (last-half n s sh k h l is));
      as_long = simp length-set c.loop-k.invariant.as_long;
    }

pub returns : goal.returns
returns c =
    let n = c.args.n in
    let s = looks_in c.args.look.now c.args.c n in
    c.loop-k.invariant.afresh
    ∙ ap (rebased_to s) (le_antisymm c.loop-k.auto.k-end c.loop-k-test.false)
    ∙ rebase-done n s (read-shaped n c.args.c.m c.args.c.at c.args.c.filled c.args.look.now c.requires.long)
