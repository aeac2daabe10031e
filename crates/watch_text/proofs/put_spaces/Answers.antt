use Rattle.std.proofs.Common.{ℕ, sym, ap, ◌∙◌, add-one, rules}
use Rattle.watch_text.proofs.Lines.{put-space}
use Rattle.watch_text.specs.Text.{Written, written, put_byte, put_all, spaces}
use Rattle.watch_text.proofs.put_spaces.Goals as goal

pub loop-init : goal.loop-init
unfolding put_all spaces
loop-init c = search rules

pub loop-preserved : goal.loop-preserved
loop-preserved c =
    let w : Written = written c.args.line.now in
    c.put.ensures ∙ ap (λ (v : Written). put_byte v 32) c.loop.invariant ∙ put-space w c.loop.counter ∙ ap (λ (i : ℕ). put_all w (spaces i)) (sym (add-one c.loop.counter))
