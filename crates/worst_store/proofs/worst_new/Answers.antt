use Rattle.std.proofs.Common.{rules}
use Rattle.worst_store.proofs.Worsts.{new_made}
use Rattle.worst_store.proofs.worst_new.Goals as goal

pub returns : goal.returns
returns c =
    new_made c.args.worst.now c.args.worst_f.now c.args.n c.args.w c.copy_from_slice.new.self c.fill.new.self c.in_ok-make_refusal.ensures c.copy_from_slice.ensures.after (c.fill.ensures.after (λ y k. search rules))
