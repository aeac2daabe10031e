use Rattle.std.proofs.Common.{rules}
use Rattle.gate_making.proofs.Makes.{pairs_put}
use Rattle.gate_making.proofs.fresh_f.Goals as goal

pub returns : goal.returns
returns c = pairs_put c.args.gate_f.now c.args.n c.fill.new.self c.fill-2.new.self c.requires (c.fill.ensures.after (λ y k. search rules)) (c.fill-2.ensures.after (λ y k. search rules))
