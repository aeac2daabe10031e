use Rattle.std.proofs.Common.{rules}
use Rattle.bank_making.proofs.Makes.{fresh_floats}
use Rattle.bank_making.proofs.fresh_f.Goals as goal

pub returns : goal.returns
returns c =
    fresh_floats c.args.n c.blocks-b.result c.args.bank_f.now c.fill.new.self c.fill-2.new.self c.fill-3.new.self c.requires.1 c.blocks-b.ensures.0
    (c.fill.ensures.after (λ y k. search rules))
    (c.fill-2.ensures.after (λ y k. search rules))
    (c.fill-3.ensures.after (λ y k. search rules))
