use Rattle.std.proofs.Common.{◌∙◌, ap, rules}
use Rattle.bank_making.proofs.Makes.{noughts, fresh-u}
use Rattle.bank_making.proofs.fresh_u.Goals as goal

pub returns : goal.returns
returns c = fresh-u c.args.n c.fill.new.self (c.fill.ensures.after (λ y k. search rules) ∙ ap noughts c.requires)
