use Rattle.std.proofs.Common.{sym, ◌∙◌}
use Rattle.laws.proofs.Floats.{ne-self}
use Rattle.watch_floats.proofs.show.Goals as goal

pub returns-then-is_nan : goal.returns-then-is_nan
returns-then-is_nan c = simp (ne-self c.args.x ∙ sym c.is_nan.ensures.value ∙ c.if-is_nan.true)

pub returns-then-x : goal.returns-then-x
returns-then-x c = simp (ne-self c.args.x ∙ sym c.is_nan.ensures.value ∙ c.if-is_nan.false, c.if-x.true) c.sized.ensures

pub returns-else-x : goal.returns-else-x
returns-else-x c = simp (ne-self c.args.x ∙ sym c.is_nan.ensures.value ∙ c.if-is_nan.false, c.if-x.false) c.sized-else-x.ensures
