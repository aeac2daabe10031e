-- The bits from n on, up to the map's end.
use Rattle.std.proofs.Common.{refl, ◌∙◌, ◌-◌, ◌*◌, ℕ, arith, rules, tests}
use Rattle.std.proofs.lemmas.Iterator.{YieldsList-from_range}
use Rattle.std.proofs.lemmas.Iterator.Search.{any_from_yields_List}
use Rattle.laws.specs.Bits.{width}
use Rattle.log_model.specs.Read.{is_set}
use Rattle.log_model.proofs.Counts.{any_range}
use Rattle.log_read.proofs.is_set_past.Goals as goal

pub returns : goal.returns
returns c =
    let a = c.args in
    let n : ℕ = 8 * width a.n - a.n in
    any_from_yields_List (is_set a.log.now a.at) _ _ c.any.result c.any.ensures.ran (YieldsList-from_range a.n (8 * c.div_ceil.result) n refl (omega arith)) (λ x b q k. search (rules, tests))
    ∙ any_range (is_set a.log.now a.at) a.n n
