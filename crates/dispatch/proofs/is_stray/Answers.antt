-- The bits from `count` on, of which those below it are none.
use Rattle.std.proofs.Common.{refl, ◌∙◌, ◌-◌, rules, tests}
use Rattle.std.proofs.lemmas.Iterator.{YieldsList-from_range}
use Rattle.std.proofs.lemmas.Iterator.Search.{any_from_yields_List}
use Rattle.dispatch.specs.Dispatch.{waits}
use Rattle.dispatch.proofs.Steps.{stray_from}
use Rattle.dispatch.proofs.is_stray.Goals as goal

pub returns : goal.returns
returns c =
    let a = c.args in
    let n = 8 - a.count in
    any_from_yields_List (waits a.waiting) _ _ c.any.result c.any.ensures.ran (YieldsList-from_range a.count 8 n refl refl) (λ x b q k. search (rules, tests))
    ∙ stray_from a.count a.waiting
