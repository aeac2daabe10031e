use Rattle.std.proofs.Common.{◌∙◌, ap, ℕ, ◌-◌, ◌+◌, leb, arith, rules, tests}
use Rattle.std.specs.List.{list_all}
use Rattle.std.proofs.lemmas.Iterator.{YieldsList-from_slice}
use Rattle.std.proofs.lemmas.Iterator.Search.{all_from_yields_List}
use Rattle.laws.specs.Lists.{part}
use Rattle.laws.proofs.Lists.{width}
use Rattle.stores.proofs.Banks.{seeds_are}
use Rattle.stores.proofs.Store.seeds_sound.Goals as goal

pub returns : goal.returns
returns c =
    let u = c.args.self.now.bank.now in
    let b = c.blocks-end.result in
    let e = all_from_yields_List (λ (x : ℕ). leb x 25) _ _ c.all.result c.all.ensures.ran (YieldsList-from_slice (part 3 (3 + b - 3) u) cc) (λ x b q k. search (rules, tests)) in
    e
    ∙ ap (λ (k : ℕ). list_all (λ x. leb x 25) (part 3 k u)) (width 3 b ∙ c.blocks-end.ensures.0)
    ∙ seeds_are u c.args.self.now.n (omega arith)
