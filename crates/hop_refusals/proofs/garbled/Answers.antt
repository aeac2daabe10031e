use Rattle.std.proofs.Common.{◌∙◌, ap, ℕ, take, rules, tests}
use Rattle.std.specs.List.{list_any}
use Rattle.std.specs.Float.Ieee.{is_nan}
use Rattle.std.proofs.lemmas.Iterator.{YieldsList-from_slice}
use Rattle.std.proofs.lemmas.Iterator.Search.{any_from_yields_List}
use Rattle.hop_refusals.proofs.Hops.{front_garbled}
use Rattle.hop_refusals.proofs.garbled.Goals as goal

pub returns : goal.returns
returns c =
    let db = c.args.power_db.now in
    let e = any_from_yields_List is_nan _ _ c.any.result c.any.ensures.ran (YieldsList-from_slice (take c.sharing-end.result db) cc) (λ x b q k. search (rules, tests)) in
    e ∙ ap (λ (k : ℕ). list_any is_nan (take k db)) c.sharing-end.ensures.0 ∙ front_garbled db
