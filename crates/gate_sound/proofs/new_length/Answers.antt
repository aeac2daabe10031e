use Rattle.std.proofs.Common.{◌∙◌, refl, not, eqb, arith, rules, tests}
use Rattle.std.proofs.lemmas.Iterator.{YieldsList-from_range}
use Rattle.std.proofs.lemmas.Iterator.Search.{all_from_yields_List}
use Rattle.model.specs.GateStores.{m_at}
use Rattle.gate_sound.proofs.Ranges.{all_in_range}
use Rattle.gate_sound.proofs.new_length.Goals as goal

pub returns : goal.returns
returns c =
    let u = c.args.gate.now in
    let j = c.args.j in
    all_from_yields_List (λ i. not (eqb (m_at u i) (m_at u j))) _ _ c.all.result c.all.ensures.ran (YieldsList-from_range 0 j j refl (omega arith)) (λ x b q k. search (rules, tests))
    ∙ all_in_range (λ i. not (eqb (m_at u i) (m_at u j))) j
