use Rattle.std.proofs.Common.{◌∙◌, refl, arith, rules, tests}
use Rattle.std.proofs.lemmas.Iterator.{YieldsList-from_range}
use Rattle.std.proofs.lemmas.Iterator.Search.{all_from_yields_List}
use Rattle.gate_sound.specs.Checks.{sound_length}
use Rattle.gate_sound.proofs.Ranges.{all_in_range}
use Rattle.gate_sound.proofs.Sizes.{triples-are}
use Rattle.gate_sound.proofs.triples_sound.Goals as goal

pub returns : goal.returns
returns c =
    let u = c.args.gate.now in
    all_from_yields_List (sound_length u) _ _ c.all.result c.all.ensures.ran (YieldsList-from_range 0 8 8 refl (omega arith)) (λ x b q k. search (rules, tests))
    ∙ all_in_range (sound_length u) 8
    ∙ triples-are u
