use Rattle.std.proofs.Common.{◌∙◌, sym, arith}
use Rattle.laws.proofs.Tests.{first-fails, second-fails, third-says}
use Rattle.map_store.proofs.Tested.{whole}
use Rattle.map_store.proofs.map_sound.Goals as goal
use Rattle.map_store.proofs.map_sound.Goals.{then-clean, else-clean}

pub returns-then-clean-2 : goal.returns-then-clean-2
returns-then-clean-2 c =
    let is = whole c.args.n c.args.map.now c.div_ceil-w.result c.low-low.result (omega arith) (omega arith) c.low-low.ensures (λ i. (c.type_inv.map i).fits) in
    elim c.if-clean.branch [
      | then-clean w ↦ third-says _ _ _ _ (sym c.clean.ensures ∙ w.if-clean.true) (sym w.clean-then-clean.ensures ∙ sym w.value-is ∙ c.if-clean-2.true) c.clean-then-clean-2.ensures ∙ is
      | else-clean w ↦ cc
    ]

pub returns-else-clean-2 : goal.returns-else-clean-2
returns-else-clean-2 c =
    let is = whole c.args.n c.args.map.now c.div_ceil-w.result c.low-low.result (omega arith) (omega arith) c.low-low.ensures (λ i. (c.type_inv.map i).fits) in
    elim c.if-clean.branch [
      | then-clean w ↦ c.if-clean-2.false ∙ second-fails _ _ _ (sym c.clean.ensures ∙ w.if-clean.true) (sym w.clean-then-clean.ensures ∙ sym w.value-is ∙ c.if-clean-2.false) ∙ is
      | else-clean w ↦ c.if-clean-2.false ∙ first-fails _ _ _ (sym c.clean.ensures ∙ w.if-clean.false) ∙ is
    ]
