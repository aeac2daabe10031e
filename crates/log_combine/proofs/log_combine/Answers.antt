-- The answer, by what the first pass said.
use Rattle.std.proofs.Common.{arith}
use Rattle.refusals.specs.Numbers.{number_of}
use Rattle.log_model.specs.Whole.{Below}
use Rattle.log_combine.proofs.Answered.{answered, turned_down}
use Rattle.log_combine.proofs.log_combine.Goals as goal

pub returns-in-Some : goal.returns-in-Some
returns-in-Some c =
    let a = c.args in
    let f : Below 256 a.first.now = λ i h. omega (arith, c.type_inv.first i) in
    let g : Below 256 a.second.now = λ i h. omega (arith, c.type_inv.second i) in
    let j = c.in-Some.ensures in
    answered a.first.now a.second.now a.log.now c.in-Some.hops f g j.0 j.1 c.write.result c.write.new.log c.write.ensures.value c.write.ensures.log_after

pub returns-in-None : goal.returns-in-None
returns-in-None c =
    let a = c.args in
    let f : Below 256 a.first.now = λ i h. omega (arith, c.type_inv.first i) in
    let g : Below 256 a.second.now = λ i h. omega (arith, c.type_inv.second i) in
    turned_down a.first.now a.second.now a.log.now f g c.in-None.ensures (number_of c.refusal.result) c.refusal.ensures
