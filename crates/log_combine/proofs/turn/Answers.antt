-- What stood in the second half, and behind it the selection.
use Rattle.std.proofs.Common.{ap, ◌∙◌, ℕ, List, length, arith}
use Rattle.laws.specs.Lists.{tab}
use Rattle.laws.proofs.Tabs.{length-tab}
use Rattle.log_hops.specs.Put.{put}
use Rattle.combine_model.specs.Choose.{chosen_at}
use Rattle.log_combine.specs.Passes.{second_half}
use Rattle.log_combine.proofs.InStep.{two-halves, stepped}
use Rattle.log_combine.proofs.turn.Goals as goal

pub returns-clause-db_after : goal.returns-clause-db_after
returns-clause-db_after c =
    let n : ℕ = length c.args.d.now in
    let one = c.log_read-one.new in
    let two = c.log_read-two.new in
    let f : ℕ → ℕ = chosen_at one.power_bits two.power_bits one.db_bits two.db_bits in
    let back : List ℕ = c.step_back.new.items in
    two-halves n (second_half n c.args.db.now) (tab n f) back back c.choose.new.db (length-tab n _) (length-tab n _) (omega (arith, c.step_back.auto.items))
    (stepped n c.args.db.now back c.requires.db_len.0 c.step_back.ensures)
    (c.choose.ensures.db_after ∙ ap (λ (m : ℕ). put n (tab m f) back) c.log_read-one.auto.db_bits)

pub returns-clause-power_after : goal.returns-clause-power_after
returns-clause-power_after c =
    let n : ℕ = length c.args.d.now in
    let one = c.log_read-one.new in
    let two = c.log_read-two.new in
    let f : ℕ → ℕ = chosen_at one.power_bits two.power_bits one.power_bits two.power_bits in
    let back : List ℕ = c.step_back-2.new.items in
    two-halves n (second_half n c.args.power.now) (tab n f) back back c.choose.new.power (length-tab n _) (length-tab n _) (omega (arith, c.step_back-2.auto.items))
    (stepped n c.args.power.now back c.requires.db_len.1 c.step_back-2.ensures)
    (c.choose.ensures.power_after ∙ ap (λ (m : ℕ). put n (tab m f) back) c.log_read-one.auto.db_bits)
