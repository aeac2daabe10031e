-- The places below `k` have what is chosen.
use Rattle.laws.proofs.Fills.{Filled}
use Rattle.combine_model.specs.Choose.{chosen_at}
use Rattle.combine_choose.proofs.choose.Given as goal

abbrev pub invariant-loop-k : goal.invariant-loop-k
invariant-loop-k l =
    Filled l.initial.db_chosen (chosen_at l.first.power.now l.second.power.now l.first.db.now l.second.db.now) l.k l.db_chosen
    × Filled l.initial.power_chosen (chosen_at l.first.power.now l.second.power.now l.first.power.now l.second.power.now) l.k l.power_chosen
