use Rattle.std.proofs.Common.{ℕ, ◌+◌, ◌%◌, ◌^◌, List, get_or}
use Rattle.laws.specs.Lists.{one}
use Rattle.laws.proofs.Fills.{Filled}
use Rattle.watch_states.specs.States.{is_set}
use Rattle.watch_states.proofs.count_set.Given as goal

abbrev pub count_of : List ℕ → List ℕ → ℕ → ℕ
count_of counts marks k = (get_or counts k 0 + one (is_set marks k)) % 2 ^ 64

abbrev pub invariant-loop-k : goal.invariant-loop-k
invariant-loop-k l = Filled l.initial.counts (count_of l.initial.counts l.marks) l.k l.counts
