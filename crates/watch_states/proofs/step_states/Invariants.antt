use Rattle.std.proofs.Common.{ℕ, List}
use Rattle.laws.specs.Lists.{one}
use Rattle.laws.proofs.Fills.{Filled}
use Rattle.watch_states.specs.States.{state_after, is_set}
use Rattle.watch_states.proofs.step_states.Given as goal

abbrev pub state_of : List ℕ → List ℕ → List ℕ → ℕ → ℕ
state_of alive rise drop k = one (state_after (is_set alive k) (is_set rise k) (is_set drop k))

abbrev pub invariant-loop-k : goal.invariant-loop-k
invariant-loop-k l = Filled l.initial.alive (state_of l.initial.alive l.rise l.drop) l.k l.alive
