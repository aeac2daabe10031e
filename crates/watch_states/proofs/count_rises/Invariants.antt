use Rattle.std.proofs.Common.{ℕ, ◌+◌, ◌%◌, ◌^◌, eqb, List, get_or}
use Rattle.laws.specs.Lists.{one}
use Rattle.laws.proofs.Fills.{Filled}
use Rattle.watch_states.specs.States.{change_at}
use Rattle.watch_states.proofs.count_rises.Given as goal

abbrev pub rise_count : List ℕ → List ℕ → List ℕ → List ℕ → ℕ → ℕ
rise_count counts alive rise drop k = (get_or counts k 0 + one (eqb (change_at alive rise drop k) 1)) % 2 ^ 64

abbrev pub invariant-loop-k : goal.invariant-loop-k
invariant-loop-k l = Filled l.initial.counts (rise_count l.initial.counts l.alive l.rise l.drop) l.k l.counts
