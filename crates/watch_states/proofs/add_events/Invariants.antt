use Rattle.std.proofs.Common.{ℕ, List, get_or}
use lib.Bits.{bit_or}
use Rattle.laws.proofs.Fills.{Filled}
use Rattle.watch_states.specs.States.{change_at}
use Rattle.watch_states.proofs.add_events.Given as goal

abbrev pub event_of : List ℕ → List ℕ → List ℕ → List ℕ → ℕ → ℕ
event_of events alive rise drop k = bit_or (get_or events k 0) (change_at alive rise drop k)

abbrev pub invariant-loop-k : goal.invariant-loop-k
invariant-loop-k l = Filled l.initial.events (event_of l.initial.events l.alive l.rise l.drop) l.k l.events
