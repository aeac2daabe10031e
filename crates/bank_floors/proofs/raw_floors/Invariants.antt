use Rattle.std.proofs.Common.{◌≡◌}
use Rattle.laws.specs.Lists.{splice, tab}
use Rattle.model.specs.Ring.{raw_floor}
use Rattle.model.specs.Stores.{chan_of, chan_part}
use Rattle.bank_floors.proofs.raw_floors.Given as goal

abbrev pub invariant-loop-k : goal.invariant-loop-k
invariant-loop-k l = l.bank_f ≡ splice 0 l.k l.initial.bank_f (tab l.k (λ k. raw_floor (chan_of (chan_part l.n l.bank k))))
