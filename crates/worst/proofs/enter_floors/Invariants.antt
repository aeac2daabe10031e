use Rattle.std.proofs.Common.{◌≡◌, ◌*◌, length}
use Rattle.laws.specs.Lists.{splice, tab, joined}
use Rattle.model.specs.Stores.{bank_of}
use Rattle.model.specs.Readings.{effective_at}
use Rattle.worst.specs.Floors.{floor_at}
use Rattle.worst.proofs.enter_floors.Given as goal

-- the rings before k have their floors
abbrev pub invariant-loop-k : goal.invariant-loop-k
invariant-loop-k l =
    (l.worst_f ≡ splice 0 (l.w * l.k) l.initial.worst_f (joined (tab l.k (floor_at l.w l.next (effective_at (bank_of l.bank l.bank_f)) l.initial.worst_f))))
    × (length l.worst_f ≡ length l.initial.worst_f)
