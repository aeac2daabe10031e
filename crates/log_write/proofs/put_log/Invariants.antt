-- The hops below `j` are written behind the header.
use Rattle.std.proofs.Common.{◌≡◌, ◌+◌, length}
use Rattle.laws.specs.Lists.{tab, joined}
use Rattle.log_model.specs.Format.{hop_at}
use Rattle.log_hops.specs.Put.{put}
use Rattle.log_write.proofs.put_log.Given as goal

abbrev pub invariant-loop-j : goal.invariant-loop-j
invariant-loop-j l =
    (l.at ≡ 2 + length (joined (tab l.j (hop_at l.pairs.n l.pairs.db.now l.pairs.power.now))))
    × (l.log ≡ put 2 (joined (tab l.j (hop_at l.pairs.n l.pairs.db.now l.pairs.power.now))) l.initial.log)
