use Rattle.std.proofs.Common.{◌≡◌, ◌*◌, length}
use Rattle.laws.specs.Lists.{splice, tab, joined}
use Rattle.model.specs.Layout.{channel_len}
use Rattle.model.specs.Stores.{base}
use Rattle.bank_stages.proofs.Loops.{pushed_of}
use Rattle.bank_pushes.proofs.push_all.Given as goal

abbrev pub invariant-loop-k : goal.invariant-loop-k
invariant-loop-k l =
    l.bank ≡ splice (base (length l.power_db)) (channel_len * l.k) l.initial.bank (joined (tab l.k (pushed_of l.initial.bank l.power_db (length l.power_db))))
