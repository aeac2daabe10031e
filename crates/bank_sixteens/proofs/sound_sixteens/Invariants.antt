use Rattle.std.proofs.Common.{ℕ, ◌<◌, ◌*◌, ◌≡◌, true}
use Rattle.model.specs.Stores.{chan_of, sound_channel}
use Rattle.bank_sixteens.specs.Rows.{chan_at, Clear}
use Rattle.bank_sixteens.proofs.sound_sixteens.Given as goal

abbrev pub invariant-loop-sixteen : goal.invariant-loop-sixteen
invariant-loop-sixteen l = ((j : ℕ) → j < 16 * l.sixteen → sound_channel (chan_of (chan_at l.from l.bank j)) ≡ true) × Clear l.t.front × Clear l.t.behind
