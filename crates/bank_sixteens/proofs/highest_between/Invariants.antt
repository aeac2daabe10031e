use Rattle.std.proofs.Common.{ℕ, ◌<◌, ◌≤◌, ◌+◌, ◌*◌, get_or}
use Rattle.model.specs.Layout.{channel_len}
use Rattle.bank_sixteens.proofs.highest_between.Given as goal

abbrev pub invariant-loop-i : goal.invariant-loop-i
invariant-loop-i l = (k j : ℕ) → k < 8 → l.first ≤ j → j < l.i → get_or l.eight (channel_len * k + j) 0 ≤ l.highest
