-- The replay so far has a bank and a gate for which there is room.
use Rattle.std.proofs.Common.{◌≡◌, true}
use Rattle.replay_data.specs.Records.{has_room}
use Rattle.replay.proofs.replay_list.Given as goal

abbrev pub invariant-loop : goal.invariant-loop
invariant-loop l = has_room l.r.n l.r.floats ≡ true
