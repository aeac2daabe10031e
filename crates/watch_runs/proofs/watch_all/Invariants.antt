-- The bytes that are read stay as many. Assumes nothing.
use Rattle.std.proofs.Common.{◌≡◌, length}
use Rattle.watch_runs.proofs.watch_all.Given as goal

abbrev pub invariant-loop : goal.invariant-loop
invariant-loop l = length l.bytes ≡ length l.initial.bytes
