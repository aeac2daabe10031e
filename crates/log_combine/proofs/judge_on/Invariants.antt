-- Both logs stand after as many hops, and the result so far has room.
use Rattle.std.proofs.Common.{◌≤◌, ◌-◌, length}
use Rattle.log_combine.proofs.Judges.{Judging}
use Rattle.log_combine.proofs.judge_on.Given as goal

abbrev pub invariant-loop-d : goal.invariant-loop-d
invariant-loop-d l = (l.len ≤ l.room) × Judging l.first l.second l.at.first l.at.second l.len l.hops l.d l.p l.e l.q l.db l.power

abbrev pub decreases-loop-d : goal.decreases-loop-d
decreases-loop-d l = length l.first - l.at.first
