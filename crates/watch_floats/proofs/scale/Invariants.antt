use Rattle.std.proofs.Common.{◌≡◌, ◌-◌}
use Rattle.watch_floats.specs.Floats.{scaled_up, scale_of}
use Rattle.watch_floats.proofs.scale.Given as goal

abbrev pub invariant-loop-tens : goal.invariant-loop-tens
invariant-loop-tens l = scale_of l.x ≡ scaled_up (330 - l.tens) (record { x = l.size; tens = l.tens })
