-- What replaying a record leaves as it was: what the record makes of the sizes, and of where the hop stands, is made before (Records).
use Rattle.std.specs.Prelude.{◌≡◌}
use Rattle.replay_data.specs.declared.state.Replay.{Replay}

-- the replay s, after the record at which r stood, has the sizes of r, and its hop stands where it stood. (`Replay::passed` has it in full, since
-- what the file of a type with facts names can't name the type)
abbrev pub Kept : Replay → Replay → Type 0
Kept r s = (s.hop ≡ r.hop) × ((s.n ≡ r.n) × (s.floats ≡ r.floats))
