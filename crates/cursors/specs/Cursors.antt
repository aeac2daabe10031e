-- The cursor as a value, and its steps.
use Rattle.std.specs.Prelude.{◌*◌, ◌≤◌, ◌<◌}
use Rattle.model.specs.Windows.{turned, grown, middle_of}
use Rattle.cursors.specs.declared.Cursor.{Cursor}
use Rattle.cursors.specs.declared.Middle.{Middle}

abbrev pub advanced_of : Cursor → Cursor
advanced_of c = record { m = c.m; at = turned c.m c.at; filled = grown c.m c.filled }

abbrev pub middle_from : Cursor → Middle
middle_from c = record { cursor = c; place = middle_of c.m c.at }

pub record CursorFits (c : Cursor) : Type 0 where
  pub some : 1 ≤ c.m
  pub few : c.m ≤ 375
  pub at_below : c.at < 2 * c.m
  pub filled_within : c.filled ≤ 2 * c.m
