-- R-13: the table is "strictly rising". The proof is `rising` in proofs/Rising.antt, by one test over the whole table.
use Rattle.std.specs.Prelude.{◌≡◌, true, ℕ, suc, ◌<◌}
use Rattle.std.specs.Float.Ieee.{lt}
use Rattle.model.specs.Layout.{rung_count}
use Rattle.model.specs.Ladder.{rung_value}

abbrev pub Rising : Type 0
Rising = (r : ℕ) → suc r < rung_count → lt (rung_value r) (rung_value (suc r)) ≡ true
