-- What the C interface answers and writes for a reading of more than one value: what is behind a reference is written only where the answer is 0.
-- Of one value `answered` of refusals says it, and `some_answered 101` of the worst floor of late, where 101 is "none yet".
use Rattle.std.specs.Prelude.{cond, List, ℕ, eqb, Float, Result}
use Rattle.refusals.specs.Readings.{number, value_or}
use Rattle.model.specs.Refusals.{read_refusal}
use Rattle.model.specs.Readings.{ring_start, ring_length}
use Rattle.model.specs.declared.Floors.{Floors}

-- the answer, and the effective, rise and raw floor
abbrev pub floors_written : ℕ → Floors → ℕ × Float × Float × Float
floors_written r d = (r, d.effective, d.rise, d.raw)

unfoldable pub floors_answered : Float → Float → Float → Result Floors ℕ → ℕ × Float × Float × Float
floors_answered e s w x = floors_written (number x) (value_or (record { effective = e; rise = s; raw = w }) x)

-- the answer, where the ring starts and how long it is
unfoldable pub ring_answered : List ℕ → List Float → ℕ → ℕ → ℕ → ℕ × ℕ × ℕ
ring_answered u f k start len =
    let r = read_refusal u f k in
    (r, cond (eqb r 0) (ring_start u f k) start, cond (eqb r 0) (ring_length u f k) len)
