-- What became of a hop, and what it leaves of a bank and a gate.
use Rattle.std.specs.Prelude.{cond, eqb, Bool, List, ℕ, zero, suc, Float, Result, Ok, Err}
use Rattle.model.specs.GateCalls.{GateHop}
use Rattle.refusals.specs.declared.Refusal.{Refusal}
use Rattle.refusals.specs.declared.Refusal.TheVariants as R
use Rattle.watch_recording.specs.declared.Hop.{Hop}
use Rattle.watch_recording.specs.declared.Stop.{Stop}
use Rattle.watch_recording.specs.declared.Stop.TheVariants.{Refused}
use Rattle.watch_hear.specs.Judged.{Judged, judged}

-- the refusal of a number, as `number_of` has them; no call answers a number past the last
abbrev pub named : ℕ → Refusal
named n =
    cond (eqb n 1) R.Band
    (cond (eqb n 2) R.StoreSize
    (cond (eqb n 3) R.Lengths
    (cond (eqb n 4) R.Level
    (cond (eqb n 5) R.HopSize
    (cond (eqb n 6) R.Garbled
    (cond (eqb n 7) R.Channel
    (cond (eqb n 8) R.Mismatch
    (cond (eqb n 9) R.Unsound
    (cond (eqb n 10) R.Cut
    (cond (eqb n 11) R.Damaged
    (cond (eqb n 12) R.Span
    (cond (eqb n 13) R.Unlike
    (cond (eqb n 14) R.Segments
    (cond (eqb n 15) R.Address R.Right))))))))))))))

-- 0: taken, a hop of so many bytes; else the refusal of that number
abbrev pub answer_of : ℕ → ℕ → Result ℕ (Stop Refusal)
answer_of size zero = Ok size
answer_of size (suc r) = Err (Refused (named (suc r)))

-- what became of it, the bank's two stores, those of the worst floor, the gate's, rise and drop
abbrev pub Left : Type 0
Left = Result ℕ (Stop Refusal) × List ℕ × List Float × List ℕ × List Float × List ℕ × List Float × List ℕ × List ℕ

abbrev pub answered : ℕ → Judged → Left
answered size j = (answer_of size j.0, j.1, j.2, j.3, j.4, j.5, j.6, j.7, j.8)

-- by what was read where the hop is due: only a whole hop changes anything
unfoldable pub heard_of : Result Hop (Stop Refusal) → Bool → List ℕ → List Float → List ℕ → List Float → List ℕ → List Float → GateHop → List ℕ → List ℕ → Left
heard_of (Ok s) carries bu bf wu wf gu gf h rise drop = answered s.size (judged carries s.is_static bu bf wu wf gu gf h rise drop)
heard_of (Err stop) carries bu bf wu wf gu gf h rise drop = (Err stop, bu, bf, wu, wf, gu, gf, rise, drop)
