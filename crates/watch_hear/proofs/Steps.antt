-- What a hop makes of a gate, of a bank and a gate, and what became of it, by what was asked on the way. Assumes nothing.
use Rattle.std.proofs.Common.{◌≡◌, refl, ap, ◌∙◌, Bool, true, false, List, ℕ, zero, suc}
use lib.Ieee.{Float}
use Rattle.refusals.specs.Numbers.{number_of}
use Rattle.refusals.specs.declared.Refusal.{Refusal}
use Rattle.refusals.specs.declared.Refusal.TheVariants as R
use Rattle.std.specs.Prelude.{Result, Ok, Err}
use Rattle.watch_recording.specs.declared.Hop.{Hop}
use Rattle.watch_recording.specs.declared.Stop.{Stop}
use Rattle.watch_recording.specs.declared.Stop.TheVariants.{Refused}
use Rattle.watch_hear.specs.Heard.{answer_of, answered, heard_of}
use Rattle.model.specs.Bank.{hop}
use Rattle.model.specs.GateCalls.{GateHop, gate_update_call, gate_hold_call}
use Rattle.model.specs.WorstCalls.{Answered, update_if}
use Rattle.watch_hear.specs.Judged.{Gated, Judged, gate_judged, beside, after, judged}

module _ (bu : List ℕ) (bf : List Float) (gu : List ℕ) (gf : List Float) (h : GateHop) (rise drop : List ℕ) where
  pub held : (b : Bool) (x : ℕ) (f' : List Float) (rise' drop' : List ℕ) → b ≡ true → (x, f', rise', drop') ≡ gate_hold_call bu bf gu gf rise drop
      → (x, gu, f', rise', drop') ≡ gate_judged b bu bf gu gf h rise drop
  unfolding gate_judged
  held b x f' rise' drop' t e = rw t (ap (λ (a : ℕ × List Float × List ℕ × List ℕ). (a.0, gu, a.1, a.2, a.3)) e)

  pub stepped : (b : Bool) (a : Gated) → b ≡ false → a ≡ gate_update_call bu bf gu gf h rise drop → a ≡ gate_judged b bu bf gu gf h rise drop
  unfolding gate_judged
  stepped b a t e = rw t e

-- with the store of the worst floor, which the bank's update carries or doesn't
module _ (c : Bool) (bu : List ℕ) (bf : List Float) (wu : List ℕ) (wf : List Float) (gu : List ℕ) (gf : List Float) (h : GateHop) (rise drop : List ℕ) where
  -- a refusal of the bank is all
  alone : (b : Bool) (x : ℕ) (u : List ℕ) (f : List Float) (v : List ℕ) (g : List Float) → (x ≡ 0 → ⊥)
      → (x, u, f, v, g, gu, gf, rise, drop) ≡ after b x u f v g gu gf h rise drop
  alone b zero u f v g z = absurd (z refl)
  alone b (suc x) u f v g z = refl

  abbrev then : Bool → Answered → Judged
  then b a = after b a.0 a.1 a.2 a.3 a.4 gu gf h rise drop

  pub refused : (b : Bool) (x : ℕ) (u : List ℕ) (f : List Float) (v : List ℕ) (g : List Float) → (x ≡ 0 → ⊥)
      → (x, u, f, v, g) ≡ update_if c bu bf wu wf (hop b h.db h.power)
      → (x, u, f, v, g, gu, gf, rise, drop) ≡ judged c b bu bf wu wf gu gf h rise drop
  unfolding judged
  refused b x u f v g z e = alone b x u f v g z ∙ ap (then b) e

  pub taken : (b : Bool) (u : List ℕ) (f : List Float) (v : List ℕ) (g : List Float) (a : Gated)
      → (0, u, f, v, g) ≡ update_if c bu bf wu wf (hop b h.db h.power) → a ≡ gate_judged b u f gu gf h rise drop
      → beside u f v g a ≡ judged c b bu bf wu wf gu gf h rise drop
  unfolding judged
  taken b u f v g a e k = ap (beside u f v g) k ∙ ap (then b) e

  module _ (s : Result Hop (Stop Refusal)) where
    pub heard : (p : Hop) (x : Result ℕ (Stop Refusal)) (j : Judged) → s ≡ Ok p → j ≡ judged c p.is_static bu bf wu wf gu gf h rise drop → x ≡ answer_of p.size j.0
        → (x, j.1, j.2, j.3, j.4, j.5, j.6, j.7, j.8) ≡ heard_of s c bu bf wu wf gu gf h rise drop
    unfolding heard_of
    heard p x j t e a = rw t (ap (λ (y : Result ℕ (Stop Refusal)). (y, j.1, j.2, j.3, j.4, j.5, j.6, j.7, j.8)) a ∙ ap (answered p.size) e)

-- a refusal is the one of its number
pub names : (e : Refusal) (size : ℕ) → Err (Refused e) ≡ answer_of size (number_of e)
names R.Band size = refl
names R.StoreSize size = refl
names R.Lengths size = refl
names R.Level size = refl
names R.HopSize size = refl
names R.Garbled size = refl
names R.Channel size = refl
names R.Mismatch size = refl
names R.Unsound size = refl
names R.Cut size = refl
names R.Damaged size = refl
names R.Span size = refl
names R.Unlike size = refl
names R.Segments size = refl
names R.Address size = refl
names R.Right size = refl
