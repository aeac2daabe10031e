-- The two cases of a reading: its value, or the number of its refusal. Assumes nothing.
use mathlib.Core.Path.{◌≡◌, refl, ap, ◌∙◌}
use Prim.Native.Nat.{ℕ, zero, suc}
use Rattle.std.specs.Prelude.{Ok, Err}
use Rattle.refusals.specs.Numbers.{number_of}
use Rattle.refusals.specs.Readings.{reading}
use Rattle.refusals.specs.declared.Refusal.{Refusal}
use Rattle.refusals.proofs.Answers.{refuses}

pub valued : {A : Type 0} (r : ℕ) (y x : A) → 0 ≡ r → y ≡ x → Ok y ≡ reading r x
valued r y x h d = rw (← h) (ap Ok d)

refused_by : {A : Type 0} (r : ℕ) (x : A) → (r ≡ 0 → ⊥) → Err r ≡ reading r x
refused_by zero x h = absurd (h refl)
refused_by (suc r) x h = refl

pub refused : {A : Type 0} (e : Refusal) (r : ℕ) (x : A) → number_of e ≡ r → Err (number_of e) ≡ reading r x
refused e r x h = refused_by (number_of e) x (refuses e) ∙ ap (λ (n : ℕ). reading n x) h
