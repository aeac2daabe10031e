-- `watch_log::refused` meets its contract: only one refusal has the number of a cut hop. Assumes nothing.
use Rattle.std.proofs.Common.{◌≡◌, ℕ, refl}
use Rattle.refusals.specs.declared.Refusal.{Refusal}
use Rattle.refusals.specs.declared.Refusal.TheVariants as R
use Rattle.watch_recording.specs.declared.Stop.TheVariants.{Refused}
use Rattle.watch_log.specs.Logged.{refused_by}
use Rattle.watch_log.proofs.refused.Goals as goal

others : (r : Refusal) (got : ℕ) → (r ≡ R.Cut → ⊥) → Refused r ≡ refused_by r got
others R.Cut got z = absurd (z refl)
others R.Band got z = refl
others R.StoreSize got z = refl
others R.Lengths got z = refl
others R.Level got z = refl
others R.HopSize got z = refl
others R.Garbled got z = refl
others R.Channel got z = refl
others R.Mismatch got z = refl
others R.Unsound got z = refl
others R.Damaged got z = refl
others R.Span got z = refl
others R.Unlike got z = refl
others R.Segments got z = refl
others R.Address got z = refl
others R.Right got z = refl

pub returns-in_default : goal.returns-in_default
returns-in_default c = others c.args.refusal c.args.got c.in_default.not-Cut
