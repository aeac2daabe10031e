-- A hop of more channels than a bank can have is refused for its length, whatever its dB. Assumes nothing.
use mathlib.Core.Path.{◌≡◌, refl}
use mathlib.Core.Bool.{Bool, true, false, ◌||◌}
use mathlib.Core.List.{List}
use Prim.Native.Nat.{ℕ, zero, suc, ◌<◌}
use native.Mathlib.Omega.{arith}
use lib.ListN.{length, get_or}
use lib.Ieee.{Float}
use borrow.Author.Tests.{ne_eqb}
use Rattle.laws.specs.Tests.{differ}
use Rattle.model.specs.Bank.{Hop, bank_step}
use Rattle.model.specs.Stores.{bank_of}
use Rattle.model.specs.Refusals.{bank_refusal, update_refusal}
use Rattle.model.specs.GateCalls.{or_else}
use Rattle.model.specs.Worst.{worst_of, worst_step}
use Rattle.model.specs.WorstCalls.{beside_refusal, carry_refusal, both_leave, worst_update}
use Rattle.model.specs.Decibels.{decibels, linear_hop}
use Rattle.model.proofs.GoodBanks.{ready}

or-true : (b : Bool) → (b || true) ≡ true
or-true true = refl
or-true false = refl

-- the bank passes where the stores lent together do
bank_passes : (a rest : ℕ) → or_else a rest ≡ 0 → a ≡ 0
bank_passes zero rest e = refl
bank_passes (suc a) rest e = let z : suc a ≡ 0 = rw (ne_eqb (suc a) 0 (λ q. omega (arith, q))) at e in z

module _ (u : List ℕ) (f : List Float) (wu : List ℕ) (wf : List Float) (power : List Float) (l : 512 < length power) where
  update-refuses : (db : List Float) → bank_refusal u f ≡ 0 → update_refusal u f db power ≡ 5
  unfolding update_refusal bank_of
  update-refuses db e =
      let n : length power ≡ get_or u 0 0 → ⊥ = λ q. omega (arith, l, q, (ready u f e).good.high) in
      rw (e, ne_eqb (length power) (get_or u 0 0) n, or-true (differ (length db) (get_or u 0 0)))

  carry-refuses : (db : List Float) (r : ℕ) → beside_refusal u f wu wf ≡ r → carry_refusal u f wu wf db power ≡ or_else r 5
  unfolding carry_refusal beside_refusal
  carry-refuses db zero e = rw e (update-refuses db (bank_passes (bank_refusal u f) _ e))
  carry-refuses db (suc r) e = rw (e, ne_eqb (suc r) 0 (λ q. omega (arith, q)))

  -- refused, with the stores as they were
  left_alone : (db : List Float) (h : Hop) (r : ℕ) → beside_refusal u f wu wf ≡ r
      → (carry_refusal u f wu wf db power, u, f, wu, wf)
      ≡ both_leave (carry_refusal u f wu wf (decibels power) power) (bank_step (bank_of u f) h) (worst_step (bank_of u f) h (worst_of wu wf)) u f wu wf
  left_alone db h zero e = rw (carry-refuses db 0 e, carry-refuses (decibels power) 0 e)
  left_alone db h (suc r) e = rw (carry-refuses db (suc r) e, carry-refuses (decibels power) (suc r) e, ne_eqb (suc r) 0 (λ q. omega (arith, q)))

  pub too_many : (db : List Float) (held : Bool) → (carry_refusal u f wu wf db power, u, f, wu, wf) ≡ worst_update u f wu wf (linear_hop held power)
  unfolding worst_update
  too_many db held = left_alone db (linear_hop held power) (beside_refusal u f wu wf) refl
