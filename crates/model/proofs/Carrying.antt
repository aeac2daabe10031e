-- One bank update, carrying the store of R-6 or not: what it leaves in the bank and in that store, and what it answers where they are sound.
-- Assumes nothing.
use mathlib.Core.Path.{◌≡◌, refl, sym, ap, ◌∙◌}
use mathlib.Core.Bool.{Bool, true, false}
use mathlib.Core.List.{List}
use Prim.Native.Nat.{ℕ, zero, suc}
use lib.ListN.{get_or}
use lib.Ieee.{Float}
use borrow.Author.Tests.{eq-eqb}
use Rattle.model.specs.Bank.{FloorBank, Hop, bank_step}
use Rattle.model.specs.Stores.{bank_of}
use Rattle.model.specs.Refusals.{bank_refusal, update_refusal}
use Rattle.model.specs.Calls.{leaves, bank_update_call}
use Rattle.model.specs.Worst.{Worst, worst_of, floors_taken, taken_at, worst_step}
use Rattle.model.specs.WorstCalls.{worst_refusal, beside_refusal, carry_refusal, both_leave, worst_update, update_if}
use Rattle.model.specs.GoodBank.{Good}
use Rattle.model.specs.GoodWorst.{GoodWorst}
use Rattle.model.specs.Demand3.{AskedWith, bank, gate, hold, write, bank_hop}
use Rattle.model.proofs.GoodBanks.{bank-back, passes}
use Rattle.model.proofs.FreshBanks.{good-step}
use Rattle.model.proofs.WorstStores.{worst-back, worst_passes}
use Rattle.model.proofs.WorstTurns.{good-taken}
use Rattle.model.proofs.SettledFloors.{run_bank}

-- ---- the store's step

good-at : (p : ℕ) (b : FloorBank) (w : Worst) → GoodWorst w → GoodWorst (taken_at p b w)
good-at zero b w g = good-taken b w g
good-at (suc p) b w g = g

good-worst-step : (b : FloorBank) (h : Hop) (w : Worst) → GoodWorst w → GoodWorst (worst_step b h w)
unfolding worst_step
good-worst-step b h w g = good-at b.phase (bank_step b h) w g

size-at : (p : ℕ) (b : FloorBank) (w : Worst) → (taken_at p b w).n ≡ w.n
unfolding floors_taken
size-at zero b w = refl
size-at (suc p) b w = refl

span-at : (p : ℕ) (b : FloorBank) (w : Worst) → (taken_at p b w).W ≡ w.W
unfolding floors_taken
span-at zero b w = refl
span-at (suc p) b w = refl

-- the store after a call, by its answer
abbrev pub worst_after : ℕ → FloorBank → Worst → AskedWith → Worst
worst_after zero b w (bank true h) = worst_step b h w
worst_after zero b w (bank false h) = w
worst_after zero b w (gate c h rise drop) = w
worst_after zero b w (hold c rise drop) = w
worst_after zero b w (write i v) = w
worst_after (suc r) b w c = w

pub good-worst-after : (r : ℕ) (b : FloorBank) (w : Worst) (c : AskedWith) → GoodWorst w → GoodWorst (worst_after r b w c)
good-worst-after zero b w (bank true h) g = good-worst-step b h w g
good-worst-after zero b w (bank false h) g = g
good-worst-after zero b w (gate c h rise drop) g = g
good-worst-after zero b w (hold c rise drop) g = g
good-worst-after zero b w (write i v) g = g
good-worst-after (suc r) b w c g = g

pub size-worst-after : (r : ℕ) (b : FloorBank) (w : Worst) (c : AskedWith) → (worst_after r b w c).n ≡ w.n
unfolding worst_step
size-worst-after zero b w (bank true h) = size-at b.phase (bank_step b h) w
size-worst-after zero b w (bank false h) = refl
size-worst-after zero b w (gate c h rise drop) = refl
size-worst-after zero b w (hold c rise drop) = refl
size-worst-after zero b w (write i v) = refl
size-worst-after (suc r) b w c = refl

pub span-worst-after : (r : ℕ) (b : FloorBank) (w : Worst) (c : AskedWith) → (worst_after r b w c).W ≡ w.W
unfolding worst_step
span-worst-after zero b w (bank true h) = span-at b.phase (bank_step b h) w
span-worst-after zero b w (bank false h) = refl
span-worst-after zero b w (gate c h rise drop) = refl
span-worst-after zero b w (hold c rise drop) = refl
span-worst-after zero b w (write i v) = refl
span-worst-after (suc r) b w c = refl

-- ---- what an update leaves

abbrev pub Triple : Type 0
Triple = ℕ × List ℕ × List Float

module _ (u : List ℕ) (f : List Float) (wu : List ℕ) (wf : List Float) (h : Hop) where
  abbrev b : FloorBank
  b = bank_of u f

  abbrev w : Worst
  w = worst_of wu wf

  bank-alone : bank_refusal u f ≡ 0 → Good b → (r : ℕ)
      → let a = leaves r (bank_step b h) u f in
      (bank_refusal a.1 a.2 ≡ 0) × (bank_of a.1 a.2 ≡ run_bank b (bank_hop a.0 (bank false h)))
  bank-alone p g zero = let q = good-step b h g in (passes (bank_step b h) q, bank-back (bank_step b h) q)
  bank-alone p g (suc r) = (p, refl)

  bank-beside : bank_refusal u f ≡ 0 → Good b → (r : ℕ)
      → let a = both_leave r (bank_step b h) (worst_step b h w) u f wu wf in
      (bank_refusal a.1 a.2 ≡ 0) × (bank_of a.1 a.2 ≡ run_bank b (bank_hop a.0 (bank true h)))
  bank-beside p g zero = let q = good-step b h g in (passes (bank_step b h) q, bank-back (bank_step b h) q)
  bank-beside p g (suc r) = (p, refl)

  -- the bank, whatever the store beside it holds
  pub leaves-bank : (c : Bool) → bank_refusal u f ≡ 0 → Good b
      → let a = update_if c u f wu wf h in
      (bank_refusal a.1 a.2 ≡ 0) × (bank_of a.1 a.2 ≡ run_bank b (bank_hop a.0 (bank c h)))
  unfolding bank_update_call worst_update
  leaves-bank false p g = bank-alone p g (update_refusal u f h.db h.power)
  leaves-bank true p g = bank-beside p g (carry_refusal u f wu wf h.db h.power)

  store_beside : worst_refusal wu wf ≡ 0 → GoodWorst w → (r : ℕ)
      → let a = both_leave r (bank_step b h) (worst_step b h w) u f wu wf in
      (worst_refusal a.3 a.4 ≡ 0) × (worst_of a.3 a.4 ≡ worst_after a.0 b w (bank true h))
  store_beside p g zero = let q = good-worst-step b h w g in (worst_passes (worst_step b h w) q, worst-back (worst_step b h w) q)
  store_beside p g (suc r) = (p, refl)

  not_carried : (r : ℕ) → worst_after r b w (bank false h) ≡ w
  not_carried zero = refl
  not_carried (suc r) = refl

  -- the store
  pub leaves-worst : (c : Bool) → worst_refusal wu wf ≡ 0 → GoodWorst w
      → let a = update_if c u f wu wf h in
      (worst_refusal a.3 a.4 ≡ 0) × (worst_of a.3 a.4 ≡ worst_after a.0 b w (bank c h))
  unfolding worst_update
  leaves-worst false p g = (p, sym (not_carried (bank_update_call u f h).0))
  leaves-worst true p g = store_beside p g (carry_refusal u f wu wf h.db h.power)

  -- ---- what it answers

  alone-answer : (r : ℕ) → (leaves r (bank_step b h) u f).0 ≡ r
  alone-answer zero = refl
  alone-answer (suc r) = refl

  beside-answer : (r : ℕ) → (both_leave r (bank_step b h) (worst_step b h w) u f wu wf).0 ≡ r
  beside-answer zero = refl
  beside-answer (suc r) = refl

  -- without the store it is not asked what the store holds
  pub answer-alone : (update_if false u f wu wf h).0 ≡ update_refusal u f h.db h.power
  unfolding bank_update_call
  answer-alone = alone-answer (update_refusal u f h.db h.power)

  -- carrying the store refuses no more
  carry-passes : bank_refusal u f ≡ 0 → worst_refusal wu wf ≡ 0 → w.n ≡ b.n
      → carry_refusal u f wu wf h.db h.power ≡ update_refusal u f h.db h.power
  unfolding carry_refusal beside_refusal bank_of worst_of
  carry-passes p q e = rw (p, q, eq-eqb (get_or u 0 0) (get_or wu 0 0) (sym e))

  pub answer-same : (c : Bool) → bank_refusal u f ≡ 0 → worst_refusal wu wf ≡ 0 → w.n ≡ b.n
      → (update_if c u f wu wf h).0 ≡ update_refusal u f h.db h.power
  unfolding worst_update
  answer-same false p q e = answer-alone
  answer-same true p q e = beside-answer (carry_refusal u f wu wf h.db h.power) ∙ carry-passes p q e

  -- nor does it change what the bank is left with
  leave_same : (r : ℕ) → let a = both_leave r (bank_step b h) (worst_step b h w) u f wu wf in ◌≡◌ {A = Triple} (a.0, a.1, a.2) (leaves r (bank_step b h) u f)
  leave_same zero = refl
  leave_same (suc r) = refl

  pub bank-same : (c : Bool) → bank_refusal u f ≡ 0 → worst_refusal wu wf ≡ 0 → w.n ≡ b.n
      → let a = update_if c u f wu wf h in ◌≡◌ {A = Triple} (a.0, a.1, a.2) (bank_update_call u f h)
  unfolding bank_update_call worst_update
  bank-same false p q e = refl
  bank-same true p q e =
      leave_same (carry_refusal u f wu wf h.db h.power)
      ∙ ap (λ (r : ℕ). leaves r (bank_step b h) u f) (carry-passes p q e)
