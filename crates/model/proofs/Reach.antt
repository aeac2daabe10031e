-- What calls on a bank's stores leave is sound, proved. Assumes nothing.
use mathlib.Core.Path.{◌≡◌, refl, sym}
use mathlib.Core.List.{List, [], ◌∷◌}
use mathlib.Core.Bool.{not, ◌||◌}
use Prim.Native.Nat.{ℕ, zero, suc, ◌≤◌}
use native.Mathlib.Omega.{arith}
use lib.ListN.{length}
use lib.Ieee.{Float}
use borrow.Author.Tests.{not-false}
use Rattle.laws.specs.Tests.{within, differ, first}
use Rattle.laws.proofs.Tests.{passed, within_of}
use Rattle.model.specs.Bank.{FloorBank, fresh_bank, bank_step}
use Rattle.model.specs.Stores.{bank_of, bank_len, bank_f_len}
use Rattle.model.specs.Refusals.{make_refusal, update_refusal}
use Rattle.model.specs.Calls.{leaves, bank_new_call, bank_update_call}
use Rattle.model.specs.Reach.{Stores, BankCall, update, stores_in, left, left_by, stores_of, SoundStores, Reached, ReachedSound}
use Rattle.model.specs.GoodBank.{Good, Ready}
use Rattle.model.proofs.BankStores.{bank-forth-u, bank-forth-f}
use Rattle.model.proofs.GoodBanks.{good-ready, not-refused}
use Rattle.model.proofs.FreshBanks.{good-fresh, good-step}

-- ---- calls keep stores sound

leaves-ready : (r : ℕ) (b : FloorBank) (u : List ℕ) (f : List Float) → Good b → Ready u f → SoundStores (stores_in (leaves r b u f))
leaves-ready zero b u f g s = good-ready b g
leaves-ready (suc r) b u f g s = s

pub call-keeps : (s : Stores) (c : BankCall) → SoundStores s → SoundStores (left s c)
unfolding left bank_update_call
call-keeps s (update h) r =
    leaves-ready (update_refusal s.u s.f h.db h.power) (bank_step (bank_of s.u s.f) h) s.u s.f
    (good-step (bank_of s.u s.f) h r.good) r

pub calls-keep : (cs : List BankCall) (s : Stores) → SoundStores s → SoundStores (left_by s cs)
calls-keep [] s r = r
calls-keep (c ∷ cs) s r = calls-keep cs (left s c) (call-keeps s c r)

-- ---- from a fresh bank

pub reached : Reached
reached n low high cs = calls-keep cs (stores_of (fresh_bank n)) (good-ready (fresh_bank n) (good-fresh n (omega arith) (omega arith)))

-- the stores are not refused ..
pub reached-sound : ReachedSound
reached-sound n low high cs = not-refused (left_by (stores_of (fresh_bank n)) cs).u (left_by (stores_of (fresh_bank n)) cs).f (reached n low high cs)

-- .. and are those of a sound bank
pub reached-good : (n : ℕ) → 1 ≤ n → n ≤ 512 → (cs : List BankCall)
    → (b : FloorBank) × Good b × (left_by (stores_of (fresh_bank n)) cs ≡ stores_of b)
reached-good n low high cs =
    let s = left_by (stores_of (fresh_bank n)) cs in
    let r = reached n low high cs in
    (bank_of s.u s.f, r.good, λ i. record { u = sym (bank-forth-u s.u s.f r.long) i; f = sym (bank-forth-f s.u s.f r.long_f) i })

-- what making leaves where it does not refuse
made : (r : ℕ) (b : FloorBank) (u : List ℕ) (f : List Float) → (leaves r b u f).0 ≡ 0 → (r ≡ 0) × (stores_in (leaves r b u f) ≡ stores_of b)
made zero b u f e = (refl, refl)
made (suc r) b u f e = absurd (omega arith)

pub made-fresh : (u : List ℕ) (f : List Float) (n : ℕ) → (bank_new_call u f n).0 ≡ 0 → (1 ≤ n) × (n ≤ 512) × (stores_in (bank_new_call u f n) ≡ stores_of (fresh_bank n))
unfolding bank_new_call make_refusal
made-fresh u f n e =
    let m = made (make_refusal (length u) (length f) n) (fresh_bank n) u f e in
    let p = passed (not (within 1 512 n)) 1 (first (differ (length u) (bank_len n) || differ (length f) (bank_f_len n)) 2 0) (omega arith) m.0 in
    let size = within_of 1 512 n (not-false (within 1 512 n) p.0) in
    (size.0, size.1, m.1)
