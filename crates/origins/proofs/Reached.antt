-- From a fresh bank, after any list of calls, the stored rise floors are what is worked out from the other fields, so the rise floor explained
-- is the rise reading. Assumes nothing.
use mathlib.Core.Path.{◌≡◌, refl, sym, ap, subst, ◌∙◌}
use mathlib.Core.Bool.{not}
use mathlib.Core.List.{List, [], ◌∷◌}
use Prim.Native.Nat.{ℕ, zero, suc, ◌/◌, ◌<◌}
use native.Mathlib.Omega.{arith}
use lib.Dec.{ltb}
use lib.ListN.{get_or, get_or-replicate}
use lib.Ieee.{Float, add, lt, is_nan, neg, of_bits}
use borrow.Author.Tests.{ltb-true, not-false}
use Rattle.laws.proofs.Tests.{passed, neither}
use Rattle.laws.proofs.Tabs.{get_d-tab}
use Rattle.model.specs.Layout.{block_channels, hist_min}
use Rattle.model.specs.Numbers.{f0}
use Rattle.model.specs.Bank.{FloorBank, Hop, blocks, fresh_channel, fresh_bank, effective_floor, rise_floor, rise_floors, fast_step, slow_step, step_at, bank_step}
use Rattle.model.specs.Stores.{bank_of}
use Rattle.model.specs.Refusals.{bank_refusal, read_refusal, update_refusal}
use Rattle.model.specs.Calls.{leaves, bank_update_call}
use Rattle.refusals.specs.Readings.{reading}
use Rattle.model.specs.Readings.{rise_at, rise_reading}
use Rattle.model.specs.GoodBank.{Good}
use Rattle.model.specs.Reach.{Stores, BankCall, update, stores_in, left, left_by, stores_of, SoundStores}
use Rattle.model.proofs.GoodBanks.{bank-back, good-ready}
use Rattle.model.proofs.FreshBanks.{good-fresh, good-step}
use Rattle.model.proofs.Reach.{call-keeps}
use Rattle.origins.specs.Origins.{of_channel}
use Rattle.origins.specs.Explains.{RiseReached}
use Rattle.origins.proofs.Explains.{rise-explained}

-- each stored rise floor is the one of document 01's formula
abbrev Kept : FloorBank → Type 0
Kept b = (k : ℕ) → k < b.n → rise_at b k ≡ of_channel rise_floor b k

-- ---- a fresh bank, and a bank after an update

fresh-floor : hist_min ≡ rise_floor hist_min hist_min 0 0 f0
unfolding rise_floor effective_floor add lt is_nan neg of_bits
fresh-floor = refl

kept_fresh : (n : ℕ) → Kept (fresh_bank n)
unfolding fresh_bank of_channel fresh_channel
kept_fresh n k h =
    let i : k / block_channels < blocks n = omega arith in
    simp (get_or-replicate {A = Float} n k hist_min f0 h, get_or-replicate n k fresh_channel fresh_channel h, get_or-replicate {A = Float} (blocks n) (k / block_channels) hist_min f0 i, get_or-replicate {A = ℕ} (blocks n) (k / block_channels) 0 0 i, get_or-replicate {A = Float} (blocks n) (k / block_channels) f0 f0 i)
    fresh-floor

kept-slow : (b : FloorBank) (h : Hop) → Kept (slow_step b h)
unfolding slow_step rise_floors of_channel
kept-slow b h k l = get_d-tab b.n _ k f0 l

kept_step : (p : ℕ) (b : FloorBank) (h : Hop) → Kept b → Kept (step_at p b h)
unfolding fast_step of_channel
kept_step zero b h kept = kept-slow b h
kept_step (suc p) b h kept = kept

-- ---- lent stores, after any list of calls

abbrev KeptIn : Stores → Type 0
KeptIn s = Kept (bank_of s.u s.f)

kept-stores : (b : FloorBank) → Good b → Kept b → KeptIn (stores_of b)
kept-stores b g kept = subst Kept (sym (bank-back b g)) kept

kept-left : (r : ℕ) (b : FloorBank) (u : List ℕ) (f : List Float) → Good b → Kept b → Kept (bank_of u f) → KeptIn (stores_in (leaves r b u f))
kept-left zero b u f g kept was = kept-stores b g kept
kept-left (suc r) b u f g kept was = was

kept-call : (s : Stores) (c : BankCall) → SoundStores s → KeptIn s → KeptIn (left s c)
unfolding left bank_update_call bank_step
kept-call s (update h) r kept =
    let b = bank_of s.u s.f in
    kept-left (update_refusal s.u s.f h.db h.power) (bank_step b h) s.u s.f (good-step b h r.good) (kept_step b.phase b h kept) kept

kept-calls : (cs : List BankCall) (s : Stores) → SoundStores s → KeptIn s → KeptIn (left_by s cs)
kept-calls [] s r kept = kept
kept-calls (c ∷ cs) s r kept = kept-calls cs (left s c) (call-keeps s c r) (kept-call s c r kept)

-- ---- as readings

-- a reading that is not refused is of a channel below n
asked-below : (u : List ℕ) (f : List Float) (k : ℕ) → read_refusal u f k ≡ 0 → k < get_or u 0 0
unfolding read_refusal
asked-below u f k e =
    let p = passed (not (ltb k (get_or u 0 0))) 7 0 (omega arith) (neither (bank_refusal u f) _ e).1 in
    ltb-true k (get_or u 0 0) (not-false (ltb k (get_or u 0 0)) p.0)

same_by : (r : ℕ) (x y : Float) → (r ≡ 0 → x ≡ y) → reading r x ≡ reading r y
same_by zero x y h = ap (reading 0) (h refl)
same_by (suc r) x y h = refl

pub rise-reached : RiseReached
unfolding rise_reading bank_of
rise-reached n low high cs k =
    let g = good-fresh n low high in
    let s = left_by (stores_of (fresh_bank n)) cs in
    rise-explained s.u s.f k
    ∙ same_by (read_refusal s.u s.f k) _ _
    (λ e.
    sym
    (kept-calls cs (stores_of (fresh_bank n)) (good-ready (fresh_bank n) g) (kept-stores (fresh_bank n) g (kept_fresh n)) k
    (asked-below s.u s.f k e)))
