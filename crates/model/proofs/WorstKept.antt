-- What one call of a list that carries the store of R-6 leaves: in the store the floors so far, in bank and gate what they are without it.
-- Assumes nothing.
use mathlib.Core.Path.{◌≡◌, refl, sym, ap, ap₂, subst, ◌∙◌}
use mathlib.Core.Bool.{Bool, true, false, cond, ◌&&◌}
use mathlib.Core.List.{List, [], ◌∷◌, ◌++◌, append-nil, map-append}
use Prim.Native.Nat.{ℕ, zero, suc, ◌<◌}
use native.Mathlib.Omega.{arith}
use lib.Dec.{eqb}
use lib.Ieee.{Float}
use borrow.Author.Tests.{ne_eqb}
use Rattle.model.specs.Bank.{FloorBank, Hop, bank_step}
use Rattle.model.specs.Stores.{bank_of}
use Rattle.model.specs.Calls.{bank_update_call}
use Rattle.model.specs.Readings.{effective_at}
use Rattle.model.specs.MapCalls.{map_write_call, gate_update_if, gate_hold_if}
use Rattle.model.specs.Worst.{Worst, ring_of, floors_taken, taken_at, worst_step, in_turn, latest}
use Rattle.model.specs.WorstCalls.{update_if}
use Rattle.model.specs.Demand3.{Asked, AskedWith, with, exported, Call, bank, gate, hold, write, Stores, does, step, answer, bank_hop, bank_in}
use Rattle.model.specs.Sets.{worst_in}
use Rattle.model.specs.WorstOfLate.{carries, asked_plain, plain, counts, slow_bank, floors_in, SameBut}
use Rattle.model.proofs.WorstTurns.{turn-taken, latest-on}
use Rattle.model.proofs.SettledFloors.{run_bank}
use Rattle.model.proofs.Carrying.{Triple, worst_after, bank-same}
use Rattle.roles.specs.Rights.{may, as_role}
use Rattle.roles.proofs.Roles.{either}
use Rattle.model.proofs.Calls.{SoundBank, SoundWorst}

-- the floors that a store holds of channel k, oldest first
abbrev pub held : Worst → ℕ → List Float
held w k = in_turn w.next w.filled (ring_of w k)

-- What holds along a list of a set in s, beside one in t that carries nothing: bank and store are sound and of n channels, both sets have the same
-- bank and gate, and each ring has the last W of the floors in the banks that count
pub record Kept (n W : ℕ) (s t : Stores) (bs : List FloorBank) : Type 0 where
  pub bank : SoundBank s
  pub worst : SoundWorst s
  pub bank_n : (bank_in s).n ≡ n
  pub worst_n : (worst_in s).n ≡ n
  pub span : (worst_in s).W ≡ W
  pub same : SameBut s t
  pub floors : (k : ℕ) → k < n → held (worst_in s) k ≡ latest W (floors_in k bs)

-- ---- one call

not-nought : (r : ℕ) → eqb (suc r) 0 ≡ false
not-nought r = ne_eqb (suc r) 0 (λ e. omega arith)

module _ (n W : ℕ) (s t : Stores) (bs : List FloorBank) (q : Kept n W s t bs) where
  equal : (worst_in s).n ≡ (bank_in s).n
  equal = q.worst_n ∙ sym q.bank_n

  same_bank : bank_in s ≡ bank_in t
  same_bank = ap₂ bank_of q.same.bu q.same.bf

  -- carrying nothing answers and leaves the same
  update_same : (c : Bool) (h : Hop)
      → let a = update_if c s.bu s.bf s.wu s.wf h in (a.0, a.1, a.2) ≡ bank_update_call t.bu t.bf h
  update_same c h =
      bank-same s.bu s.bf s.wu s.wf h c q.bank.bank_passes q.worst.worst_passes equal
      ∙ ap₂ (λ (u : List ℕ) (f : List Float). bank_update_call u f h) q.same.bu q.same.bf

  abbrev Alike : ℕ × Stores → ℕ × Stores → Type 0
  Alike x y = (x.0 ≡ y.0) × SameBut x.1 y.1

  does-same : (a : Asked) → Alike (does s a) (does t (asked_plain a))
  unfolding does
  does-same (bank c h) =
      let e = update_same c h in
      let m = q.same in
      (ap (λ (a : Triple). a.0) e, record { bu = ap (λ (a : Triple). a.1) e; bf = ap (λ (a : Triple). a.2) e; gu = m.gu; gf = m.gf; map = m.map })
  does-same (gate c h rise drop) =
      let m = q.same in
      let e : gate_update_if c s.bu s.bf s.gu s.gf s.map h rise drop ≡ gate_update_if c t.bu t.bf t.gu t.gf t.map h rise drop =
      λ i. gate_update_if c (m.bu i) (m.bf i) (m.gu i) (m.gf i) (m.map i) h rise drop in
      (λ i. (e i).0, record { bu = m.bu; bf = m.bf; gu = λ i. (e i).1; gf = λ i. (e i).2; map = λ i. (e i).3 })
  does-same (hold c rise drop) =
      let m = q.same in
      let e : gate_hold_if c s.bu s.bf s.gu s.gf s.map rise drop ≡ gate_hold_if c t.bu t.bf t.gu t.gf t.map rise drop =
      λ i. gate_hold_if c (m.bu i) (m.bf i) (m.gu i) (m.gf i) (m.map i) rise drop in
      (λ i. (e i).0, record { bu = m.bu; bf = m.bf; gu = m.gu; gf = λ i. (e i).1; map = λ i. (e i).2 })
  does-same (write j x) =
      let m = q.same in
      let e : map_write_call s.gu s.gf s.map j x ≡ map_write_call t.gu t.gf t.map j x = λ i. map_write_call (m.gu i) (m.gf i) (m.map i) j x in
      (λ i. (e i).0, record { bu = m.bu; bf = m.bf; gu = m.gu; gf = m.gf; map = λ i. (e i).1 })

  -- whether it carries the store changes no right
  same-right : (a : Asked) (role : ℕ) → may (exported (with a)) role ≡ may (exported (with (asked_plain a))) role
  same-right (bank true h) role = refl
  same-right (bank false h) role = refl
  same-right (gate c h rise drop) role = refl
  same-right (hold c rise drop) role = refl
  same-right (write i v) role = refl

  pub step_same : (c : Call) → Alike (step s c) (step t (plain c))
  unfolding step as_role
  step_same c =
      subst (λ (b : Bool). Alike (cond (may (exported (with c.asked)) c.role) (does s c.asked) (16, s)) (cond b (does t (asked_plain c.asked)) (16, t)))
      (same-right c.asked c.role)
      (either (may (exported (with c.asked)) c.role) Alike (does s c.asked) (16, s) (does t (asked_plain c.asked)) (16, t)
      (does-same c.asked) (refl, q.same))

  pub counts-at : (c : Call) (r p : ℕ) → answer s c ≡ r → (bank_in s).phase ≡ p → counts t c ≡ (carries (with c.asked) && eqb r 0 && eqb p 0)
  unfolding counts
  counts-at c r p er ep =
      ap₂ (λ (r p : ℕ). carries (with c.asked) && eqb r 0 && eqb p 0) (sym (step_same c).0 ∙ er) (sym (ap (λ (b : FloorBank). b.phase) same_bank) ∙ ep)

  module _ (k : ℕ) (l : k < n) where
    stays : held (worst_in s) k ≡ latest W (floors_in k (bs ++ []))
    stays = q.floors k l ∙ ap (λ (l : List FloorBank). latest W (floors_in k l)) (sym (append-nil bs))

    -- the floors of one more bank
    takes : (x : FloorBank) → held (floors_taken x (worst_in s)) k ≡ latest W (floors_in k (bs ++ (x ∷ [])))
    takes x =
        turn-taken x (worst_in s) q.worst.worst_good k (subst (λ (m : ℕ). k < m) (sym q.worst_n) l)
        ∙ ap₂ (λ (m : ℕ) (l : List Float). latest m (l ++ (effective_at x k ∷ []))) q.span (q.floors k l)
        ∙ latest-on W (floors_in k bs) (effective_at x k)
        ∙ ap (latest W) (sym (map-append (λ (b : FloorBank). effective_at b k) bs (x ∷ [])))

    -- what the store holds after a call with answer r, found at phase p
    pub turns : (a : AskedWith) (r p : ℕ) → (bank_in s).phase ≡ p
        → held (worst_after r (bank_in s) (worst_in s) a) k
        ≡ latest W (floors_in k (bs ++ slow_bank (carries a && eqb r 0 && eqb p 0) (run_bank (bank_in s) (bank_hop r a))))
    unfolding worst_step
    turns (bank true h) zero zero e = ap (λ (p : ℕ). held (taken_at p (bank_step (bank_in s) h) (worst_in s)) k) e ∙ takes (bank_step (bank_in s) h)
    turns (bank true h) zero (suc p) e = ap (λ (p : ℕ). held (taken_at p (bank_step (bank_in s) h) (worst_in s)) k) e ∙ rw (not-nought p) stays
    turns (bank true h) (suc r) p e = rw (not-nought r) stays
    turns (bank false h) zero p e = stays
    turns (bank false h) (suc r) p e = stays
    turns (gate c h rise drop) zero p e = stays
    turns (gate c h rise drop) (suc r) p e = stays
    turns (hold c rise drop) zero p e = stays
    turns (hold c rise drop) (suc r) p e = stays
    turns (write i v) zero p e = stays
    turns (write i v) (suc r) p e = stays
