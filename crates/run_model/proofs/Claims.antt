-- What a run of hops can be relied on for, proved. Assumes nothing.
use mathlib.Core.Path.{◌≡◌, refl, sym, ap, subst, ◌∙◌}
use mathlib.Core.Bool.{Bool, true, false, cond, ◌||◌}
use mathlib.Core.List.{List, [], ◌∷◌}
use Prim.Native.Nat.{ℕ, zero, suc, ◌+◌, ◌*◌}
use native.Mathlib.Nat.{zero-mul}
use native.Mathlib.Omega.{arith}
use lib.Dec.{eqb}
use lib.ListN.{length, get_or, replicate}
use lib.Ieee.{Float}
use borrow.Author.Tests.{eqb-true}
use Rattle.laws.specs.Tests.{differ, first}
use Rattle.laws.proofs.Tests.{by-test, neither, passed, same_of, or_l, or_r, clash}
use Rattle.model.specs.GateCalls.{pair_refusal}
use Rattle.model.specs.Demand3.{Stores}
use Rattle.roles.specs.Rights.{receive, may, as_role}
use Rattle.run_model.specs.Runs.{Run, hops_of, hops_from, garbled_run, not_long, run_refusal, Received, alone, run_leaves, received}
use Rattle.run_model.specs.Claims.{refusal_on, received_on, with_run, AcceptedRun, RefusedExactly, NoHops, is_heard, AsList, ReceiveDoes}
use Rattle.run_model.proofs.Taken.{fit_of}
use Rattle.run_model.proofs.Beside.{run-over, run-rises, run-drops}
use Rattle.run_model.proofs.Runs.{AllLong, hops-long, none_refused, refused-exactly}

-- ---- what a run that is not refused has shown

pub run_long : (n : ℕ) (r : Run) → not_long n r ≡ false
    → let L = length r.hold * n in (length r.db ≡ L) × (length r.power ≡ L) × (length r.rise ≡ L) × (length r.drop ≡ L)
run_long n r e =
    let L = length r.hold * n in
    let d = differ (length r.db) L in
    let p = differ (length r.power) L in
    let i = differ (length r.rise) L in
    let o = differ (length r.drop) L in
    let e₃ = or_l (d || p || i) o e in
    let e₂ = or_l (d || p) i e₃ in
    (same_of _ L (or_l d p e₂), same_of _ L (or_r d p e₂), same_of _ L (or_r (d || p) i e₃), same_of _ L (or_r (d || p || i) o e))

all-long : (n : ℕ) (r : Run) → not_long n r ≡ false → AllLong n (hops_of n r)
all-long n r e = let l = run_long n r e in
    hops-long n r.hold r.db r.power r.rise r.drop l.0 l.1 l.2 l.3

pub record Passed (s : Stores) (r : Run) : Type 0 where
  pub pair : pair_refusal s.bu s.bf s.gu s.gf ≡ 0
  pub long : not_long (get_or s.gu 0 0) r ≡ false
  pub clear : garbled_run (get_or s.gu 0 0) (get_or s.bu 1 0) (hops_of (get_or s.gu 0 0) r) ≡ false

pub passes : (s : Stores) (r : Run) → refusal_on s r ≡ 0 → Passed s r
unfolding run_refusal
passes s r e =
    let a = neither (pair_refusal s.bu s.bf s.gu s.gf) _ e in
    let b = passed (not_long (get_or s.gu 0 0) r) 5 _ (omega arith) a.1 in
    let c = passed (garbled_run (get_or s.gu 0 0) (get_or s.bu 1 0) (hops_of (get_or s.gu 0 0) r)) 6 0 (omega arith) b.1 in
    record { pair = a.0; long = b.0; clear = c.0 }

-- as many hops as holds
pub hops-many : (n : ℕ) (hold : List ℕ) (db power : List Float) (rise drop : List ℕ) → length (hops_from n hold db power rise drop) ≡ length hold
hops-many n [] db power rise drop = refl
hops-many n (x ∷ xs) db power rise drop = ap suc (hops-many n xs _ _ _ _)

-- ---- the claims

pub accepted-run : AcceptedRun
unfolding received
accepted-run s r e =
    let p = passes s r e in
    let n = get_or s.gu 0 0 in
    let hs = hops_of n r in
    let is : received_on s r ≡ run_leaves 0 (alone s.bu s.bf s.gu s.gf) r = ap (λ (x : ℕ). run_leaves x (alone s.bu s.bf s.gu s.gf) r) e in
    record {
      none_refused =
          none_refused n hs s (fit_of s p.pair) (all-long n r p.long) p.clear
          ∙ ap (λ (k : ℕ). replicate (k + k) 0) (hops-many n r.hold r.db r.power r.rise r.drop);
      accepted = ap (λ (a : Received). a.0) is;
      stores = ap (λ (a : Received). with_run s a.1 a.2 a.3 a.4) is ∙ run-over hs s;
      rises = ap (λ (a : Received). a.5) is ∙ run-rises hs s;
      drops = ap (λ (a : Received). a.6) is ∙ run-drops hs s;
    }

six : (b : Bool) → eqb (first b 6 0) 6 ≡ b
six true = refl
six false = refl

pub refused-run : RefusedExactly
unfolding run_refusal
refused-run s r p l =
    let n = get_or s.gu 0 0 in
    rw (p, l)
    (six (garbled_run n (get_or s.bu 1 0) (hops_of n r)) ∙ refused-exactly n (hops_of n r) s (fit_of s p) (all-long n r l))

-- nothing is left of what is 0 long
none_left : (l : List ℕ) → length l ≡ 0 → l ≡ []
none_left [] e = refl
none_left (x ∷ xs) e = absurd (omega arith)

-- what a run of no hops leaves, by its refusal
no-hops-by : (x : ℕ) (s : Stores) (db power : List Float) (rise drop : List ℕ) → (x ≡ 0 → (length rise ≡ 0) × (length drop ≡ 0))
    → run_leaves x (alone s.bu s.bf s.gu s.gf) (record { hold = []; db = db; power = power; rise = rise; drop = drop })
    ≡ (x, s.bu, s.bf, s.gu, s.gf, rise, drop)
no-hops-by zero s db power rise drop z =
    let e = z refl in
    λ i. (0, s.bu, s.bf, s.gu, s.gf, sym (none_left rise e.0) i, sym (none_left drop e.1) i)
no-hops-by (suc x) s db power rise drop z = refl

pub no-hops : NoHops
unfolding received
no-hops s db power rise drop =
    let r : Run = record { hold = []; db = db; power = power; rise = rise; drop = drop } in
    no-hops-by (refusal_on s r) s db power rise drop
    (λ e.
    let n = get_or s.gu 0 0 in
    let l = run_long n r (passes s r e).long in
    (l.2 ∙ zero-mul n, l.3 ∙ zero-mul n))

-- ---- the exported call

abbrev Left : ℕ → Stores → Run → Received → Type 0
Left role s r a = AsList s role r a.0 a.1 a.2 a.3 a.4 a.5 a.6

-- a run that is heard
heard : (s : Stores) (r : Run) (role : ℕ) → may receive role ≡ true → refusal_on s r ≡ 0 → Left role s r (received_on s r)
heard s r role m e =
    let a = accepted-run s r e in
    let h : is_heard role s r ≡ true = rw (m, e) refl in
    record {
      answer = a.accepted ∙ sym (rw (m, e) refl);
      stores = rw h a.stores;
      rises = rw h a.rises;
      drops = rw h a.drops;
    }

-- one that is not leaves what was there
unheard : (s : Stores) (r : Run) (role x : ℕ) → is_heard role s r ≡ false → x ≡ cond (may receive role) (refusal_on s r) 16
    → Left role s r (x, s.bu, s.bf, s.gu, s.gf, r.rise, r.drop)
unheard s r role x h e =
    record {
      answer = e;
      stores = rw h refl;
      rises = rw h refl;
      drops = rw h refl;
    }

refused-leaves : (x : ℕ) (s : Stores) (r : Run) → eqb x 0 ≡ false
    → (x, s.bu, s.bf, s.gu, s.gf, r.rise, r.drop) ≡ run_leaves x (alone s.bu s.bf s.gu s.gf) r
refused-leaves zero s r e = clash e
refused-leaves (suc x) s r e = refl

run-does : (s : Stores) (r : Run) (role : ℕ) → may receive role ≡ true → Left role s r (received_on s r)
unfolding received
run-does s r role m =
    by-test (eqb (refusal_on s r) 0)
    (λ t. heard s r role m (eqb-true (refusal_on s r) 0 t))
    (λ t. subst (Left role s r) (refused-leaves (refusal_on s r) s r t) (unheard s r role (refusal_on s r) (rw (m, t) refl) (sym (rw m refl))))

by_right : (m : Bool) (s : Stores) (r : Run) (role : ℕ) → may receive role ≡ m
    → Left role s r (cond m (received_on s r) (16, s.bu, s.bf, s.gu, s.gf, r.rise, r.drop))
by_right true s r role e = run-does s r role e
by_right false s r role e = unheard s r role 16 (rw e refl) (sym (rw e refl))

pub receive-does : ReceiveDoes
unfolding as_role
receive-does s role r x u f g k rise drop e = subst (Left role s r) (sym e) (by_right (may receive role) s r role refl)
