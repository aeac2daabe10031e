-- A run's hops one after another: each is of n channels; none of their calls is refused unless a slow one is garbled, and then one is. Assumes nothing.
use mathlib.Core.Path.{◌≡◌, refl, sym, ap, ◌∙◌}
use mathlib.Core.Bool.{Bool, false, not, ◌||◌}
use mathlib.Core.List.{List, [], ◌∷◌}
use Prim.Native.Nat.{ℕ, suc, ◌+◌, ◌*◌, ◌%◌}
use native.Mathlib.Nat.{suc-mul}
use native.Mathlib.Omega.{arith}
use lib.Dec.{eqb}
use lib.ListN.{length, get_or, take, drop as after, length-drop, replicate}
use lib.Seq.{length-take-le}
use lib.Ieee.{Float}
use Rattle.laws.proofs.Tests.{by-test, or_l, or_r}
use Rattle.model.specs.Layout.{decimation_hops}
use Rattle.model.specs.Demand3.{Stores, answers, left}
use Rattle.run_model.specs.Runs.{RunHop, hops_from, bank_call, gate_call, calls_of, garbled_run}
use Rattle.run_model.specs.Hops.{Fit, Long, garbled_hop, hop_left}
use Rattle.run_model.specs.Claims.{any_refused}
use Rattle.run_model.proofs.Taken.{bank-refused, bank-accepted, bank-fits, bank-phase, gate-taken, gate-bank}

abbrev pub AllLong : ℕ → List RunHop → Type 0
AllLong n [] = Unit {0}
AllLong n (h ∷ hs) = Long n h × AllLong n hs

-- the first n of what is (k + 1) n long, and the rest
cut : {A : Type 0} (n k : ℕ) (l : List A) → length l ≡ suc k * n → (length (take n l) ≡ n) × (length (after n l) ≡ k * n)
cut n k l e = (length-take-le n l (omega (arith, suc-mul k n)), length-drop n l ∙ omega (arith, suc-mul k n))

pub hops-long : (n : ℕ) (hold : List ℕ) (db power : List Float) (rise drop : List ℕ)
    → length db ≡ length hold * n → length power ≡ length hold * n → length rise ≡ length hold * n → length drop ≡ length hold * n
    → AllLong n (hops_from n hold db power rise drop)
hops-long n [] db power rise drop d p r q = tt
hops-long n (x ∷ xs) db power rise drop d p r q =
    let d' = cut n (length xs) db d in
    let p' = cut n (length xs) power p in
    let r' = cut n (length xs) rise r in
    let q' = cut n (length xs) drop q in
    (record { db = d'.0; power = p'.0; rise = r'.0; drop = q'.0 }, hops-long n xs _ _ _ _ d'.1 p'.1 r'.1 q'.1)

-- ---- a hop that is not refused, and the bank and gate after it

module _ (n : ℕ) (s : Stores) (v : Fit n s) (h : RunHop) (l : Long n h) (g : garbled_hop n s h ≡ false) where
  pub hop-fits : Fit n (hop_left s h)
  hop-fits = (gate-taken n (left s (bank_call h)) (bank-fits n s v h l g) h l).1

  pub hop-phase : get_or (hop_left s h).bu 1 0 ≡ (get_or s.bu 1 0 + 1) % decimation_hops
  hop-phase = ap (λ (u : List ℕ). get_or u 1 0) (gate-bank n (left s (bank_call h)) (bank-fits n s v h l g) h l).0 ∙ bank-phase n s v h l g

  hop-answers : (hs : List RunHop) → answers s (calls_of (h ∷ hs)) ≡ 0 ∷ 0 ∷ answers (hop_left s h) (calls_of hs)
  hop-answers hs =
      λ i. bank-accepted n s v h l g i ∷ (gate-taken n (left s (bank_call h)) (bank-fits n s v h l g) h l).0 i ∷ answers (hop_left s h) (calls_of hs)

-- what is garbled of a run, by its first hop
module _ (n : ℕ) (s : Stores) (h : RunHop) (hs : List RunHop) (g : garbled_run n (get_or s.bu 1 0) (h ∷ hs) ≡ false) where
  pub first-clear : garbled_hop n s h ≡ false
  first-clear = or_l (garbled_hop n s h) _ g

  pub rest-clear : garbled_run n ((get_or s.bu 1 0 + 1) % decimation_hops) hs ≡ false
  rest-clear = or_r (garbled_hop n s h) _ g

-- ---- the run

two-more : (k : ℕ) → ◌≡◌ {A = List ℕ} (0 ∷ 0 ∷ replicate (k + k) 0) (replicate (suc k + suc k) 0)
two-more k = ap (λ (m : ℕ). replicate {A = ℕ} m 0) (let e : suc (suc (k + k)) ≡ suc k + suc k = omega arith in e)

pub none_refused : (n : ℕ) (hs : List RunHop) (s : Stores) → Fit n s → AllLong n hs → garbled_run n (get_or s.bu 1 0) hs ≡ false
    → answers s (calls_of hs) ≡ replicate (length hs + length hs) 0
none_refused n [] s v l g = refl
none_refused n (h ∷ hs) s v l g =
    let c = first-clear n s h hs g in
    let p = hop-phase n s v h l.0 c in
    hop-answers n s v h l.0 c hs
    ∙ ap (λ (xs : List ℕ). 0 ∷ 0 ∷ xs)
    (none_refused n hs (hop_left s h) (hop-fits n s v h l.0 c) l.1 (ap (λ (q : ℕ). garbled_run n q hs) p ∙ rest-clear n s h hs g))
    ∙ two-more (length hs)

-- "refused .. exactly when some call of that list would be"
pub refused-exactly : (n : ℕ) (hs : List RunHop) (s : Stores) → Fit n s → AllLong n hs
    → garbled_run n (get_or s.bu 1 0) hs ≡ any_refused (answers s (calls_of hs))
refused-exactly n [] s v l = refl
refused-exactly n (h ∷ hs) s v l =
    by-test (garbled_hop n s h)
    (λ g. ap (λ (b : Bool). b || garbled_run n ((get_or s.bu 1 0 + 1) % decimation_hops) hs) g
    ∙ sym (ap (λ (r : ℕ). not (eqb r 0) || any_refused (answers (left s (bank_call h)) (gate_call h ∷ calls_of hs))) (bank-refused n s v h l.0 g)))
    (λ g.
    ap (λ (b : Bool). b || garbled_run n ((get_or s.bu 1 0 + 1) % decimation_hops) hs) g
    ∙ ap (λ (q : ℕ). garbled_run n q hs) (sym (hop-phase n s v h l.0 g))
    ∙ refused-exactly n hs (hop_left s h) (hop-fits n s v h l.0 g) l.1
    ∙ sym (ap any_refused (hop-answers n s v h l.0 g hs)))
