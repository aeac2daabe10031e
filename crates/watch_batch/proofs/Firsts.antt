-- Where a whole hop stands in front, whole hops are counted. Assumes nothing.
use Rattle.std.proofs.Common.{◌≡◌, refl, sym, ◌∙◌, Bool, true, false, cond, List, ℕ, zero, suc, ◌*◌, ◌<◌, ◌≤◌, min, length, arith}
use native.Mathlib.Nat.{mul-le-mul_left}
use Rattle.std.proofs.lemmas.Bool.Decides.{nat_tests}
use Rattle.std.specs.Prelude.{◌&&◌, ◌+◌, leb, nat_lt, Result, Ok, Err}
use Rattle.refusals.specs.declared.Refusal.{Refusal}
use Rattle.low_first.specs.LowFirst.{byte_at}
use Rattle.watch_recording.specs.declared.Hop.{Hop}
use Rattle.watch_recording.specs.declared.Stop.{Stop}
use Rattle.watch_recording.specs.Recording.{step_of}
use Rattle.watch_batch.specs.Batch.{Whole, Front, is_whole}

-- a hop is answered past three tests
past : (a b c : Bool) (x y z : Stop Refusal) (w : Result Hop (Stop Refusal)) (h : Hop) → Ok h ≡ cond a (Err x) (cond b (Err y) (cond c (Err z) w)) → (b ≡ false) × (c ≡ false)
past true b c x y z w h e = cc
past false true c x y z w h e = cc
past false false true x y z w h e = cc
past false false false x y z w h e = (refl, refl)

within : (size len flag : ℕ) → nat_lt len size ≡ false → nat_lt 1 flag ≡ false → (leb (0 + size) len && leb flag 1) ≡ true
within size len flag p q = grind (arith, nat_tests)

first : (l : List ℕ) (size : ℕ) (h : Hop) → Ok h ≡ step_of l size → is_whole l size 0 ≡ true
first l size h e =
    let p : (nat_lt 1 (byte_at l 0) ≡ false) × (nat_lt (length l) size ≡ false) = past _ _ _ _ _ _ _ h e in
    let z : size * 0 ≡ 0 = omega arith in
    rw z (within size (length l) (byte_at l 0) p.1 p.0)

at_least_one : (l : List ℕ) (size r : ℕ) (h : Hop) → Whole l size r → Ok h ≡ step_of l size → 0 < r
at_least_one l size zero h w e = absurd (let t : true ≡ false = sym (first l size h e) ∙ w.no_more in let n : ⊥ = cc in n)
at_least_one l size (suc r) h w e = omega arith

pub front : (l : List ℕ) (size r hops : ℕ) (h : Hop) → Whole l size r → size * r ≤ length l → Ok h ≡ step_of l size → hops ≡ min r 15 → Front l size hops
front l size r hops h w fits e m =
    let one = at_least_one l size r h w e in
    let le : hops ≤ r = omega (arith, m) in
    record {
      some = omega (arith, m, one);
      few = omega (arith, m);
      within = omega (arith, fits, mul-le-mul_left size le);
      all = λ i lt. w.all i (omega (arith, lt, le));
      no_more = λ lt. let q : hops ≡ r = omega (arith, m, lt) in rw q w.no_more;
    }
