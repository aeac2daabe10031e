-- A segment that is waiting at as many consecutive accepted ticks as there are segments has been served in one of them: each tick that serves
-- another brings the last served nearer to it. Assumes nothing.
use Rattle.std.specs.Prelude.{Option, Some, None, Result, Ok, Err}
use mathlib.Core.Path.{◌≡◌, refl, sym, ap, ◌∙◌, subst}
use mathlib.Core.Bool.{Bool, true, false, not, cond, ◌||◌}
use mathlib.Core.List.{List, [], ◌∷◌}
use Prim.Native.Nat.{ℕ, zero, suc, ◌+◌, ◌≤◌, ◌<◌}
use native.Mathlib.Omega.{arith}
use lib.Dec.{leb, ltb, eqb}
use lib.ListN.{length, take, drop}
use lib.Seq.{length-take-le, take-take}
use borrow.Author.Tests.{ltb-true, ltb-false, leb-true, eqb-false, not-false}
use Rattle.laws.specs.Lists.{part}
use Rattle.laws.specs.Tests.{within}
use Rattle.laws.proofs.Tests.{by-test, clash, and_l, and_r, and-true, or_l}
use Rattle.roles.specs.Rights.{dispatch, may, as_role}
use Rattle.dispatch.specs.Dispatch.{waits, strays, wrong, first_after, dispatch_of, given_back}
use Rattle.dispatch.specs.Fair.{Tick, answer_of, steps_to, InTurn, Right, ticks, is_accepted, serves, every, some, waits_at, FairWithin, Fair, FairInEight, only, accepted_of, RefusedLeftOut, FairAmong}
use Rattle.dispatch.proofs.Steps.{here, later}
use Rattle.dispatch.proofs.Turns.{steps-by, steps_low, steps_high, steps-same, last-below, names-right}

-- ---- what an accepted tick was handed

not-wrong : (count w last : ℕ) → is_accepted (dispatch_of count w last) ≡ true → wrong count w last ≡ false
not-wrong count w last e =
    by-test (wrong count w last)
    (λ t. clash (sym e ∙ ap (λ (b : Bool). is_accepted (cond b (Err 14) (Ok (first_after count w last)))) t)) (λ t. t)

count-few : (count w last : ℕ) → is_accepted (dispatch_of count w last) ≡ true → count ≤ 8
count-few count w last e =
    leb-true count 8
    (and_r (leb 1 count) (leb count 8)
    (not-false (within 1 8 count) (or_l (not (within 1 8 count)) (strays count w || leb count last) (not-wrong count w last e))))

-- one that is accepted was not stopped
granted : (count last : ℕ) (t : Tick) → is_accepted (answer_of count last t) ≡ true → answer_of count last t ≡ dispatch_of count t.waiting last
unfolding answer_of as_role
granted count last t e = by-test (may dispatch t.role) (λ m. rw m) (λ m. clash (sym (rw m at e)))

named : (count last : ℕ) (t : Tick) → is_accepted (answer_of count last t) ≡ true → is_accepted (dispatch_of count t.waiting last) ≡ true
named count last t e = sym (ap is_accepted (granted count last t e)) ∙ e

right : (count last : ℕ) (t : Tick) → is_accepted (answer_of count last t) ≡ true → Right count t.waiting last (answer_of count last t)
right count last t e = subst (Right count t.waiting last) (sym (granted count last t e)) (names-right count t.waiting last)

-- ---- one tick

module _ (count i : ℕ) (b : i < count) where
  past : (last j : ℕ) → last < count → j < count → steps_to count last j < steps_to count last i → steps_to count j i < steps_to count last i
  past last j h l s =
      steps-by count last i h
      (λ li ei. steps-by count last j h
      (λ lj ej. steps-by count j i l (λ lk ek. omega arith) (λ lk ek. omega arith))
      (λ lj ej. steps-by count j i l (λ lk ek. omega arith) (λ lk ek. omega arith)))
      (λ li ei. steps-by count last j h
      (λ lj ej. steps-by count j i l (λ lk ek. omega arith) (λ lk ek. omega arith))
      (λ lj ej. steps-by count j i l (λ lk ek. omega arith) (λ lk ek. omega arith)))

  -- of two that are waiting, the one that is served stood nearer
  stood-nearer : (w last j : ℕ) → last < count → waits w i ≡ true → InTurn count w last j → eqb i j ≡ false → steps_to count last j < steps_to count last i
  stood-nearer w last j h e r n =
      by-test (ltb (steps_to count last j) (steps_to count last i)) (λ t. ltb-true (steps_to count last j) (steps_to count last i) t)
      (λ t. by-test (ltb (steps_to count last i) (steps_to count last j)) (λ u. clash (sym e ∙ r.none_between i b u))
      (λ u. absurd
      (eqb-false i j n
      (steps-same count last h i j b r.segment
      (omega (arith, ltb-false))))))

  nearer : (w last : ℕ) → last < count → waits w i ≡ true → (a : Result (Option ℕ) ℕ) → Right count w last a → is_accepted a ≡ true → serves i a ≡ false
      → (given_back last a < count) × (steps_to count (given_back last a) i < steps_to count last i)
  nearer w last h e (Ok (Some j)) r q n = (r.segment, past last j h r.segment (stood-nearer w last j h e r n))
  nearer w last h e (Ok None) r q n = clash (sym e ∙ r i b)
  nearer w last h e (Err x) r q n = clash (sym q)

  -- ---- a run

  served-from : (ts : List Tick) (last : ℕ) → last < count → steps_to count last i ≤ length ts → every (waits_at i) ts ≡ true
      → every is_accepted (ticks count last ts) ≡ true → some (serves i) (ticks count last ts) ≡ true
  served-from [] last h s e q = absurd (omega (arith, steps_low count last h i))
  served-from (t ∷ ts) last h s e q =
      by-test (serves i a) (λ v. here (serves i a) (some (serves i) rest) v)
      (λ v. (let n = nearer t.waiting last h (and_l (waits_at i t) (every (waits_at i) ts) e) a (right count last t taken) taken v in
      later (serves i a) (some (serves i) rest)
      (served-from ts (given_back last a) n.0 (omega (arith, n.1)) (and_r (waits_at i t) (every (waits_at i) ts) e)
      (and_r (is_accepted a) (every is_accepted rest) q))))
    where
      a : Result (Option ℕ) ℕ
      a = answer_of count last t

      rest : List (Result (Option ℕ) ℕ)
      rest = ticks count (given_back last a) ts

      taken : is_accepted a ≡ true
      taken = and_l (is_accepted a) (every is_accepted rest) q

  served : (ts : List Tick) (last : ℕ) → count ≤ length ts → every (waits_at i) ts ≡ true
      → every is_accepted (ticks count last ts) ≡ true → some (serves i) (ticks count last ts) ≡ true
  served [] last l e q = absurd (omega arith)
  served (t ∷ ts) last l e q =
      let a = answer_of count last t in
      let taken = and_l (is_accepted a) (every is_accepted (ticks count (given_back last a) ts)) q in
      let h = last-below count t.waiting last (not-wrong count t.waiting last (named count last t taken)) in
      served-from (t ∷ ts) last h (omega (arith, steps_high count last h i b)) e q

-- ---- ticks of a longer run

ticks-take : (n count last : ℕ) (ts : List Tick) → take n (ticks count last ts) ≡ ticks count last (take n ts)
ticks-take zero count last ts = refl
ticks-take (suc n) count last [] = refl
ticks-take (suc n) count last (t ∷ ts) =
    ap (λ (r : List (Result (Option ℕ) ℕ)). answer_of count last t ∷ r) (ticks-take n count (given_back last (answer_of count last t)) ts)

within-run : (n count i : ℕ)
    → ((ts : List Tick) (last : ℕ) → n ≤ length ts → every (waits_at i) ts ≡ true
    → every is_accepted (ticks count last ts) ≡ true → some (serves i) (ticks count last ts) ≡ true)
    → (ts : List Tick) (a last : ℕ) → a + n ≤ length ts → every (waits_at i) (part a n ts) ≡ true
    → every is_accepted (part a n (ticks count last ts)) ≡ true → some (serves i) (part a n (ticks count last ts)) ≡ true
within-run n count i f ts zero last l e q =
    ap (some (serves i)) (ticks-take n count last ts)
    ∙ f (take n ts) last (omega (arith, length-take-le n ts (omega arith))) e (sym (ap (every is_accepted) (ticks-take n count last ts)) ∙ q)
within-run n count i f [] (suc a) last l e q = absurd (omega arith)
within-run n count i f (t ∷ ts) (suc a) last l e q = within-run n count i f ts a (given_back last (answer_of count last t)) (omega arith) e q

pub fair : Fair
fair count last i b ts a = within-run _ count i (λ vs start l e q. served count i b vs start (omega arith) e q) ts a last

-- ---- document 02's eight, from that

-- what a test says of the first n of a list
every_take : {A : Type 0} (p : A → Bool) (n : ℕ) (xs : List A) → every p xs ≡ true → every p (take n xs) ≡ true
every_take p zero xs e = refl
every_take p (suc n) [] e = refl
every_take p (suc n) (x ∷ xs) e =
    and-true (p x) (every p (take n xs)) (and_l (p x) (every p xs) e) (every_take p n xs (and_r (p x) (every p xs) e))

some-take : {A : Type 0} (p : A → Bool) (n : ℕ) (xs : List A) → some p (take n xs) ≡ true → some p xs ≡ true
some-take p zero xs e = clash (sym e)
some-take p (suc n) [] e = e
some-take p (suc n) (x ∷ xs) e =
    by-test (p x) (λ t. here (p x) (some p xs) t) (λ t. later (p x) (some p xs) (some-take p n xs (rw t at e)))

-- an accepted tick was handed a count of at most eight
few : (n count : ℕ) (ts : List Tick) (a last : ℕ) → 1 ≤ n → a + n ≤ length ts → every is_accepted (part a n (ticks count last ts)) ≡ true → count ≤ 8
few zero count ts a last s l q = absurd (omega arith)
few (suc n) count [] a last s l q = absurd (omega arith)
few (suc n) count (t ∷ ts) zero last s l q =
    let u = answer_of count last t in
    count-few count t.waiting last (named count last t (and_l (is_accepted u) (every is_accepted (take n (ticks count (given_back last u) ts))) q))
few (suc n) count (t ∷ ts) (suc a) last s l q = few (suc n) count ts a (given_back last (answer_of count last t)) s (omega arith) q

-- of n ticks the first `count` are enough
fair-within : (n count : ℕ) → count ≤ n → FairWithin n count
fair-within n count c last i b ts a l e q =
    let us = drop a (ticks count last ts) in
    let vs = drop a ts in
    some-take (serves i) count (take n us)
    (ap (some (serves i)) (take-take count n us c)
    ∙ fair count last i b ts a (omega arith)
    (sym (ap (every (waits_at i)) (take-take count n vs c)) ∙ every_take (waits_at i) count (take n vs) e)
    (sym (ap (every is_accepted) (take-take count n us c)) ∙ every_take is_accepted count (take n us) q))

pub fair-in-eight : FairInEight
fair-in-eight count last i b ts a l e q = fair-within _ count (omega (arith, few _ count ts a last (omega arith) l q)) last i b ts a l e q

-- ---- refused and stopped ticks between accepted ones

refused-keeps : (last : ℕ) (a : Result (Option ℕ) ℕ) → is_accepted a ≡ false → given_back last a ≡ last
refused-keeps last (Ok (Some j)) e = clash e
refused-keeps last (Ok None) e = clash e
refused-keeps last (Err r) e = refl

pub refused-left-out : RefusedLeftOut
refused-left-out count last [] = refl
refused-left-out count last (t ∷ ts) =
    let a = answer_of count last t in
    let rest = refused-left-out count (given_back last a) ts in
    by-test (is_accepted a) (λ v. simp v (ap (λ (r : List (Result (Option ℕ) ℕ)). a ∷ r) rest))
    (λ v. simp v (rest ∙ ap (λ (l : ℕ). ticks count l (accepted_of count (given_back last a) ts)) (refused-keeps last a v)))

every_drop : {A : Type 0} (p : A → Bool) (n : ℕ) (xs : List A) → every p xs ≡ true → every p (drop n xs) ≡ true
every_drop p zero xs e = e
every_drop p (suc n) [] e = refl
every_drop p (suc n) (x ∷ xs) e = every_drop p n xs (and_r (p x) (every p xs) e)

every-only : {A : Type 0} (p : A → Bool) (xs : List A) → every p (only p xs) ≡ true
every-only p [] = refl
every-only p (x ∷ xs) = by-test (p x) (λ v. simp (v, every-only p xs)) (λ v. simp (v, every-only p xs))

pub fair-among : FairAmong
fair-among count last i b ts a l e =
    let us = only is_accepted (ticks count last ts) in
    let same = refused-left-out count last ts in
    ap (λ (r : List (Result (Option ℕ) ℕ)). some (serves i) (part a 8 r)) same
    ∙ fair-in-eight count last i b (accepted_of count last ts) a l e
    (sym (ap (λ (r : List (Result (Option ℕ) ℕ)). every is_accepted (part a 8 r)) same)
    ∙ every_take is_accepted 8 (drop a us) (every_drop is_accepted a us (every-only is_accepted (ticks count last ts))))
