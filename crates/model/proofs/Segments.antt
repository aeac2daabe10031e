-- Demand 3 for each segment: a run without what is done to the others is a list of calls on one set, of which `demand-3` speaks. What a call does
-- is not looked at, only that a call on another segment leaves this one's stores as they were. Assumes nothing.
use mathlib.Core.Path.{◌≡◌, refl, sym, ap, ap₂, ◌∙◌, subst, subst₂}
use mathlib.Core.Bool.{true, false, not}
use mathlib.Core.List.{List, [], ◌∷◌, map}
use Prim.Native.Nat.{ℕ}
use lib.Dec.{eqb}
use borrow.Author.Tests.{eqb-true, eq-eqb, not-true}
use Rattle.laws.proofs.Tests.{by-test, and_l, and_r}
use Rattle.model.specs.Demand3.{Call, Stores, answer, left, rises_of, left_by, answers, bank_updates, made, SameFloors, Enough, Same}
use Rattle.model.specs.Segments.{Segments, Event, on, tick, anew, put, after, after_all, own, is_kept, lent_in, lent_alone, Apart, AllApart, EachSegment, answer_of, AllSeen, EachCanBeMet}
use Rattle.model.proofs.Demand3.{demand-3}
use Rattle.model.proofs.Sets.{can-be-met}

-- ---- one event, seen from segment i

-- its own call
own-left : (i j : ℕ) (c : Call) (r : Segments) → eqb i j ≡ true → after r (on j c) i ≡ left (r i) c
own-left i j c r e = rw e (ap (λ (m : ℕ). left (r m) c) (sym (eqb-true i j e)))

-- what is done to another
put_other : (i j : ℕ) (s : Stores) (r : Segments) → eqb i j ≡ false → put j s r i ≡ r i
put_other i j s r e = rw e

-- ---- runs

stores_apart : (i : ℕ) (es : List Event) (r : Segments) → is_kept i es ≡ true → after_all r es i ≡ left_by (r i) (own i es)
stores_apart i [] r k = refl
stores_apart i (on j c ∷ es) r k =
    let rest = stores_apart i es (after r (on j c)) k in
    by-test (eqb i j) (λ t. simp t (rest ∙ ap (λ (s : Stores). left_by s (own i es)) (own-left i j c r t)))
    (λ t. simp t (rest ∙ ap (λ (s : Stores). left_by s (own i es)) (put_other i j (left (r j) c) r t)))
stores_apart i (tick count w last ∷ es) r k = stores_apart i es r k
stores_apart i (anew j s ∷ es) r k =
    stores_apart i es (put j s r) (and_r (not (eqb i j)) (is_kept i es) k)
    ∙ ap (λ (u : Stores). left_by u (own i es)) (put_other i j s r (not-true (eqb i j) (and_l (not (eqb i j)) (is_kept i es) k)))

calls-apart : (i : ℕ) (es : List Event) (r : Segments) → is_kept i es ≡ true → lent_in i r es ≡ lent_alone (r i) (own i es)
calls-apart i [] r k = refl
calls-apart i (on j c ∷ es) r k =
    let rest = calls-apart i es (after r (on j c)) k in
    by-test (eqb i j)
    (λ t. simp t
    (ap₂ (λ (s : Stores) (l : List (Stores × Call)). (s, c) ∷ l) (ap r (sym (eqb-true i j t)))
    (rest ∙ ap (λ (s : Stores). lent_alone s (own i es)) (own-left i j c r t))))
    (λ t. simp t (rest ∙ ap (λ (s : Stores). lent_alone s (own i es)) (put_other i j (left (r j) c) r t)))
calls-apart i (tick count w last ∷ es) r k = calls-apart i es r k
calls-apart i (anew j s ∷ es) r k =
    calls-apart i es (put j s r) (and_r (not (eqb i j)) (is_kept i es) k)
    ∙ ap (λ (u : Stores). lent_alone u (own i es)) (put_other i j s r (not-true (eqb i j) (and_l (not (eqb i j)) (is_kept i es) k)))

pub apart : AllApart
apart i r es k = record { calls = calls-apart i es r k; stores = stores_apart i es r k }

-- ---- demand 3

pub each-segment : EachSegment
each-segment i k p q mp mq r t er et xs ys kx ky eb eg fs gs kf kg e =
    record {
      one = apart i (after_all r xs) fs kf;
      other = apart i (after_all t ys) gs kg;
      same =
          subst₂ (λ (s u : Stores). Same k (bank_updates (made k p) (own i xs)) s u (own i fs) (own i gs))
          (sym (stores_apart i xs r kx ∙ ap (λ (s : Stores). left_by s (own i xs)) er))
          (sym (stores_apart i ys t ky ∙ ap (λ (s : Stores). left_by s (own i ys)) et))
          (demand-3 k p q mp mq (own i xs) (own i ys) eb eg (own i fs) (own i gs) e);
    }

-- ---- and seen in the runs

answers-alone : (cs : List Call) (s : Stores) → map answer_of (lent_alone s cs) ≡ answers s cs
answers-alone [] s = refl
answers-alone (c ∷ cs) s = ap (λ (l : List ℕ). answer s c ∷ l) (answers-alone cs (left s c))

answers-in : (i : ℕ) (r : Segments) (es : List Event) → Apart i r es → map answer_of (lent_in i r es) ≡ answers (r i) (own i es)
answers-in i r es x = ap (map answer_of) x.calls ∙ answers-alone (own i es) (r i)

pub all_seen_lem : AllSeen
all_seen_lem k a i r t fs gs x =
    let es = sym x.one.stores in
    let et = sym x.other.stores in
    record {
      refusals = answers-in i r fs x.one ∙ x.same.refusals ∙ sym (answers-in i t gs x.other);
      next_refusal = λ c d e. subst₂ (λ (s u : Stores). answer s c ≡ answer u d) es et (x.same.next_refusal c d e);
      floors = λ e. subst₂ (SameFloors k.n) es et (x.same.floors e);
      rises =
          λ e b c d q. subst₂ (λ (s u : Stores). answer s c ≡ 0 → rises_of s c ≡ rises_of u d) es et (x.same.rises e b c d q);
    }

-- ---- its conditions can be met

all_own : (i : ℕ) (cs : List Call) → own i (map (on i) cs) ≡ cs
all_own i [] = refl
all_own i (c ∷ cs) = rw (eq-eqb i i refl) (ap (λ (l : List Call). c ∷ l) (all_own i cs))

all-kept : (i : ℕ) (cs : List Call) → is_kept i (map (on i) cs) ≡ true
all-kept i [] = refl
all-kept i (c ∷ cs) = all-kept i cs

pub each-can-be-met : EachCanBeMet
each-can-be-met i =
    let (k, p, fs, m, a, e) = can-be-met in
    (k, p, map (on i) fs, m, a, all-kept i fs, subst (Enough k.n 0 (made k p)) (sym (all_own i fs)) e)
