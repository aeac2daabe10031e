-- Lists of calls on a map: what they leave is sound, and no mark is lost. Assumes nothing.
use mathlib.Core.Path.{◌≡◌, refl, sym, ap, ◌∙◌}
use mathlib.Core.Bool.{Bool, true, false, not, ◌&&◌, ◌||◌, and_comm}
use mathlib.Core.List.{List, [], ◌∷◌, ◌++◌}
use Prim.Native.Nat.{ℕ, zero, suc, ◌+◌, ◌/◌, ◌%◌, ◌<◌}
use native.Mathlib.Omega.{arith}
use lib.Dec.{eqb, ltb}
use lib.ListN.{length, get_or}
use lib.Ieee.{Float}
use borrow.Author.Tests.{ne_eqb, not-true}
use Rattle.laws.proofs.Tests.{by-test, clash, and_l, and_r}
use Rattle.laws.specs.Lists.{one}
use Rattle.laws.specs.Tests.{first}
use Rattle.laws.specs.Bits.{bit_at, width}
use Rattle.model.specs.GateCalls.{gate_refusal}
use Rattle.model.specs.Map.{map_long, rise_flag, drop_flag, wire, fresh_map, marked, marks_set, written}
use Rattle.model.specs.MapCalls.{map_refusal, address_refusal, after_gate, unless_refused, map_read_call, map_write_call, map_wire_call}
use Rattle.model.specs.MapReach.{MapCall, marks, writes, reads, wires, marks_refusal, map_step, map_answer, map_left, map_left_by, IsMap, Reached, Kind, rises, drops, flag_of, address_of, marks_in, marks_it, clears_it, cleared_by, MarkedSince, NoneLost}
use Rattle.model.proofs.MapRefusals.{is-map, good-address, good-marks, taken-marks}
use Rattle.model.proofs.MapFlags.{rise-set, drop-set, long-marks, marks-sound, rise-written, drop-written, long-written, write-sound, long-fresh, fresh-rise, fresh-drop, fresh-sound}

-- ---- one call

-- what holds of a map that is written, and of the one that was there
pub left_one : (P : List ℕ → Type 0) (r : ℕ) (new old : List ℕ) → (r ≡ 0 → P new) → P old → P (unless_refused r new old).1
left_one P zero new old f g = f refl
left_one P (suc r) new old f g = g

module _ (n : ℕ) (m : List ℕ) where
  marks-keep : (rise fall : List ℕ) → IsMap n m → marks_refusal n m (length rise) (length fall) ≡ 0 → IsMap n (marks_set n m rise fall)
  marks-keep rise fall h e =
      let l = taken-marks n m (length rise) (length fall) e in
      record { long = long-marks n m rise fall h.long; sound = marks-sound n m rise fall h.long l.1 l.2 h.sound }

  pub write_keeps : (a v : ℕ) → IsMap n m → address_refusal n m a ≡ 0 → IsMap n (written n m a v)
  write_keeps a v h e =
      let l = (good-address n m a e).1 in
      record { long = long-written n m a v h.long l; sound = write-sound n m a v h.long l h.sound }

  pub keeps : (c : MapCall) → IsMap n m → IsMap n (map_left n m c)
  unfolding map_step
  keeps (marks rise fall) h = left_one (IsMap n) (marks_refusal n m (length rise) (length fall)) (marks_set n m rise fall) m (marks-keep rise fall h) h
  keeps (writes a v) h = left_one (IsMap n) (address_refusal n m a) (written n m a v) m (write_keeps a v h) h
  keeps (reads a) h = h
  keeps wires h = h

-- ---- lists of calls

fresh-map : (n : ℕ) → IsMap n (fresh_map n)
fresh-map n = record { long = long-fresh n; sound = fresh-sound n }

pub kept_by : (n : ℕ) (m : List ℕ) (cs : List MapCall) → IsMap n m → IsMap n (map_left_by n m cs)
kept_by n m [] h = h
kept_by n m (c ∷ cs) h = kept_by n (map_left n m c) cs (keeps n m c h)

pub reached : Reached
reached n cs = kept_by n (fresh_map n) cs (fresh-map n)

-- so no call on it is refused with 2 or 9
pub reached-taken : (n : ℕ) (cs : List MapCall) → map_refusal n (map_left_by n (fresh_map n) cs) ≡ 0
reached-taken n cs = let h = reached n cs in
    sym (is-map n (map_left_by n (fresh_map n) cs) h.long h.sound)

-- ---- a flag after one call

stays : (b : Bool) → b ≡ ((b && not false) || false)
stays true = refl
stays false = refl

joins : (b x : Bool) → (b || x) ≡ ((b && not false) || x)
joins true x = refl
joins false x = refl

alone : (b x : Bool) → (b && not x) ≡ ((b && not x) || false)
alone true true = refl
alone true false = refl
alone false x = refl

-- c: it is cleared, d: it is marked, where the call is taken
by_answer : (f : List ℕ → Bool) (r : ℕ) (new old : List ℕ) (c d : Bool) → (r ≡ 0 → f new ≡ ((f old && not c) || d))
    → f (unless_refused r new old).1 ≡ ((f old && not (eqb (unless_refused r new old).0 0 && c)) || (eqb (unless_refused r new old).0 0 && d))
by_answer f zero new old c d h = h refl
by_answer f (suc r) new old c d h = let z : eqb (suc r) 0 ≡ false = ne_eqb (suc r) 0 (λ q. omega arith) in rw z (stays (f old))

module _ (n k : ℕ) (m : List ℕ) (h : IsMap n m) (l : k < n) where
  marked-flag : (g : Kind) (rise fall : List ℕ) → flag_of g n (marks_set n m rise fall) k ≡ ((flag_of g n m k && not false) || marked (marks_in g rise fall) k)
  marked-flag rises rise fall = rise-set n m rise fall h.long k (omega arith) ∙ joins (rise_flag n m k) (marked rise k)
  marked-flag drops rise fall = drop-set n m rise fall h.long k (omega arith) ∙ joins (drop_flag n m k) (marked fall k)

  written-flag : (g : Kind) (a v : ℕ) → a < map_long n
      → flag_of g n (written n m a v) k ≡ ((flag_of g n m k && not (eqb a (address_of g n k) && bit_at v (k % 8))) || false)
  written-flag rises a v q = rise-written n m a v h.long q k (omega arith) ∙ alone (rise_flag n m k) (eqb a (k / 8) && bit_at v (k % 8))
  written-flag drops a v q = drop-written n m a v h.long q k (omega arith) ∙ alone (drop_flag n m k) (eqb a (width n + k / 8) && bit_at v (k % 8))

  flag-after : (g : Kind) (c : MapCall) → flag_of g n (map_left n m c) k ≡ ((flag_of g n m k && not (clears_it g n k m c)) || marks_it g n k m c)
  unfolding map_step
  flag-after g (marks rise fall) =
      by_answer (λ (x : List ℕ). flag_of g n x k) (marks_refusal n m (length rise) (length fall)) (marks_set n m rise fall) m false (marked (marks_in g rise fall) k)
      (λ e. marked-flag g rise fall)
      ∙ ap (λ (b : Bool). (flag_of g n m k && not b) || (eqb (map_answer n m (marks rise fall)) 0 && marked (marks_in g rise fall) k))
      (and_comm (eqb (map_answer n m (marks rise fall)) 0) false)
  flag-after g (writes a v) =
      by_answer (λ (x : List ℕ). flag_of g n x k) (address_refusal n m a) (written n m a v) m (eqb a (address_of g n k) && bit_at v (k % 8)) false
      (λ e. written-flag g a v (good-address n m a e).1)
      ∙ ap (λ (b : Bool). (flag_of g n m k && not (eqb (map_answer n m (writes a v)) 0 && (eqb a (address_of g n k) && bit_at v (k % 8)))) || b)
      (and_comm (eqb (map_answer n m (writes a v)) 0) false)
  flag-after g (reads a) = stays (flag_of g n m k)
  flag-after g wires = stays (flag_of g n m k)

-- ---- and after a list of them

-- a call of the list marks it, and none after that one clears it
lasting : Kind → ℕ → ℕ → List ℕ → List MapCall → Bool
lasting g n k m [] = false
lasting g n k m (c ∷ cs) = (marks_it g n k m c && not (cleared_by g n k (map_left n m c) cs)) || lasting g n k (map_left n m c) cs

-- f: it was up, c and d: the first call clears and marks it, e: a later one clears it, r: a later mark lasts
turn : (f c d e r : Bool) → ((((f && not c) || d) && not e) || r) ≡ ((f && not (c || e)) || ((d && not e) || r))
turn false c d e r = refl
turn true true d e r = refl
turn true false d false r = refl
turn true false true true r = refl
turn true false false true r = refl

flag_by : (g : Kind) (n k : ℕ) (m : List ℕ) (cs : List MapCall) → IsMap n m → k < n
    → flag_of g n (map_left_by n m cs) k ≡ ((flag_of g n m k && not (cleared_by g n k m cs)) || lasting g n k m cs)
unfolding lasting
flag_by g n k m [] h l = stays (flag_of g n m k)
flag_by g n k m (c ∷ cs) h l =
    flag_by g n k (map_left n m c) cs (keeps n m c h) l
    ∙ ap (λ (b : Bool). (b && not (cleared_by g n k (map_left n m c) cs)) || lasting g n k (map_left n m c) cs) (flag-after n k m h l g c)
    ∙ turn (flag_of g n m k) (clears_it g n k m c) (marks_it g n k m c) (cleared_by g n k (map_left n m c) cs) (lasting g n k (map_left n m c) cs)

-- ---- which call it was

or-rest : (a b : Bool) → a ≡ false → (a || b) ≡ true → b ≡ true
or-rest true b q r = clash q
or-rest false b q r = r

since : (g : Kind) (n k : ℕ) (m : List ℕ) (cs : List MapCall) → lasting g n k m cs ≡ true → MarkedSince g n k m cs
unfolding lasting
since g n k m [] h = clash (sym h)
since g n k m (c ∷ cs) h =
    by-test (marks_it g n k m c && not (cleared_by g n k (map_left n m c) cs))
    (λ t. record {
      before = [];
      it = c;
      after = cs;
      all = refl;
      marks = and_l (marks_it g n k m c) (not (cleared_by g n k (map_left n m c) cs)) t;
      kept = not-true (cleared_by g n k (map_left n m c) cs) (and_r (marks_it g n k m c) (not (cleared_by g n k (map_left n m c) cs)) t);
    })
    (λ t.
    let s = since g n k (map_left n m c) cs (or-rest (marks_it g n k m c && not (cleared_by g n k (map_left n m c) cs)) (lasting g n k (map_left n m c) cs) t h) in
    record { before = c ∷ s.before; it = s.it; after = s.after; all = ap (λ (r : List MapCall). c ∷ r) s.all; marks = s.marks; kept = s.kept })

or-true : (a : Bool) → (a || true) ≡ true
or-true true = refl
or-true false = refl

lasts : (g : Kind) (n k : ℕ) (m : List ℕ) (before : List MapCall) (it : MapCall) (after : List MapCall) → marks_it g n k (map_left_by n m before) it ≡ true
    → cleared_by g n k (map_left n (map_left_by n m before) it) after ≡ false → lasting g n k m (before ++ it ∷ after) ≡ true
unfolding lasting
lasts g n k m [] it after p q = rw (p, q)
lasts g n k m (c ∷ before) it after p q =
    rw (lasts g n k (map_left n m c) before it after p q) (or-true (marks_it g n k m c && not (cleared_by g n k (map_left n m c) (before ++ it ∷ after))))

fresh-flag : (g : Kind) (n k : ℕ) → flag_of g n (fresh_map n) k ≡ false
fresh-flag rises n k = fresh-rise n k
fresh-flag drops n k = fresh-drop n k

flag_is : (g : Kind) (n k : ℕ) (cs : List MapCall) → k < n → flag_of g n (map_left_by n (fresh_map n) cs) k ≡ lasting g n k (fresh_map n) cs
flag_is g n k cs l =
    flag_by g n k (fresh_map n) cs (fresh-map n) l
    ∙ ap (λ (b : Bool). (b && not (cleared_by g n k (fresh_map n) cs)) || lasting g n k (fresh_map n) cs) (fresh-flag g n k)

pub none-lost : NoneLost
none-lost g n k cs l =
    record {
      to = λ h. since g n k (fresh_map n) cs (sym (flag_is g n k cs l) ∙ h);
      from =
          λ s.
          flag_is g n k cs l
          ∙ ap (lasting g n k (fresh_map n)) s.all
          ∙ lasts g n k (fresh_map n) s.before s.it s.after s.marks s.kept;
    }

-- ---- each call does its step, where the lent gate is not refused

pub refusal_is : {A : Type 0} (r : ℕ) (new old : A) → (unless_refused r new old).0 ≡ r
refusal_is zero new old = refl
refusal_is (suc r) new old = refl

module _ (gu : List ℕ) (gf : List Float) (m : List ℕ) (e : gate_refusal gu gf ≡ 0) where
  pub write_does : (a v : ℕ) → map_write_call gu gf m a v ≡ map_step (get_or gu 0 0) m (writes a v)
  unfolding map_step map_write_call
  write_does a v = rw e

  pub write-answer : map_refusal (get_or gu 0 0) m ≡ 0 → (a v : ℕ) → (map_write_call gu gf m a v).0 ≡ first (not (ltb a (map_long (get_or gu 0 0)))) 15 0
  unfolding map_write_call address_refusal
  write-answer q a v = refusal_is (after_gate gu gf (λ n. address_refusal n m a)) (written (get_or gu 0 0) m a v) m ∙ rw (e, q)

  -- these are lent the map to read only
  pub read-does : (a old : ℕ) → ((map_read_call gu gf m a old).0, m) ≡ map_step (get_or gu 0 0) m (reads a)
  unfolding map_step map_read_call
  read-does a old = ap (λ (q : ℕ). (q, m)) (refusal_is (after_gate gu gf (λ n. address_refusal n m a)) (get_or m a 0) old) ∙ rw e

  pub wire-does : (old : ℕ) → ((map_wire_call gu gf m old).0, m) ≡ map_step (get_or gu 0 0) m wires
  unfolding map_step map_wire_call
  wire-does old = ap (λ (q : ℕ). (q, m)) (refusal_is (after_gate gu gf (λ n. map_refusal n m)) (one (wire (get_or gu 0 0) m)) old) ∙ rw e

-- an update or a hold that is accepted and carries the map, by the marks that it writes
module _ (n : ℕ) (m rise fall : List ℕ) (h : IsMap n m) (p : length rise ≡ n) (q : length fall ≡ n) where
  pub marks-do : (0, marks_set n m rise fall) ≡ map_step n m (marks rise fall)
  unfolding map_step
  marks-do = ap (λ (r : ℕ). unless_refused r (marks_set n m rise fall) m) (good-marks n m (length rise) (length fall) 0 (is-map n m h.long h.sound) refl p q)
