-- Demand 3 with runs in its lists, proved: what is fed to two sets as it has them, with the same arguments, is the same calls to both. Assumes nothing.
use mathlib.Core.Path.{◌≡◌, refl, sym, ap, ap₂, ◌∙◌}
use mathlib.Core.Bool.{Bool, true, false, cond, ◌&&◌, ◌||◌}
use mathlib.Core.List.{List, [], ◌∷◌, ◌++◌, map, append_assoc, map-append}
use Prim.Native.Nat.{ℕ, zero, suc, ◌+◌, ◌*◌, ◌%◌, ◌-◌, ◌<◌, min}
use native.Mathlib.Omega.{arith}
use lib.Dec.{eqb}
use lib.ListN.{length, get_or, take, drop as after, replicate, length-append, length-take, length-drop}
use lib.Ieee.{Float}
use borrow.Author.Tests.{eqb-true, eq-eqb}
use Rattle.laws.specs.Tests.{differ, first}
use Rattle.laws.proofs.Tests.{clash, and_r}
use Rattle.model.specs.Layout.{decimation_hops}
use Rattle.model.specs.Bank.{Hop}
use Rattle.model.specs.Stores.{bank_of}
use Rattle.model.specs.Refusals.{garbled}
use Rattle.model.specs.Gate.{among}
use Rattle.model.specs.GateCalls.{GateHop, or_else, absent, pair_refusal}
use Rattle.model.specs.Demand3.{Call, Arguments, gate, hold, arguments, Stores, answer, answers, left, left_by, bank_hop, bank_hops, gate_hop, gate_hops, bank_updates, gate_updates, loud, first_slow_loud, Making, Lent, made, Made, Enough, Same}
use Rattle.model.specs.Sets.{Sound}
use Rattle.model.proofs.GoodGates.{n-of}
use Rattle.model.proofs.Calls.{Twins, same_answer, same-run}
use Rattle.model.proofs.Demand3.{twins-heard, heard, demand-3}
use Rattle.roles.specs.Rights.{technician, receive, may}
use Rattle.run_model.specs.Runs.{Run, RunHop, hops_from, is_held, bank_call, calls_of, rises_by, garbled_run, not_long, run_refusal}
use Rattle.run_model.specs.Hops.{gate_by}
use Rattle.run_model.specs.Claims.{refusal_on, calls_on, SameArguments, SameRuns}
use Rattle.run_model.specs.Fed.{Fed, single, run, fed_answer, fed_calls, calls_by, RunWith, run_with, FedWith, fed_with, SameCalls, SameFedRuns, SameFed, WithRuns}
use Rattle.run_model.proofs.Claims.{accepted-run}

-- ---- two runs with the same arguments

module _ (n : ℕ) where
  garbled-same : (p : ℕ) (xs : List ℕ) (db power : List Float) (rise drop rise' drop' : List ℕ)
      → garbled_run n p (hops_from n xs db power rise drop) ≡ garbled_run n p (hops_from n xs db power rise' drop')
  garbled-same p [] db power rise drop rise' drop' = refl
  garbled-same p (x ∷ xs) db power rise drop rise' drop' =
      ap (λ (b : Bool). (eqb p 0 && garbled n (take n db)) || b) (garbled-same ((p + 1) % decimation_hops) xs _ _ _ _ _ _)

  taken-same : {A B : Type 0} (l : List A) (m : List B) → length l ≡ length m → length (take n l) ≡ length (take n m)
  taken-same l m e = length-take n l ∙ ap (min n) e ∙ sym (length-take n m)

  rest-same : {A B : Type 0} (l : List A) (m : List B) → length l ≡ length m → length (after n l) ≡ length (after n m)
  rest-same l m e = length-drop n l ∙ ap (λ (i : ℕ). i - n) e ∙ sym (length-drop n m)

  gate_same : (h o : RunHop) (b : Bool) → h.db ≡ o.db → h.power ≡ o.power → length h.rise ≡ length o.rise → length h.drop ≡ length o.drop
      → arguments (gate_by h b) ≡ arguments (gate_by o b)
  gate_same h o true d p e f = λ i. record { role = technician; asked = hold false (e i) (f i) }
  gate_same h o false d p e f = λ i. record { role = technician; asked = gate false (record { db = d i; power = p i }) (e i) (f i) }

  calls_same : (xs : List ℕ) (db power : List Float) (rise drop rise' drop' : List ℕ) → length rise ≡ length rise' → length drop ≡ length drop'
      → map arguments (calls_of (hops_from n xs db power rise drop)) ≡ map arguments (calls_of (hops_from n xs db power rise' drop'))
  calls_same [] db power rise drop rise' drop' e f = refl
  calls_same (x ∷ xs) db power rise drop rise' drop' e f =
      let h : RunHop = record { hold = x; db = take n db; power = take n power; rise = take n rise; drop = take n drop } in
      let o : RunHop = record { hold = x; db = take n db; power = take n power; rise = take n rise'; drop = take n drop' } in
      ap₂ (λ (a : Arguments) (l : List Arguments). arguments (bank_call h) ∷ a ∷ l)
      (gate_same h o (is_held h) refl refl (taken-same rise rise' e) (taken-same drop drop' f))
      (calls_same xs (after n db) (after n power) (after n rise) (after n drop) (after n rise') (after n drop') (rest-same rise rise' e) (rest-same drop drop' f))

  long_same : (r o : Run) → run_with r ≡ run_with o → not_long n r ≡ not_long n o
  long_same r o e =
      λ i. let long = length (e i).hold * n in
      differ (length (e i).db) long || differ (length (e i).power) long || differ (e i).rise long || differ (e i).drop long

-- what refuses a run, by what it hangs on
abbrev refused_by : ℕ → ℕ → ℕ → Run → ℕ
refused_by x n p r =
    or_else x (first (not_long n r) 5 (first (garbled_run n p (hops_from n r.hold r.db r.power r.rise r.drop)) 6 0))

refused-same : (x n p : ℕ) (r o : Run) → run_with r ≡ run_with o → refused_by x n p r ≡ refused_by x n p o
refused-same x n p r o e =
    ap₂ (λ (a b : Bool). or_else x (first a 5 (first b 6 0))) (long_same n r o e)
    ((λ i. garbled_run n p (hops_from n (e i).hold (e i).db (e i).power r.rise r.drop)) ∙ garbled-same n p o.hold o.db o.power _ _ _ _)

-- ---- fed to two sets that refuse the same calls

pair : (s : Stores) → Sound s → pair_refusal s.bu s.bf s.gu s.gf ≡ first (differ (get_or s.bu 0 0) (get_or s.gu 0 0)) 8 0
unfolding pair_refusal
pair s d = rw (d.bank_passes, d.gate_passes)

module _ (s t : Stores) (w : Twins s t) where
  bank_n : get_or s.bu 0 0 ≡ get_or t.bu 0 0
  unfolding bank_of
  bank_n = w.n

  phase : get_or s.bu 1 0 ≡ get_or t.bu 1 0
  unfolding bank_of
  phase = w.phase

  gate_n : get_or s.gu 0 0 ≡ get_or t.gu 0 0
  gate_n = sym (n-of s.gu s.gf) ∙ w.gate_n ∙ n-of t.gu t.gf

  pair_same : pair_refusal s.bu s.bf s.gu s.gf ≡ pair_refusal t.bu t.bf t.gu t.gf
  pair_same = pair s w.one ∙ ap₂ (λ (a b : ℕ). first (differ a b) 8 0) bank_n gate_n ∙ sym (pair t w.other)

  run-refused : (r o : Run) → run_with r ≡ run_with o → refusal_on s r ≡ refusal_on t o
  unfolding run_refusal
  run-refused r o e =
      (λ i. refused_by (pair_same i) (gate_n i) (phase i) r)
      ∙ refused-same (pair_refusal t.bu t.bf t.gu t.gf) (get_or t.gu 0 0) (get_or t.bu 1 0) r o e

  run-calls : (r o : Run) → run_with r ≡ run_with o → map arguments (calls_on s r) ≡ map arguments (calls_on t o)
  run-calls r o e =
      (λ i. map arguments (calls_of (hops_from (gate_n i) (e i).hold (e i).db (e i).power r.rise r.drop)))
      ∙ calls_same (get_or t.gu 0 0) o.hold o.db o.power r.rise r.drop o.rise o.drop
      (ap (λ (x : RunWith). x.rise) e) (ap (λ (x : RunWith). x.drop) e)

asked-same : (b c : Bool) → b ≡ c → (l m : List Call) → map arguments l ≡ map arguments m → map arguments (cond b l []) ≡ map arguments (cond c m [])
asked-same b c e l m f = ap (λ (a : Bool). map arguments (cond a l [])) e ∙ go c
  where
    go : (a : Bool) → map arguments (cond a l []) ≡ map arguments (cond a m [])
    go true = f
    go false = refl

abbrev is_run : FedWith → Bool
is_run (single a) = false
is_run (run role r) = true

fed-same : (s t : Stores) → Twins s t → (x y : Fed) → fed_with x ≡ fed_with y
    → (fed_answer s x ≡ fed_answer t y) × (map arguments (fed_calls s x) ≡ map arguments (fed_calls t y))
fed-same s t w (single c) (single d) e =
    let f : arguments c ≡ arguments d = cc in (same_answer s t w c d f, ap (λ (a : Arguments). a ∷ []) f)
fed-same s t w (single c) (run b o) e = clash (sym (ap is_run e))
fed-same s t w (run a r) (single d) e = clash (ap is_run e)
fed-same s t w (run a r) (run b o) e =
    let role : a ≡ b = cc in
    let f : run_with r ≡ run_with o = cc in
    let no = run-refused s t w r o f in (
      (λ i. cond (may receive (role i)) (no i) 16),
      asked-same _ _ (ap₂ (λ (x y : ℕ). may receive x && eqb y 0) role no) _ _ (run-calls s t w r o f),
    )

lists-same : (fs gs : List Fed) (s t : Stores) → Twins s t → map fed_with fs ≡ map fed_with gs → SameCalls s t fs gs
lists-same [] [] s t w e = record { refusals = refl; alike = refl }
lists-same [] (y ∷ ys) s t w e = absurd (omega (arith, ap length e))
lists-same (x ∷ xs) [] s t w e = absurd (omega (arith, ap length e))
lists-same (x ∷ xs) (y ∷ ys) s t w e =
    let e₀ : fed_with x ≡ fed_with y = cc in
    let e₁ : map fed_with xs ≡ map fed_with ys = cc in
    let f = fed-same s t w x y e₀ in
    let r = lists-same xs ys (left_by s (fed_calls s x)) (left_by t (fed_calls t y)) (same-run (fed_calls s x) (fed_calls t y) s t w f.1).twins e₁ in
    record {
      refusals = λ i. f.0 i ∷ r.refusals i;
      alike = map-append arguments (fed_calls s x) _ ∙ (λ i. f.1 i ++ r.alike i) ∙ sym (map-append arguments (fed_calls t y) _);
    }

-- ---- a list and what comes behind it

left-append : (xs ys : List Call) (s : Stores) → left_by s (xs ++ ys) ≡ left_by (left_by s xs) ys
left-append [] ys s = refl
left-append (x ∷ xs) ys s = left-append xs ys (left s x)

bank-hops-append : (xs ys : List Call) (s : Stores) → bank_hops s (xs ++ ys) ≡ bank_hops s xs ++ bank_hops (left_by s xs) ys
bank-hops-append [] ys s = refl
bank-hops-append (x ∷ xs) ys s =
    let h = bank_hop (answer s x) (arguments x).asked in
    ap (λ (l : List Hop). h ++ l) (bank-hops-append xs ys (left s x)) ∙ sym (append_assoc h (bank_hops (left s x) xs) _)

gate-hops-append : (xs ys : List Call) (s : Stores) → gate_hops s (xs ++ ys) ≡ gate_hops s xs ++ gate_hops (left_by s xs) ys
gate-hops-append [] ys s = refl
gate-hops-append (x ∷ xs) ys s =
    let h = gate_hop (answer s x) (arguments x).asked in
    ap (λ (l : List GateHop). h ++ l) (gate-hops-append xs ys (left s x)) ∙ sym (append_assoc h (gate_hops (left s x) xs) _)

-- a slow hop among the first ones is the first slow hop, whatever comes behind
slow-stays : (n : ℕ) (hs ks : List Hop) (a i : ℕ) → (a + i) % decimation_hops ≡ 0 → i < length hs → first_slow_loud n a (hs ++ ks) ≡ first_slow_loud n a hs
slow-stays n [] ks a i z l = absurd (omega arith)
slow-stays n (h ∷ hs) ks a zero z l = rw (eq-eqb (a % decimation_hops) 0 (omega arith)) refl
slow-stays n (h ∷ hs) ks a (suc i) z l =
    ap (λ (b : Bool). cond (eqb (a % decimation_hops) 0) (loud n h.db) b) (slow-stays n hs ks (suc a) i (omega arith) (omega arith))

enough-more : (n a : ℕ) (s : Stores) (fs cs : List Call) → Enough n a s fs → Enough n a s (fs ++ cs)
enough-more n a s fs cs h =
    let b = bank-hops-append fs cs s in
    let g = gate-hops-append fs cs s in
    record {
      enough_bank_updates = omega (arith, h.enough_bank_updates, ap length b ∙ length-append (bank_hops s fs) _);
      enough_gate_updates = omega (arith, h.enough_gate_updates, ap length g ∙ length-append (gate_hops s fs) _);
      slow_hop =
          ap (first_slow_loud n a) b
          ∙ slow-stays n (bank_hops s fs) _ a ((14 * a) % decimation_hops) (omega arith) (omega (arith, h.enough_bank_updates))
          ∙ h.slow_hop;
    }

-- ---- demand 3

-- each after a list of its own
twins : (k : Making) (p q : Lent) → Made k p → Made k q → (x y : List Call)
    → bank_updates (made k p) x % decimation_hops ≡ bank_updates (made k q) y % decimation_hops → Twins (left_by (made k p) x) (left_by (made k q) y)
twins k p q mp mq x y eb =
    twins-heard k (left_by (made k p) x) (left_by (made k q) y) (bank_hops (made k p) x) (bank_hops (made k q) y) (gate_hops (made k p) x) (gate_hops (made k q) y)
    (heard k p mp x) (heard k q mq y) eb

-- two runs with the same arguments, by what each is fed with
same-with : (r o : Run) → SameArguments r o → run_with r ≡ run_with o
same-with r o e = λ i. record { hold = e.hold i; db = e.db i; power = e.power i; rise = e.rise i; drop = e.drop i }

pub same_runs : SameRuns
same_runs k p q mp mq xs ys eb role r o e =
    let s = left_by (made k p) xs in
    let t = left_by (made k q) ys in
    let w = twins k p q mp mq xs ys eb in
    let f = same-with r o e in
    let no = run-refused s t w r o f in
    (no, asked-same _ _ (ap (λ (y : ℕ). may receive role && eqb y 0) no) _ _ (run-calls s t w r o f))

pub same-fed-runs : SameFedRuns
same-fed-runs k p q mp mq xs ys eb fs gs e = lists-same fs gs (left_by (made k p) xs) (left_by (made k q) ys) (twins k p q mp mq xs ys eb) e

module _ (k : Making) (p q : Lent) (mp : Made k p) (mq : Made k q) (x y : List Call)
    (eb : bank_updates (made k p) x % decimation_hops ≡ bank_updates (made k q) y % decimation_hops)
    (eg : (m : ℕ) → among m k.lengths ≡ true → gate_updates (made k p) x % (2 * m) ≡ gate_updates (made k q) y % (2 * m))
  where
    abbrev s : Stores
    s = left_by (made k p) x

    abbrev t : Stores
    t = left_by (made k q) y

    abbrev a : ℕ
    a = bank_updates (made k p) x

    asked : (fs gs : List Call) → map arguments fs ≡ map arguments gs → Same k a s t fs gs
    asked = demand-3 k p q mp mq x y eb eg

    -- the rises of calls of which none is refused, behind a list that is long enough
    rises-on : (cs ds fs gs : List Call) (m : ℕ) → map arguments fs ≡ map arguments gs → map arguments cs ≡ map arguments ds → Enough k.n a s fs
        → absent k.early ≡ true → answers (left_by s fs) cs ≡ replicate m 0 → rises_by (left_by s fs) cs ≡ rises_by (left_by t gs) ds
    rises-on [] [] fs gs m e f h z n = refl
    rises-on [] (d ∷ ds) fs gs m e f h z n = absurd (omega (arith, ap length f))
    rises-on (c ∷ cs) [] fs gs m e f h z n = absurd (omega (arith, ap length f))
    rises-on (c ∷ cs) (d ∷ ds) fs gs zero e f h z n = absurd (omega (arith, ap length n))
    rises-on (c ∷ cs) (d ∷ ds) fs gs (suc m) e f h z n =
        let f₀ : arguments c ≡ arguments d = cc in
        let f₁ : map arguments cs ≡ map arguments ds = cc in
        let n₀ : answer (left_by s fs) c ≡ 0 = cc in
        let n₁ : answers (left (left_by s fs) c) cs ≡ replicate m 0 = cc in
        let l = left-append fs (c ∷ []) s in
        let r = left-append gs (d ∷ []) t in
        let more = map-append arguments fs (c ∷ []) ∙ (λ i. e i ++ (f₀ i ∷ [])) ∙ sym (map-append arguments gs (d ∷ [])) in
        let rest = rises-on cs ds (fs ++ (c ∷ [])) (gs ++ (d ∷ [])) m more f₁ (enough-more k.n a s fs (c ∷ []) h) z (ap (λ (u : Stores). answers u cs) l ∙ n₁) in
        ap₂ (λ (a b : List ℕ). a ++ b) ((asked fs gs e).rises h z c d f₀ n₀)
        (ap (λ (u : Stores). rises_by u cs) (sym l) ∙ rest ∙ ap (λ (u : Stores). rises_by u ds) r)

    fed : (fs gs : List Fed) → map fed_with fs ≡ map fed_with gs → SameFed k a s t fs gs
    fed fs gs e =
        let w = twins k p q mp mq x y eb in
        let c = (lists-same fs gs s t w e).alike in
        let u = left_by s (calls_by s fs) in
        let v = left_by t (calls_by t gs) in
        record {
          same = asked (calls_by s fs) (calls_by t gs) c;
          rises =
              λ h z role r o f heard.
              rises-on (calls_on u r) (calls_on v o) (calls_by s fs) (calls_by t gs) (length r.hold + length r.hold) c
              (run-calls u v (same-run (calls_by s fs) (calls_by t gs) s t w c).twins r o f) h z
              (accepted-run u r (eqb-true _ _ (and_r (may receive role) (eqb (refusal_on u r) 0) heard))).none_refused;
        }

pub with-runs : WithRuns
with-runs k p q mp mq xs ys eb eg = fed k p q mp mq (calls_by (made k p) xs) (calls_by (made k q) ys) eb eg
