-- A log read from its first hop on, hop by hop: what is known after some hops, and what an answer then tells. Assumes nothing.
use Rattle.std.specs.Prelude.{Option, Some, None, Result, Ok, Err}
use mathlib.Core.Path.{◌≡◌, refl, sym, ap, ap₂, ◌∙◌}
use mathlib.Core.Bool.{true, false}
use mathlib.Core.List.{List, ◌∷◌}
use Rattle.std.specs.Result.{is_ok}
use Prim.Native.Nat.{ℕ, zero, suc, ◌+◌, ◌-◌, ◌*◌, ◌/◌, ◌<◌, ◌≤◌}
use native.Mathlib.Nat.{mul-zero, mul-suc, mul-div_right}
use native.Mathlib.Numerals.{add-one}
use native.Mathlib.Omega.{arith}
use lib.ListN.{length, length-append, take, replicate}
use Rattle.laws.specs.Lists.{tab, tab_from}
use Rattle.laws.proofs.Tabs.{length-tab}
use Rattle.low_first.specs.LowFirst.{low_two}
use Rattle.refusals.specs.Numbers.{answer}
use Rattle.refusals.specs.declared.Refusal.{Refusal}
use Rattle.log_model.specs.Read.{pair_at, db_after, read_hop, start_refusal}
use Rattle.log_model.specs.Whole.{Reading, onward, read_on, read_log}
use Rattle.log_model.proofs.Answers.{some_number, started, whole, read-refused}
use Rattle.log_model.proofs.Inverse.{read-tells, end-tells}
use Rattle.combine_model.specs.Combined.{counted, hop_count, db_of, power_of}

-- so many hops were read and the slices hold the last; what is read from `at` on is the rest
pub record Counting (log db power : List ℕ) (at hops : ℕ) : Type 0 where
  pub more : ℕ
  pub enough : length log ≤ more + at
  pub few : hops + 2 ≤ at
  pub answer : (read_log log).0 ≡ (read_on (suc more) log at db power).0
  pub long : length (db_of log) ≡ low_two log 0 * hops + length (read_on (suc more) log at db power).1

pub begins : (log db power : List ℕ) → db ≡ tab (low_two log 0) (λ _. 0) → power ≡ tab (low_two log 0) (λ _. 0) → Counting log db power 2 0
begins log db power e f =
    let z : read_log log ≡ read_on (suc (length log)) log 2 db power = ap₂ (λ (d p : List ℕ). read_on (suc (length log)) log 2 d p) (sym e) (sym f) in
    record {
      more = length log;
      enough = omega arith;
      few = omega arith;
      answer = ap (λ (r : Reading). r.0) z;
      long = omega (arith, ap (λ (r : Reading). length r.1) z, mul-zero (low_two log 0));
    }

-- what the reader said, and which answer it was
pub told : (a b : Result (Option ℕ) ℕ) (d p : List ℕ) (x : Reading) → ◌≡◌ {A = Reading} (a, d, p) x → a ≡ b → ◌≡◌ {A = Reading} x (b, d, p)
told a b d p x e f = sym e ∙ ap (λ (y : Result (Option ℕ) ℕ). (y, d, p)) f

-- a hop that was read takes a byte, and lies in the log
pub onto : (log : List ℕ) (at : ℕ) (db power : List ℕ) (next : ℕ) (d p : List ℕ) → read_hop log at db power ≡ (Ok (Some next), d, p) → (at < next) × (next ≤ length log)
unfolding pair_at
onto log at db power next d p e =
    let r = read-tells log at db power next d p e in
    let s = started log at (length db) (length power) r.start_ok in
    let w = whole log at (low_two log 0) db power r.hop_ok in
    (omega (arith, r.next_is, s.some), omega (arith, r.next_is, w.pairs_whole))

module _ (log db power : List ℕ) (at hops : ℕ) (c : Counting log db power at hops) where
  -- the rest, once this answer is known
  rest-is : (r : Reading) → read_hop log at db power ≡ r → read_on (suc c.more) log at db power ≡ onward r (read_on c.more log)
  unfolding read_on
  rest-is r e = ap (λ (x : Reading). onward x (read_on c.more log)) e

  pub next-counts : (next : ℕ) (d p : List ℕ) → read_hop log at db power ≡ (Ok (Some next), d, p) → Counting log d p next (hops + 1)
  next-counts next d p e =
      let o = onto log at db power next d p e in
      let r = read-tells log at db power next d p e in
      let z = rest-is (Ok (Some next), d, p) e in
      let n : ℕ = low_two log 0 in
      let m : ℕ = c.more - 1 in
      let y : c.more ≡ suc m = omega (arith, c.enough, o.0, o.1) in
      let same : read_on c.more log next d p ≡ read_on (suc m) log next d p = ap (λ (k : ℕ). read_on k log next d p) y in
      record {
        more = m;
        enough = omega (arith, c.enough, o.0);
        few = omega (arith, c.few, o.0);
        answer = c.answer ∙ ap (λ (x : Reading). x.0) z ∙ ap (λ (x : Reading). x.0) same;
        long =
            omega (
              arith,
              c.long,
              ap (λ (x : Reading). length x.1) z,
              length-append d (read_on c.more log next d p).1,
              ap length r.d_is,
              length-tab n (db_after log at n db),
              ap (λ (x : Reading). length x.1) same,
              ap (λ (k : ℕ). n * k) (add-one hops),
              mul-suc n hops,
            );
      }

  pub end-counts : (d p : List ℕ) → read_hop log at db power ≡ (Ok None, d, p) → Ok hops ≡ hop_count log
  unfolding hop_count
  end-counts d p e =
      let z = rest-is (Ok None, d, p) e in
      let n : ℕ = low_two log 0 in
      let s = started log at (length db) (length power) (end-tells log at db power d p e).0 in
      let l : length (db_of log) ≡ n * hops = omega (arith, c.long, ap (λ (x : Reading). length x.1) z) in
      sym
      (ap (λ (a : Result (Option ℕ) ℕ). counted n (a, db_of log, power_of log)) (c.answer ∙ ap (λ (x : Reading). x.0) z)
      ∙ ap Ok (ap (λ (k : ℕ). k / n) l ∙ mul-div_right hops s.some))

  pub refused-counts : (r : ℕ) (d p : List ℕ) → read_hop log at db power ≡ (Err r, d, p) → Err r ≡ hop_count log
  unfolding hop_count
  refused-counts r d p e =
      let z = rest-is (Err r, d, p) e in
      sym (ap (λ (a : Result (Option ℕ) ℕ). counted (low_two log 0) (a, db_of log, power_of log)) (c.answer ∙ ap (λ (x : Reading). x.0) z))

-- a log that is refused before its first hop
pub header-counts : (log : List ℕ) (r : ℕ) → r ≡ start_refusal log 2 (low_two log 0) (low_two log 0) → (r ≡ 0 → ⊥) → Err r ≡ hop_count log
header-counts log r e h =
    let n : ℕ = low_two log 0 in
    let zs : List ℕ = tab n (λ _. 0) in
    let f : r ≡ start_refusal log 2 (length zs) (length zs) = e ∙ ap (λ (k : ℕ). start_refusal log 2 k k) (sym (length-tab n (λ _. 0))) in
    refused-counts log zs zs 2 0 (begins log zs zs refl refl) r zs zs (sym (read-refused log 2 zs zs r f h))

-- a header that passes with n as the code has it tells how much of an array a pass needs
pub few : (log : List ℕ) (n r : ℕ) → n ≡ low_two log 0 → r ≡ start_refusal log 2 n n → r ≡ 0 → n ≤ 512
few log n r i e z =
    omega (arith, i, (started log 2 (low_two log 0) (low_two log 0) (ap (λ (k : ℕ). start_refusal log 2 k k) (sym i) ∙ sym e ∙ z)).most)

-- the front of an array of zeros
pub take-zeros : (n m k : ℕ) → n ≤ m → n ≡ k → take {A = ℕ} n (replicate m 0) ≡ tab k (λ _. 0)
take-zeros n m k h e = from 0 n m h ∙ ap (λ (i : ℕ). tab i (λ _. 0)) e
  where
    from : (i n m : ℕ) → n ≤ m → take {A = ℕ} n (replicate m 0) ≡ tab_from i n (λ _. 0)
    from i zero m h = refl
    from i (suc n) zero h = absurd (omega arith)
    from i (suc n) (suc m) h = ap (λ (r : List ℕ). 0 ∷ r) (from (suc i) n m (omega arith))

pub zeros-long : (n m : ℕ) → n ≤ m → n ≡ length (take {A = ℕ} n (replicate m 0))
zeros-long n m h = sym (ap length (take-zeros n m n h refl) ∙ length-tab n (λ _. 0))

-- whether a call refused
pub refused : (r : Result (Unit {0}) Refusal) → false ≡ is_ok r → answer r ≡ 0 → ⊥
refused (Ok u) e h = cc
refused (Err x) e h = some_number x h

pub passed : (r : Result (Unit {0}) Refusal) → true ≡ is_ok r → answer r ≡ 0
passed (Ok u) e = refl
passed (Err x) e = cc
