-- What an answer of the reader tells. Assumes nothing.
use Rattle.std.specs.Prelude.{Some, None, Ok}
use mathlib.Core.Path.{◌≡◌, refl, sym, ap, ◌∙◌}
use mathlib.Core.List.{List}
use Prim.Native.Nat.{ℕ}
use native.Mathlib.Omega.{arith}
use lib.Dec.{eqb}
use lib.ListN.{length}
use borrow.Author.Tests.{eqb-true, eqb-false}
use Rattle.laws.specs.Lists.{tab}
use Rattle.laws.proofs.Tabs.{length-tab}
use Rattle.laws.proofs.Tests.{by-test}
use Rattle.low_first.specs.LowFirst.{low_two}
use Rattle.refusals.specs.Readings.{some_or}
use Rattle.log_model.specs.Read.{pair_at, start_refusal, hop_refusal, db_after, power_after, read_in, read_hop}
use Rattle.log_model.specs.Whole.{Reading, Accepted}
use Rattle.log_model.proofs.Answers.{started, starts, whole, read-refused, read-end, read-in, in-refused, in-next}

-- a hop was read: the checks passed, and what it left
pub record Read (log : List ℕ) (at : ℕ) (db power : List ℕ) (next : ℕ) (d p : List ℕ) : Type 0 where
  pub start_ok : start_refusal log at (length db) (length power) ≡ 0
  pub hop_ok : hop_refusal log at (low_two log 0) db power ≡ 0
  pub next_is : next ≡ pair_at log at (low_two log 0) (low_two log 0)
  pub d_is : d ≡ tab (low_two log 0) (db_after log at (low_two log 0) db)
  pub p_is : p ≡ tab (low_two log 0) (power_after log at (low_two log 0) power)

-- readings with different answers are not equal
pub other : {A : Type 0} (a b : Reading) → a ≡ b → (a.0 ≡ b.0 → ⊥) → A
other a b e h = absurd (h (ap (λ (r : Reading). r.0) e))

module _ (log : List ℕ) (at : ℕ) (db power : List ℕ) where
  abbrev n : ℕ
  n = low_two log 0

  abbrev start : ℕ
  start = start_refusal log at (length db) (length power)

  pub read-tells : (next : ℕ) (d p : List ℕ) → read_hop log at db power ≡ (Ok (Some next), d, p) → Read log at db power next d p
  read-tells next d p e =
      by-test (eqb start 0)
      (λ s.
      let s0 : start ≡ 0 = eqb-true start 0 s in
      by-test (eqb at (length log))
      (λ t. other _ _ (read-end log at db power s0 (eqb-true at (length log) t) ∙ e) (λ q. cc))
      (λ t.
      let in-hop : read_in log at n db power ≡ (Ok (Some next), d, p) = read-in log at db power s0 (eqb-false at (length log) t) ∙ e in
      by-test (eqb (hop_refusal log at n db power) 0)
      (λ u.
      let u0 : hop_refusal log at n db power ≡ 0 = eqb-true _ 0 u in
      let all : (Ok (Some (pair_at log at n n)), tab n (db_after log at n db), tab n (power_after log at n power)) ≡ (Ok (Some next), d, p) = in-next log at db power n u0 ∙ in-hop in
      record {
        start_ok = s0;
        hop_ok = u0;
        next_is = sym (ap (λ (r : Reading). some_or 0 r.0) all);
        d_is = sym (ap (λ (r : Reading). r.1) all);
        p_is = sym (ap (λ (r : Reading). r.2) all);
      })
      (λ u. other _ _ (in-refused log at db power n (hop_refusal log at n db power) refl (eqb-false _ 0 u) ∙ in-hop) (λ q. cc))))
      (λ s. other _ _ (read-refused log at db power start refl (eqb-false start 0 s) ∙ e) (λ q. cc))

  pub end-tells : (d p : List ℕ) → read_hop log at db power ≡ (Ok None, d, p) → (start ≡ 0) × (at ≡ length log)
  end-tells d p e =
      by-test (eqb start 0)
      (λ s.
      let s0 : start ≡ 0 = eqb-true start 0 s in
      by-test (eqb at (length log))
      (λ t. (s0, eqb-true at (length log) t))
      (λ t.
      let in-hop : read_in log at n db power ≡ (Ok None, d, p) = read-in log at db power s0 (eqb-false at (length log) t) ∙ e in
      by-test (eqb (hop_refusal log at n db power) 0)
      (λ u. other _ _ (in-next log at db power n (eqb-true _ 0 u) ∙ in-hop) (λ q. cc))
      (λ u. other _ _ (in-refused log at db power n (hop_refusal log at n db power) refl (eqb-false _ 0 u) ∙ in-hop) (λ q. cc))))
      (λ s. other _ _ (read-refused log at db power start refl (eqb-false start 0 s) ∙ e) (λ q. cc))

-- a position that the reader hands out is accepted
pub accepted : Accepted
unfolding pair_at
accepted log at db power next d p e =
    let r = read-tells log at db power next d p e in
    let s = started log at (length db) (length power) r.start_ok in
    let w = whole log at (low_two log 0) db power r.hop_ok in
    starts log next (low_two log 0) (length d) (length p) refl
    record {
      header = s.header;
      some = s.some;
      most = s.most;
      dbs_long = ap length r.d_is ∙ length-tab (low_two log 0) _;
      powers_long = ap length r.p_is ∙ length-tab (low_two log 0) _;
      from = omega (arith, s.from, r.next_is);
      to = omega (arith, w.pairs_whole, r.next_is);
    }
