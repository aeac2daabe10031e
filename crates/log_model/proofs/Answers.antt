-- The reader's answer, case by case: from the tests that led there to the answer, and back. Assumes nothing.
use Rattle.std.specs.Prelude.{Some, None, Ok, Err}
use mathlib.Core.Path.{◌≡◌, refl, sym, ap, ◌∙◌}
use mathlib.Core.Bool.{false}
use mathlib.Core.List.{List}
use Prim.Native.Nat.{ℕ, ◌+◌, ◌-◌, ◌*◌, ◌≤◌}
use native.Mathlib.Omega.{arith}
use lib.Dec.{lit<}
use lib.ListN.{length}
use borrow.Author.Tests.{eq-eqb, ne_eqb, le-ltb, ltb-false, not-false}
use Rattle.laws.specs.Lists.{tab}
use Rattle.laws.specs.Tests.{any_below}
use Rattle.laws.specs.Bits.{width}
use Rattle.laws.proofs.Tests.{passed, past, inside, agrees, same_of, within_of, goes_on, neither}
use Rattle.low_first.specs.LowFirst.{low_two}
use Rattle.refusals.specs.Numbers.{number_of}
use Rattle.refusals.specs.declared.Refusal.{Refusal}
use Rattle.refusals.specs.declared.Refusal.TheVariants as R
use Rattle.log_model.specs.Read.{is_set, pair_at, unchanged, header_refusal, start_refusal, hop_refusal, db_after, power_after, read_in, read_hop}

-- no refusal has the number 0
pub some_number : (r : Refusal) → number_of r ≡ 0 → ⊥
some_number R.Band e = omega arith
some_number R.StoreSize e = omega arith
some_number R.Lengths e = omega arith
some_number R.Level e = omega arith
some_number R.HopSize e = omega arith
some_number R.Garbled e = omega arith
some_number R.Channel e = omega arith
some_number R.Mismatch e = omega arith
some_number R.Unsound e = omega arith
some_number R.Cut e = omega arith
some_number R.Damaged e = omega arith
some_number R.Span e = omega arith
some_number R.Unlike e = omega arith
some_number R.Segments e = omega arith
some_number R.Address e = omega arith
some_number R.Right e = omega arith

-- what is known once the checks before a hop have passed
pub record Started (log : List ℕ) (at n dbs powers : ℕ) : Type 0 where
  pub header : 2 ≤ length log
  pub some : 1 ≤ n
  pub most : n ≤ 512
  pub dbs_long : dbs ≡ n
  pub powers_long : powers ≡ n
  pub from : 2 ≤ at
  pub to : at ≤ length log

pub record Headed (log : List ℕ) (n : ℕ) : Type 0 where
  pub long : 2 ≤ length log
  pub least : 1 ≤ n
  pub greatest : n ≤ 512

pub headed : (log : List ℕ) → header_refusal log ≡ 0 → Headed log (low_two log 0)
unfolding header_refusal
headed log h =
    let a = passed _ 10 _ (lit< tt) h in
    let b = passed _ 1 _ (lit< tt) a.1 in
    let n = within_of 1 512 (low_two log 0) (not-false _ b.0) in
    record { long = ltb-false _ _ a.0; least = n.0; greatest = n.1 }

pub heads : (log : List ℕ) (n : ℕ) → low_two log 0 ≡ n → Headed log n → header_refusal log ≡ 0
unfolding header_refusal
heads log n e h =
    sym (past _ 10 _ 0 (le-ltb _ _ h.long) (past _ 1 _ 0 (inside 1 512 (low_two log 0) (omega (arith, h.least)) (omega (arith, h.greatest))) refl))

pub started : (log : List ℕ) (at dbs powers : ℕ) → start_refusal log at dbs powers ≡ 0 → Started log at (low_two log 0) dbs powers
unfolding start_refusal
started log at dbs powers h =
    let a = neither (header_refusal log) _ h in
    let c = passed _ 5 _ (lit< tt) a.1 in
    let d = passed _ 5 _ (lit< tt) c.1 in
    let e = passed _ 10 _ (lit< tt) d.1 in
    let n = headed log a.0 in
    let p = within_of 2 (length log) at (not-false _ e.0) in
    record {
      header = n.long;
      some = n.least;
      most = n.greatest;
      dbs_long = same_of _ _ c.0;
      powers_long = same_of _ _ d.0;
      from = p.0;
      to = p.1;
    }

-- the other way: the checks pass
pub starts : (log : List ℕ) (at n dbs powers : ℕ) → low_two log 0 ≡ n → Started log at n dbs powers → start_refusal log at dbs powers ≡ 0
unfolding start_refusal
starts log at n dbs powers e s =
    sym
    (goes_on (header_refusal log) _ 0 (heads log n e record { long = s.header; least = s.some; greatest = s.most })
    (past _ 5 _ 0 (agrees dbs (low_two log 0) (omega arith))
    (past _ 5 _ 0 (agrees powers (low_two log 0) (omega arith))
    (past _ 10 _ 0 (inside 2 (length log) at s.from s.to) refl))))

-- what is known once the checks within a hop have passed
pub record Whole (log : List ℕ) (at n : ℕ) (db power : List ℕ) : Type 0 where
  pub map_whole : at + width n ≤ length log
  pub none_is_past : any_below (8 * width n - n) (λ i. is_set log at (n + i)) ≡ false
  pub pairs_whole : pair_at log at n n ≤ length log
  pub all_changed : any_below n (unchanged log at n db power) ≡ false

pub whole : (log : List ℕ) (at n : ℕ) (db power : List ℕ) → hop_refusal log at n db power ≡ 0 → Whole log at n db power
unfolding hop_refusal
whole log at n db power h =
    let a = passed _ 10 _ (lit< tt) h in
    let b = passed _ 11 _ (lit< tt) a.1 in
    let c = passed _ 10 _ (lit< tt) b.1 in
    let d = passed _ 11 _ (lit< tt) c.1 in
    record { map_whole = ltb-false _ _ a.0; none_is_past = b.0; pairs_whole = ltb-false _ _ c.0; all_changed = d.0 }

pub passes : (log : List ℕ) (at n : ℕ) (db power : List ℕ) → Whole log at n db power → hop_refusal log at n db power ≡ 0
unfolding hop_refusal
passes log at n db power w =
    sym
    (past _ 10 _ 0 (le-ltb _ _ w.map_whole)
    (past _ 11 _ 0 w.none_is_past
    (past _ 10 _ 0 (le-ltb _ _ w.pairs_whole)
    (past _ 11 _ 0 w.all_changed refl))))

module _ (log : List ℕ) (at : ℕ) (db power : List ℕ) where
  abbrev start : ℕ
  start = start_refusal log at (length db) (length power)

  pub read-refused : (r : ℕ) → r ≡ start → (r ≡ 0 → ⊥) → (Err r, db, power) ≡ read_hop log at db power
  unfolding read_hop
  read-refused r e h = ap (λ (v : ℕ). (Err v, db, power)) e ∙ rw (ne_eqb start 0 (λ z. h (e ∙ z)))

  pub read-end : start ≡ 0 → at ≡ length log → (Ok None, db, power) ≡ read_hop log at db power
  unfolding read_hop
  read-end e h = rw (eq-eqb start 0 e, eq-eqb at (length log) h)

  pub read-in : start ≡ 0 → (at ≡ length log → ⊥) → read_in log at (low_two log 0) db power ≡ read_hop log at db power
  unfolding read_hop
  read-in e h = rw (eq-eqb start 0 e, ne_eqb at (length log) h)

  module _ (n : ℕ) where
    pub in-refused : (r : ℕ) → r ≡ hop_refusal log at n db power → (r ≡ 0 → ⊥) → (Err r, db, power) ≡ read_in log at n db power
    unfolding read_in
    in-refused r e h = ap (λ (v : ℕ). (Err v, db, power)) e ∙ rw (ne_eqb (hop_refusal log at n db power) 0 (λ z. h (e ∙ z)))

    pub in-next : hop_refusal log at n db power ≡ 0
        → (Ok (Some (pair_at log at n n)), tab n (db_after log at n db), tab n (power_after log at n power)) ≡ read_in log at n db power
    unfolding read_in
    in-next e = rw (eq-eqb (hop_refusal log at n db power) 0 e)
