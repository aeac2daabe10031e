-- What a reading hands out: whole hops of bit patterns that fit, so the writer takes them. Assumes nothing.
use Rattle.std.specs.Prelude.{Some, None, Ok, Err}
use mathlib.Core.Path.{◌≡◌, refl, sym, ap, subst, ◌∙◌}
use mathlib.Core.Bool.{Bool, true, false, cond}
use mathlib.Core.List.{List, [], ◌++◌}
use Prim.Native.Nat.{ℕ, zero, suc, ◌+◌, ◌-◌, ◌*◌, ◌%◌, ◌^◌, ◌<◌, ◌≤◌}
use native.Mathlib.Nat.{mul-zero, mul-suc, mul-mod_right}
use native.Mathlib.Omega.{arith}
use lib.Dec.{ltb}
use lib.ListN.{length, get_or, length-append, get_or-append}
use lib.Seq.{get_or-append-add}
use borrow.Author.Tests.{ltb-true, ltb-false}
use Rattle.laws.specs.Lists.{tab}
use Rattle.laws.proofs.Tabs.{length-tab, get_d-tab}
use Rattle.laws.proofs.Tests.{by-test}
use Rattle.low_first.specs.LowFirst.{low_two, low_four, low_eight}
use Rattle.log_model.specs.Format.{log_of}
use Rattle.log_model.specs.Read.{is_set, pair_at, db_after, power_after, read_hop}
use Rattle.log_model.specs.Whole.{Reading, onward, read_on, read_log, Below, Hops}
use Rattle.log_model.proofs.Answers.{Started, started}
use Rattle.log_model.proofs.Inverse.{Read, read-tells, end-tells}
use Rattle.log_model.proofs.NoOther.{all_small, no_other}
use Rattle.combine_model.specs.Combined.{db_of, power_of}

pub below-append : (b : ℕ) (l m : List ℕ) → Below b l → Below b m → Below b (l ++ m)
below-append b l m f g i h =
    by-test (ltb i (length l))
    (λ t. subst (λ (x : ℕ). x < b) (sym (get_or-append l m 0 i (ltb-true i (length l) t))) (f i (ltb-true i (length l) t)))
    (λ t.
    let e : length l ≤ i = ltb-false i (length l) t in
    let z : i ≡ length l + (i - length l) = omega arith in
    subst (λ (x : ℕ). x < b) (sym (ap (λ (j : ℕ). get_or (l ++ m) j 0) z ∙ get_or-append-add l m (i - length l) 0))
    (g (i - length l) (omega (arith, length-append l m))))

pub below-tab : (b n : ℕ) (f : ℕ → ℕ) → ((k : ℕ) → k < n → f k < b) → Below b (tab n f)
below-tab b n f h i l =
    let m : i < n = omega (arith, length-tab n f) in
    subst (λ (x : ℕ). x < b) (sym (get_d-tab n f i 0 m)) (h i m)

-- one of two that are both below b
pub below-cond : (b : ℕ) (t : Bool) (x y : ℕ) → x < b → y < b → cond t x y < b
below-cond b true x y f g = f
below-cond b false x y f g = g

module _ (log : List ℕ) (small : (i : ℕ) → get_or log i 0 < 256) where
  four-small : (a : ℕ) → low_four log a < 2 ^ 32
  unfolding low_four
  four-small a = omega (arith, small a, small (a + 1), small (a + 2), small (a + 3))

  eight-small : (a : ℕ) → low_eight log a < 2 ^ 64
  unfolding low_eight
  eight-small a = omega (arith, four-small a, small (a + 4), small (a + 5), small (a + 6), small (a + 7))

-- whole hops, whose bit patterns fit
pub record Taken (n : ℕ) (ds ps : List ℕ) : Type 0 where
  pub hops : ℕ
  pub long : length ds ≡ n * hops
  pub long_p : length ps ≡ n * hops
  pub dbs : Below (2 ^ 64) ds
  pub powers : Below (2 ^ 32) ps

nothing : (b : ℕ) → Below b []
nothing b i h = absurd (omega arith)

none : (n : ℕ) → Taken n [] []
none n = record { hops = 0; long = sym (mul-zero n); long_p = sym (mul-zero n); dbs = nothing _; powers = nothing _ }

module _ (log : List ℕ) (small : (i : ℕ) → get_or log i 0 < 256) where
  abbrev n : ℕ
  n = low_two log 0

  -- a hop in front
  one_more : (at : ℕ) (db power : List ℕ) (next : ℕ) (d p ds ps : List ℕ) → Read log at db power next d p → Below (2 ^ 64) d → Below (2 ^ 32) p
      → Taken n ds ps → Taken n (d ++ ds) (p ++ ps)
  one_more at db power next d p ds ps r bd bp t =
      record {
        hops = suc t.hops;
        long = length-append d ds ∙ omega (arith, ap length r.d_is, length-tab n (db_after log at n db), t.long, mul-suc n t.hops);
        long_p = length-append p ps ∙ omega (arith, ap length r.p_is, length-tab n (power_after log at n power), t.long_p, mul-suc n t.hops);
        dbs = below-append (2 ^ 64) d ds bd t.dbs;
        powers = below-append (2 ^ 32) p ps bp t.powers;
      }

  dbs-fit : (at : ℕ) (db power : List ℕ) (next : ℕ) (d p : List ℕ) → Read log at db power next d p → Below (2 ^ 64) db → Below (2 ^ 64) d
  dbs-fit at db power next d p r b =
      let s = started log at (length db) (length power) r.start_ok in
      subst (Below (2 ^ 64)) (sym r.d_is)
      (below-tab (2 ^ 64) n (db_after log at n db) (λ k h. below-cond (2 ^ 64) (is_set log at k) (low_eight log (pair_at log at n k)) (get_or db k 0) (eight-small log small (pair_at log at n k)) (b k (omega (arith, s.dbs_long)))))

  powers-fit : (at : ℕ) (db power : List ℕ) (next : ℕ) (d p : List ℕ) → Read log at db power next d p → Below (2 ^ 32) power → Below (2 ^ 32) p
  powers-fit at db power next d p r b =
      let s = started log at (length db) (length power) r.start_ok in
      subst (Below (2 ^ 32)) (sym r.p_is)
      (below-tab (2 ^ 32) n (power_after log at n power) (λ k h. below-cond (2 ^ 32) (is_set log at k) (low_four log (pair_at log at n k + 8)) (get_or power k 0) (four-small log small (pair_at log at n k + 8)) (b k (omega (arith, s.powers_long)))))

  pub taken-on : (m at : ℕ) (db power : List ℕ) → Below (2 ^ 64) db → Below (2 ^ 32) power → Taken n (read_on m log at db power).1 (read_on m log at db power).2
  unfolding read_on
  taken-on zero at db power b c = none n
  taken-on (suc m) at db power b c = go (λ next d p. taken-on m next d p) (read_hop log at db power) refl
    where
      go : ((next : ℕ) (d p : List ℕ) → Below (2 ^ 64) d → Below (2 ^ 32) p → Taken n (read_on m log next d p).1 (read_on m log next d p).2)
          → (r : Reading) → read_hop log at db power ≡ r → Taken n (onward r (read_on m log)).1 (onward r (read_on m log)).2
      go more (Ok (Some next), d, p) e =
          let r = read-tells log at db power next d p e in
          let bd = dbs-fit at db power next d p r b in
          let bp = powers-fit at db power next d p r c in
          one_more at db power next d p (read_on m log next d p).1 (read_on m log next d p).2 r bd bp (more next d p bd bp)
      go more (Ok None, d, p) e = none n
      go more (Err x, d, p) e = none n

zeros-fit : (b n : ℕ) → 0 < b → Below b (tab n (λ _. 0))
zeros-fit b n h = below-tab b n (λ _. 0) (λ _ _. h)

pub taken : (log : List ℕ) → Below 256 log → Taken (low_two log 0) (db_of log) (power_of log)
taken log bound = taken-on log (all_small log bound) (suc (length log)) 2 _ _ (zeros-fit (2 ^ 64) (low_two log 0) (omega arith)) (zeros-fit (2 ^ 32) (low_two log 0) (omega arith))

-- a reading that did not end with a refusal began well
pub began : (log : List ℕ) → (read_log log).0 ≡ Ok None → Started log 2 (low_two log 0) (low_two log 0) (low_two log 0)
unfolding read_on
began log e = subst (λ (m : ℕ). Started log 2 n m m) (length-tab n (λ _. 0)) (go (read_hop log 2 zs zs) refl e)
  where
    n : ℕ
    n = low_two log 0

    zs : List ℕ
    zs = tab n (λ _. 0)

    go : (r : Reading) → read_hop log 2 zs zs ≡ r → (onward r (read_on (length log) log)).0 ≡ Ok None → Started log 2 n (length zs) (length zs)
    go (Ok (Some next), d, p) f g = started log 2 (length zs) (length zs) (read-tells log 2 zs zs next d p f).start_ok
    go (Ok None, d, p) f g = started log 2 (length zs) (length zs) (end-tells log 2 zs zs d p f).0
    go (Err x, d, p) f g = cc

-- what a log that reads to its end holds is what the writer takes, and it is the writer's log
pub hops-of : (log : List ℕ) → Below 256 log → (read_log log).0 ≡ Ok None → Hops (low_two log 0) (db_of log) (power_of log)
hops-of log bound e =
    let t = taken log bound in
    let s = began log e in
    record {
      some = s.some;
      most = s.most;
      alike = t.long_p ∙ sym t.long;
      whole = ap (λ (l : ℕ). l % low_two log 0) t.long ∙ mul-mod_right (low_two log 0) t.hops;
      dbs = t.dbs;
      powers = t.powers;
    }

pub log_is : (log : List ℕ) → Below 256 log → (read_log log).0 ≡ Ok None → log ≡ log_of (low_two log 0) (db_of log) (power_of log)
log_is log bound e = no_other log (db_of log) (power_of log) bound (λ i. (e i, db_of log, power_of log))
