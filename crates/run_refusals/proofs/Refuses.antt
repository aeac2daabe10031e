-- The refusals of a run by its number of hops, its dB and its lengths are those of the run. Assumes nothing.
use mathlib.Core.Path.{◌≡◌, refl, sym, ap, ◌∙◌}
use mathlib.Core.Bool.{Bool, true, false, not, ◌&&◌, ◌||◌}
use mathlib.Core.List.{List, [], ◌∷◌, ◌++◌}
use Prim.Native.Nat.{ℕ, suc, ◌+◌, ◌*◌, ◌/◌, ◌%◌, ◌<◌, ◌≤◌}
use native.Mathlib.Nat.{add-zero, suc-mul, mul_comm, mul-mod_right, mul-div_cancel, div-add-mod', add-div_left, div-eq_of_lt}
use native.Mathlib.Omega.{arith}
use lib.Dec.{eqb}
use lib.ListN.{length, get_or, take, drop as after, length-append}
use lib.Ieee.{Float}
use lib.Seq.{take_at, drop_at}
use borrow.Author.Tests.{eqb-true, eq-eqb, ne_eqb}
use Rattle.laws.proofs.Lists.{row}
use Rattle.laws.proofs.Tests.{both_ways, same_of, or_l}
use Rattle.laws.specs.Tests.{differ, first}
use Rattle.model.specs.Layout.{decimation_hops}
use Rattle.model.specs.Refusals.{garbled}
use Rattle.model.specs.GateCalls.{or_else, pair_refusal}
use Rattle.model.specs.Stores.{bank_of}
use Rattle.model.proofs.GoodBanks.{ready}
use Rattle.model.proofs.GoodGates.{gate-ready, n-of}
use Rattle.stores.proofs.Banks.{at_least_three}
use Rattle.run_model.specs.Runs.{Run, hops_from, garbled_run, not_long, run_refusal, alone}
use Rattle.run_model.proofs.Taken.{fit_of}
use Rattle.run_refusals.specs.Checks.{not_long_by, garbled_db, run_refusal_by}

garbled-by : (n p : ℕ) (hold : List ℕ) (db power : List Float) (rise drop : List ℕ)
    → garbled_db n p (length hold) db ≡ garbled_run n p (hops_from n hold db power rise drop)
garbled-by n p [] db power rise drop = refl
garbled-by n p (x ∷ xs) db power rise drop =
    ap (λ (b : Bool). (eqb p 0 && garbled n (take n db)) || b) (garbled-by n ((p + 1) % decimation_hops) xs (after n db) (after n power) (after n rise) (after n drop))

pub refusal-by : (bu : List ℕ) (bf : List Float) (gu : List ℕ) (gf : List Float) (r : Run)
    → run_refusal_by bu bf gu gf (length r.hold) r.db (length r.power) (length r.rise) (length r.drop) ≡ run_refusal bu bf gu gf r
unfolding run_refusal_by run_refusal
refusal-by bu bf gu gf r =
    let n = get_or gu 0 0 in
    ap (λ (b : Bool). or_else (pair_refusal bu bf gu gf) (first (not_long n r) 5 (first b 6 0)))
    (garbled-by n (get_or bu 1 0) r.hold r.db r.power r.rise r.drop)

-- ---- lengths, divided

pub not_whole : (len hops n : ℕ) → (len % n ≡ 0 → ⊥) → false ≡ eqb len (hops * n)
not_whole len hops n w = sym (ne_eqb len (hops * n) (λ e. w (ap (λ (x : ℕ). x % n) (e ∙ mul_comm hops n) ∙ mul-mod_right n hops)))

pub whole : (len hops n : ℕ) → 0 < n → len % n ≡ 0 → eqb (len / n) hops ≡ eqb len (hops * n)
whole len hops n p z =
    both_ways (eqb (len / n) hops) (eqb len (hops * n))
    (λ t. eq-eqb len (hops * n) (sym (div-add-mod' len n) ∙ rw (z, eqb-true (len / n) hops t) (add-zero (hops * n))))
    (λ t. eq-eqb (len / n) hops (ap (λ (x : ℕ). x / n) (eqb-true len (hops * n) t) ∙ mul-div_cancel hops p))

-- where all are, the dB are
pub db_long : (n hops db power rise fall : ℕ) → not_long_by n hops db power rise fall ≡ false → db ≡ hops * n
db_long n hops db power rise fall e =
    let L = hops * n in
    same_of db L (or_l (differ db L) (differ power L) (or_l (differ db L || differ power L) (differ rise L) (or_l (differ db L || differ power L || differ rise L) (differ fall L) e)))

-- the first slice that has another length than the dB, which are as long as the run
module _ (n hops db power rise fall : ℕ) where
  abbrev L : ℕ
  L = hops * n

  module _ (d : eqb db L ≡ true) where
    same : (x : ℕ) → eqb x db ≡ eqb x L
    same x = ap (eqb x) (eqb-true db L d)

    pub power-not : (power ≡ db → ⊥) → true ≡ not_long_by n hops db power rise fall
    power-not w = rw (d, ← same power, ne_eqb power db w)

    pub rise-not : power ≡ db → (rise ≡ db → ⊥) → true ≡ not_long_by n hops db power rise fall
    rise-not p w = rw (d, ← same power, eq-eqb power db p, ← same rise, ne_eqb rise db w)

    pub fall-decides : power ≡ db → rise ≡ db → not (eqb fall db) ≡ not_long_by n hops db power rise fall
    fall-decides p r = rw (d, ← same power, eq-eqb power db p, ← same rise, eq-eqb rise db r, ← same fall)

-- where all are, the dB are: so many hops are in them
pub hops_are : (n hops db power rise fall : ℕ) → 0 < n → not_long_by n hops db power rise fall ≡ false → db / n ≡ hops
hops_are n hops db power rise fall some e =
    let L = hops * n in
    ap (λ (x : ℕ). x / n)
    (same_of db L (or_l (differ db L) (differ power L) (or_l (differ db L || differ power L) (differ rise L) (or_l (differ db L || differ power L || differ rise L) (differ fall L) e))))
    ∙ mul-div_cancel hops some

-- ---- garbled hops, one after another

-- the place of the next hop, and that it is within the slice
pub next-at : (n i at : ℕ) → at ≡ i * n → at + n ≡ (i + 1) * n
next-at n i at e = ap (λ (x : ℕ). x + n) e ∙ sym (suc-mul i n) ∙ ap (λ (k : ℕ). k * n) (let q : suc i ≡ i + 1 = omega arith in q)

pub next_fits : (n hops i at len : ℕ) → len ≡ hops * n → at ≡ i * n → i < hops → at + n ≤ len
next_fits n hops i at len l e h = omega (arith, mul_comm i n, mul_comm hops n, row n i hops h)

-- what is left to ask of these hops, the first of them at phase p
abbrev pub left_of : ℕ → ℕ → List Float → Bool
left_of n p db = garbled_db n p (length db / n) db

module _ (n p : ℕ) (some : 0 < n) where
  pub left-more : (hop db : List Float) → length hop ≡ n
      → left_of n p (hop ++ db) ≡ ((eqb p 0 && garbled (length hop) hop) || left_of n ((p + 1) % decimation_hops) db)
  left-more hop db e =
      let more : length (hop ++ db) / n ≡ suc (length db / n) =
      ap (λ (x : ℕ). x / n) (length-append hop db ∙ ap (λ (x : ℕ). x + length db) e) ∙ add-div_left (length db) some ∙ omega arith in
      ap (λ (k : ℕ). garbled_db n p k (hop ++ db)) more
      ∙ (λ i. (eqb p 0 && garbled (sym e i) (take_at hop db n e i)) || garbled_db n ((p + 1) % decimation_hops) (length db / n) (drop_at hop db n e i))

  pub left-none : (db : List Float) → length db < n → left_of n p db ≡ false
  left-none db h = ap (λ (k : ℕ). garbled_db n p k db) (div-eq_of_lt h)

-- ---- what a pair that is not refused has shown

pub record Known (bu gu : List ℕ) : Type 0 where
  pub three : 3 ≤ length bu
  pub thirty : length gu ≡ 30
  pub some : 0 < get_or gu 0 0
  pub phase : get_or bu 1 0 < decimation_hops

pub known : (bu : List ℕ) (bf : List Float) (gu : List ℕ) (gf : List Float) → pair_refusal bu bf gu gf ≡ 0 → Known bu gu
unfolding bank_of
known bu bf gu gf e =
    let v = fit_of (alone bu bf gu gf) e in
    let g = gate-ready gu gf v.gate_passes in
    record {
      three = at_least_three bu bf v.bank_passes;
      thirty = g.long;
      some = omega (arith, g.good.low, n-of gu gf);
      phase = (ready bu bf v.bank_passes).good.phase;
    }
