-- What an explanation can be relied on for, proved. Assumes nothing.
use mathlib.Core.Path.{◌≡◌, refl, sym, ap, ◌∙◌}
use mathlib.Core.Bool.{Bool, true, false, cond, ◌&&◌}
use Prim.Native.Nat.{ℕ, zero, suc, ◌+◌, ◌*◌, ◌<◌}
use native.Mathlib.Omega.{arith}
use lib.Dec.{ltb, eqb}
use lib.Ieee.{Float, nan, inf, fin, binary64, add, lt, eq, is_nan, below, level, up, down}
use borrow.Author.Tests.{ltb-true, eqb-true, le-ltb}
use Rattle.laws.proofs.Tests.{clash, and_l, and_r}
use Rattle.model.specs.Layout.{ring_len}
use Rattle.model.specs.Numbers.{f3, fmin, fmax}
use Rattle.model.specs.Bank.{seed_of, not_below, effective_floor, rise_floor}
use Rattle.model.specs.Stores.{bank_of}
use Rattle.model.specs.Refusals.{read_refusal}
use Rattle.refusals.specs.Readings.{reading, number}
use Rattle.model.specs.Readings.{effective_at, effective_reading}
use Rattle.std.specs.Prelude.{Ok}
use Rattle.origins.specs.Origins.{effective_db, rise_db, later_of_min, later_of_max, seed_named, effective_origin, rise_origin, of_channel, explanation_at, explained}
use Rattle.origins.specs.Explains.{EffectiveNamed, RiseNamed, Named, RefusedAsRead, effective_of, rise_of, EffectiveExplained, RiseExplained}
use Rattle.origins.specs.declared.EffectiveOrigin.TheVariants as E
use Rattle.origins.specs.declared.RiseOrigin.TheVariants as R
use Rattle.origins.specs.declared.Explanation.{Explanation}

-- ---- one minimum or maximum: the named side is what it yields

min-side : (a b : Float) → cond (later_of_min a b) b a ≡ fmin a b
unfolding is_nan
min-side nan nan = refl
min-side nan (inf s) = refl
min-side nan (fin s m e) = refl
min-side (inf s) b = refl
min-side (fin s m e) b = refl

max-side : (a b : Float) → cond (later_of_max a b) b a ≡ fmax a b
unfolding is_nan
max-side nan nan = refl
max-side nan (inf s) = refl
max-side nan (fin s m e) = refl
max-side (inf s) b = refl
max-side (fin s m e) b = refl

-- the seed's maximum, where its test holds
seed-side : (asked : Bool) (x seed : Float) → cond (seed_named asked x seed) seed x ≡ not_below asked x seed
seed-side true x seed = max-side x seed
seed-side false x seed = refl

-- a NaN as the later side is not named
min-number : (a b : Float) → later_of_min a b ≡ true → is_nan b ≡ false
unfolding is_nan lt
min-number nan nan h = clash (sym h)
min-number (inf s) nan h = clash (sym h)
min-number (fin s m e) nan h = clash (sym h)
min-number a (inf s) h = refl
min-number a (fin s m e) h = refl

max-number : (a b : Float) → later_of_max a b ≡ true → is_nan b ≡ false
unfolding is_nan lt
max-number nan nan h = clash (sym h)
max-number (inf s) nan h = clash (sym h)
max-number (fin s m e) nan h = clash (sym h)
max-number a (inf s) h = refl
max-number a (fin s m e) h = refl

-- equal sides, zeros of either sign among them: neither is below the other
apart : (s : Bool) (a : ℕ) (t : Bool) (b : ℕ) → level s a t b ≡ true → (below s a t b ≡ false) × (below t b s a ≡ false)
apart false a false b h = let e = eqb-true a b (and_l (eqb a b) true h) in (le-ltb a b (omega arith), le-ltb b a (omega arith))
apart false a true b h = let e = eqb-true a b (and_l (eqb a b) (eqb a 0) h) in
    let z = eqb-true a 0 (and_r (eqb a b) (eqb a 0) h) in
    (refl, le-ltb 0 (b + a) (omega arith))
apart true a false b h = let e = eqb-true a b (and_l (eqb a b) (eqb a 0) h) in
    let z = eqb-true a 0 (and_r (eqb a b) (eqb a 0) h) in
    (le-ltb 0 (a + b) (omega arith), refl)
apart true a true b h = let e = eqb-true a b (and_l (eqb a b) true h) in (le-ltb b a (omega arith), le-ltb a b (omega arith))

equal-apart : (x y : Float) → eq x y ≡ true → (later_of_min x y ≡ false) × (later_of_max x y ≡ false)
unfolding eq lt is_nan
equal-apart nan y h = clash (sym h)
equal-apart (inf s) nan h = clash (sym h)
equal-apart (inf true) (inf true) h = (refl, refl)
equal-apart (inf true) (inf false) h = clash (sym h)
equal-apart (inf false) (inf true) h = clash (sym h)
equal-apart (inf false) (inf false) h = (refl, refl)
equal-apart (inf s) (fin t n d) h = clash (sym h)
equal-apart (fin s m e) nan h = clash (sym h)
equal-apart (fin s m e) (inf t) h = clash (sym h)
equal-apart (fin s m e) (fin t n d) h = let r = apart s (m * up e * down d) t (n * up d * down e) h in (r.1, r.0)

-- ---- the two maxima and minima by what their tests were found to be

min-is : (m : Bool) (a b : Float) → later_of_min a b ≡ m → cond m b a ≡ fmin a b
min-is m a b h = ap (λ (t : Bool). cond t b a) (sym h) ∙ min-side a b

max-is : (m : Bool) (a b : Float) → later_of_max a b ≡ m → cond m b a ≡ fmax a b
max-is m a b h = ap (λ (t : Bool). cond t b a) (sym h) ∙ max-side a b

seed-is : (s asked : Bool) (x seed : Float) → seed_named asked x seed ≡ s → cond s seed x ≡ not_below asked x seed
seed-is s asked x seed h = ap (λ (t : Bool). cond t seed x) (sym h) ∙ seed-side asked x seed

-- a test that held did not fail
never : {A : Type 0} (t : Bool) → t ≡ true → t ≡ false → A
never t h k = clash (sym h ∙ k)

-- the seed is named: it was asked, it is a number, and it is not equal to the other side
module _ (e most pushes : ℕ) (x seed : Float) (h : seed_named (ltb e most && ltb 0 pushes) x seed ≡ true) where
  was-asked : (e < most) × (0 < pushes)
  was-asked = let a = and_l (ltb e most && ltb 0 pushes) (later_of_max x seed) h in
      (ltb-true e most (and_l (ltb e most) (ltb 0 pushes) a), ltb-true 0 pushes (and_r (ltb e most) (ltb 0 pushes) a))

  seed-number : is_nan seed ≡ false
  seed-number = max-number x seed (and_r (ltb e most && ltb 0 pushes) (later_of_max x seed) h)

  seed-above : eq x seed ≡ true → ⊥
  seed-above q = never (later_of_max x seed) (and_r (ltb e most && ltb 0 pushes) (later_of_max x seed) h) (equal-apart x seed q).1

-- ---- the origins

module _ (u f : Float) (e pushes : ℕ) (sum : Float) where
  -- ---- the effective floor's

  abbrev P : Float
  P = add binary64 f f3

  abbrev S : Float
  S = seed_of pushes sum

  abbrev A25 : Bool
  A25 = ltb e 25 && ltb 0 pushes

  effective-cases : (m s : Bool) → later_of_min u P ≡ m → seed_named A25 (fmin u P) S ≡ s
      → EffectiveNamed u f e pushes sum (cond s (E.Seed S) (cond m (E.BlockPlus3 P) (E.OwnQuartile u)))
  unfolding effective_floor
  effective-cases m true hm hs =
      record {
        carried = seed-is true A25 (fmin u P) S hs;
        yields = refl;
        own_first = λ _ h. absurd (omega arith);
        seed_last = λ h _. seed-above e 25 pushes (fmin u P) S hs h;
        nan_own = λ h. never (is_nan S) h (seed-number e 25 pushes (fmin u P) S hs);
        asked = λ _. was-asked e 25 pushes (fmin u P) S hs;
      }
  effective-cases true false hm hs =
      record {
        carried = min-is true u P hm ∙ seed-is false A25 (fmin u P) S hs;
        yields = refl;
        own_first = λ h _. never (later_of_min u P) hm (equal-apart u P h).0;
        seed_last = λ _ h. absurd (omega arith);
        nan_own = λ h. never (is_nan P) h (min-number u P hm);
        asked = λ h. absurd (omega arith);
      }
  effective-cases false false hm hs =
      record {
        carried = min-is false u P hm ∙ seed-is false A25 (fmin u P) S hs;
        yields = refl;
        own_first = λ _ h. absurd (omega arith);
        seed_last = λ _ h. absurd (omega arith);
        nan_own = λ _. refl;
        asked = λ h. absurd (omega arith);
      }

  pub effective-named : EffectiveNamed u f e pushes sum (effective_origin u f e pushes sum)
  unfolding effective_origin
  effective-named = effective-cases (later_of_min u P) (seed_named A25 (fmin u P) S) refl refl

  -- ---- the rise floor's

  abbrev W : Float
  W = effective_floor u f e pushes sum

  abbrev Aring : Bool
  Aring = ltb e ring_len && ltb 0 pushes

  rise-cases : (m s : Bool) → later_of_max W f ≡ m → seed_named Aring (fmax W f) S ≡ s
      → RiseNamed u f e pushes sum (cond s (R.Seed S) (cond m (R.Block f) (R.EffectiveFloor W)))
  unfolding rise_floor
  rise-cases m true hm hs =
      record {
        carried = seed-is true Aring (fmax W f) S hs;
        yields = refl;
        effective_first = λ _ h. absurd (omega arith);
        seed_last = λ h _. seed-above e ring_len pushes (fmax W f) S hs h;
        nan_effective = λ h. never (is_nan S) h (seed-number e ring_len pushes (fmax W f) S hs);
        asked = λ _. was-asked e ring_len pushes (fmax W f) S hs;
      }
  rise-cases true false hm hs =
      record {
        carried = max-is true W f hm ∙ seed-is false Aring (fmax W f) S hs;
        yields = refl;
        effective_first = λ h _. never (later_of_max W f) hm (equal-apart W f h).1;
        seed_last = λ _ h. absurd (omega arith);
        nan_effective = λ h. never (is_nan f) h (max-number W f hm);
        asked = λ h. absurd (omega arith);
      }
  rise-cases false false hm hs =
      record {
        carried = max-is false W f hm ∙ seed-is false Aring (fmax W f) S hs;
        yields = refl;
        effective_first = λ _ h. absurd (omega arith);
        seed_last = λ _ h. absurd (omega arith);
        nan_effective = λ _. refl;
        asked = λ h. absurd (omega arith);
      }

  pub rise-named : RiseNamed u f e pushes sum (rise_origin u f e pushes sum)
  unfolding rise_origin
  rise-named = rise-cases (later_of_max W f) (seed_named Aring (fmax W f) S) refl refl

pub named : Named
named u f e pushes sum = (effective-named u f e pushes sum, rise-named u f e pushes sum)

-- ---- of lent stores

numbered : (r : ℕ) (x : Explanation) → number (reading r x) ≡ r
numbered zero x = refl
numbered (suc r) x = refl

pub refused-as-read : RefusedAsRead
unfolding explained
refused-as-read u f k = numbered (read_refusal u f k) (explanation_at (bank_of u f) k)

effective-reads : (r : ℕ) (x : Explanation) (v : Float) → effective_db x.effective ≡ v → effective_of (reading r x) ≡ reading r v
effective-reads zero x v h = ap Ok h
effective-reads (suc r) x v h = refl

rise-reads : (r : ℕ) (x : Explanation) (v : Float) → rise_db x.rise ≡ v → rise_of (reading r x) ≡ reading r v
rise-reads zero x v h = ap Ok h
rise-reads (suc r) x v h = refl

pub effective-explained : EffectiveExplained
unfolding explained explanation_at of_channel effective_reading effective_at
effective-explained u f k =
    effective-reads (read_refusal u f k) (explanation_at (bank_of u f) k) (effective_at (bank_of u f) k)
    (effective-named _ _ _ _ _).carried

pub rise-explained : RiseExplained
unfolding explained explanation_at of_channel
rise-explained u f k =
    rise-reads (read_refusal u f k) (explanation_at (bank_of u f) k) (of_channel rise_floor (bank_of u f) k)
    (rise-named _ _ _ _ _).carried
