-- Document 02, R-4: what an explanation can be relied on for. The proofs are in proofs/Explains.antt and proofs/Reached.antt.
use Rattle.std.specs.Prelude.{◌≡◌, true, List, ℕ, ◌≤◌, ◌<◌, Float, Result, Ok, Err}
use Rattle.std.specs.Float.{binary64}
use Rattle.std.specs.Float.Ieee.{add, eq, is_nan}
use Rattle.model.specs.Layout.{ring_len}
use Rattle.model.specs.Numbers.{f3, fmin, fmax}
use Rattle.model.specs.Bank.{fresh_bank, seed_of, effective_floor, rise_floor}
use Rattle.model.specs.Stores.{bank_of}
use Rattle.model.specs.Refusals.{read_refusal}
use Rattle.refusals.specs.Readings.{reading, number}
use Rattle.model.specs.Readings.{effective_reading, rise_reading}
use Rattle.model.specs.Reach.{Stores, BankCall, left_by, stores_of}
use Rattle.origins.specs.Origins.{effective_number, effective_db, rise_number, rise_db, effective_origin, rise_origin, of_channel, explained}
use Rattle.origins.specs.declared.Explanation.{Explanation}
use Rattle.origins.specs.declared.EffectiveOrigin.{EffectiveOrigin}
use Rattle.origins.specs.declared.EffectiveOrigin.TheVariants as E
use Rattle.origins.specs.declared.RiseOrigin.{RiseOrigin}
use Rattle.origins.specs.declared.RiseOrigin.TheVariants as R

-- ---- of one channel's five numbers, any floats among them

-- the named rule's own formula: usable floor; block floor + 3; seed
abbrev pub effective_rule : Float → Float → ℕ → Float → EffectiveOrigin → Float
effective_rule u f pushes sum (E.OwnQuartile x) = u
effective_rule u f pushes sum (E.BlockPlus3 x) = add binary64 f f3
effective_rule u f pushes sum (E.Seed x) = seed_of pushes sum

-- effective floor; block floor; seed
abbrev pub rise_rule : Float → Float → ℕ → ℕ → Float → RiseOrigin → Float
rise_rule u f e pushes sum (R.EffectiveFloor x) = effective_floor u f e pushes sum
rise_rule u f e pushes sum (R.Block x) = f
rise_rule u f e pushes sum (R.Seed x) = seed_of pushes sum

pub record EffectiveNamed (u f : Float) (e pushes : ℕ) (sum : Float) (o : EffectiveOrigin) : Type 0 where
  -- the dB carried is the effective floor of document 01 ..
  pub carried : effective_db o ≡ effective_floor u f e pushes sum
  -- .. and the named rule is the one that really yields it
  pub yields : effective_rule u f pushes sum o ≡ effective_db o
  -- where two sides are equal, the later is not named
  pub own_first : eq u (add binary64 f f3) ≡ true → effective_number o ≡ 1 → ⊥
  pub seed_last : eq (fmin u (add binary64 f f3)) (seed_of pushes sum) ≡ true → effective_number o ≡ 2 → ⊥
  -- a NaN is carried only where every side is one, and then the earliest is named
  pub nan_own : is_nan (effective_db o) ≡ true → effective_number o ≡ 0
  -- the seed is named only where its test holds
  pub asked : effective_number o ≡ 2 → (e < 25) × (0 < pushes)

pub record RiseNamed (u f : Float) (e pushes : ℕ) (sum : Float) (o : RiseOrigin) : Type 0 where
  pub carried : rise_db o ≡ rise_floor u f e pushes sum
  pub yields : rise_rule u f e pushes sum o ≡ rise_db o
  pub effective_first : eq (effective_floor u f e pushes sum) f ≡ true → rise_number o ≡ 1 → ⊥
  pub seed_last : eq (fmax (effective_floor u f e pushes sum) f) (seed_of pushes sum) ≡ true → rise_number o ≡ 2 → ⊥
  pub nan_effective : is_nan (rise_db o) ≡ true → rise_number o ≡ 0
  pub asked : rise_number o ≡ 2 → (e < ring_len) × (0 < pushes)

abbrev pub Named : Type 0
Named =
    (u f : Float) (e pushes : ℕ) (sum : Float)
    → EffectiveNamed u f e pushes sum (effective_origin u f e pushes sum) × RiseNamed u f e pushes sum (rise_origin u f e pushes sum)

-- ---- of lent stores

-- refusals are those of a reading
abbrev pub RefusedAsRead : Type 0
RefusedAsRead = (u : List ℕ) (f : List Float) (k : ℕ) → number (explained u f k) ≡ read_refusal u f k

-- the two floors explained, as readings
abbrev pub effective_of : Result Explanation ℕ → Result Float ℕ
effective_of (Ok x) = Ok (effective_db x.effective)
effective_of (Err r) = Err r

abbrev pub rise_of : Result Explanation ℕ → Result Float ℕ
rise_of (Ok x) = Ok (rise_db x.rise)
rise_of (Err r) = Err r

-- the effective floor explained is the effective reading of the same stores ..
abbrev pub EffectiveExplained : Type 0
EffectiveExplained = (u : List ℕ) (f : List Float) (k : ℕ) → effective_of (explained u f k) ≡ effective_reading u f k

-- .. and the rise floor explained is document 01's rise floor, worked out from them
abbrev pub RiseExplained : Type 0
RiseExplained =
    (u : List ℕ) (f : List Float) (k : ℕ) → rise_of (explained u f k) ≡ reading (read_refusal u f k) (of_channel rise_floor (bank_of u f) k)

-- From a fresh bank, after any list of calls, it is the rise reading, too, which is read as stored
abbrev pub rise_reading_of : Stores → ℕ → Result Float ℕ
rise_reading_of s k = rise_reading s.u s.f k

abbrev pub RiseReached : Type 0
RiseReached =
    (n : ℕ) → 1 ≤ n → n ≤ 512 → (cs : List BankCall) (k : ℕ)
    → let s = left_by (stores_of (fresh_bank n)) cs in
    rise_of (explained s.u s.f k) ≡ rise_reading_of s k
