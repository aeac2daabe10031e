-- Document 02, R-4: where a floor comes from. Both floors are worked out from the store for this, by the formulas of document 01.
use Rattle.std.specs.Prelude.{Bool, cond, not, ◌&&◌, List, ℕ, ◌/◌, ltb, get_or, Float, Result}
use Rattle.std.specs.Float.{binary64}
use Rattle.std.specs.Float.Ieee.{add, lt, is_nan}
use Rattle.model.specs.Layout.{ring_len, block_channels}
use Rattle.model.specs.Numbers.{f0, f3, fmin, fmax}
use Rattle.model.specs.Ring.{since}
use Rattle.model.specs.Bank.{FloorBank, channel, seed_of, effective_floor}
use Rattle.model.specs.Stores.{bank_of}
use Rattle.refusals.specs.Readings.{reading}
use Rattle.model.specs.Refusals.{read_refusal}
use Rattle.origins.specs.declared.EffectiveOrigin.{EffectiveOrigin}
use Rattle.origins.specs.declared.EffectiveOrigin.TheVariants as E
use Rattle.origins.specs.declared.RiseOrigin.{RiseOrigin}
use Rattle.origins.specs.declared.RiseOrigin.TheVariants as R
use Rattle.origins.specs.declared.Explanation.{Explanation}

-- ---- the origins, each carrying its dB value, numbered in document 02's order

-- own quartile, block plus 3, seed
abbrev pub effective_number : EffectiveOrigin → ℕ
effective_number (E.OwnQuartile x) = 0
effective_number (E.BlockPlus3 x) = 1
effective_number (E.Seed x) = 2

abbrev pub effective_db : EffectiveOrigin → Float
effective_db (E.OwnQuartile x) = x
effective_db (E.BlockPlus3 x) = x
effective_db (E.Seed x) = x

-- effective floor, block, seed
abbrev pub rise_number : RiseOrigin → ℕ
rise_number (R.EffectiveFloor x) = 0
rise_number (R.Block x) = 1
rise_number (R.Seed x) = 2

abbrev pub rise_db : RiseOrigin → Float
rise_db (R.EffectiveFloor x) = x
rise_db (R.Block x) = x
rise_db (R.Seed x) = x

-- ---- which side of a minimum or maximum is named

-- The later side is named where the earlier is a NaN passed over, or is not the one that yields the value. Where the two sides are equal,
-- zeros of either sign among them, or both NaN, the earlier is named; a NaN passed over is not
abbrev pub later_of_min : Float → Float → Bool
later_of_min a b = cond (is_nan a) (not (is_nan b)) (lt b a)

abbrev pub later_of_max : Float → Float → Bool
later_of_max a b = cond (is_nan a) (not (is_nan b)) (lt a b)

-- "not below the seed", if the test holds: where it does not, the seed is not asked
abbrev pub seed_named : Bool → Float → Float → Bool
seed_named asked x seed = asked && later_of_max x seed

-- ---- the two origins of one channel: of its usable floor u, its block's floor f, its entries since the leading silence e, and its block's
-- seed pushes and seed sum, as in document 01's formulas

-- the effective floor's
unfoldable pub effective_origin : Float → Float → ℕ → ℕ → Float → EffectiveOrigin
effective_origin u f e pushes sum =
    let plus3 = add binary64 f f3 in
    let seed = seed_of pushes sum in
    cond (seed_named (ltb e 25 && ltb 0 pushes) (fmin u plus3) seed) (E.Seed seed)
    (cond (later_of_min u plus3) (E.BlockPlus3 plus3)
    (E.OwnQuartile u))

-- the rise floor's
unfoldable pub rise_origin : Float → Float → ℕ → ℕ → Float → RiseOrigin
rise_origin u f e pushes sum =
    let effective = effective_floor u f e pushes sum in
    let seed = seed_of pushes sum in
    cond (seed_named (ltb e ring_len && ltb 0 pushes) (fmax effective f) seed) (R.Seed seed)
    (cond (later_of_max effective f) (R.Block f)
    (R.EffectiveFloor effective))

-- ---- for a channel, the explanation: both origins

-- what document 01's formulas for a channel's floors are asked with
unfoldable pub of_channel {ℓ} : {A : Type ℓ} → (Float → Float → ℕ → ℕ → Float → A) → FloorBank → ℕ → A
of_channel rule b k =
    rule (get_or b.usable k f0) (get_or b.block_floor (k / block_channels) f0) (since (channel b k)) (get_or b.seeds (k / block_channels) 0)
    (get_or b.seed_sum (k / block_channels) f0)

unfoldable pub explanation_at : FloorBank → ℕ → Explanation
explanation_at b k = record { effective = of_channel effective_origin b k; rise = of_channel rise_origin b k }

-- ---- explained, or refused as a reading is

unfoldable pub explained : List ℕ → List Float → ℕ → Result Explanation ℕ
explained u f k = reading (read_refusal u f k) (explanation_at (bank_of u f) k)
