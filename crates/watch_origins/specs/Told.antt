-- Where floors come from (document 02, R-4), and when that is worth a line.
use Rattle.std.specs.Prelude.{Bool, ◌||◌, Float}
use Rattle.std.specs.Float.{nan, binary64}
use Rattle.std.specs.Float.Ieee.{sub, le, of_bits}
use Rattle.laws.specs.Tests.{differ}
use Rattle.origins.specs.Origins.{effective_number, effective_db, rise_number, rise_db}
use Rattle.origins.specs.declared.EffectiveOrigin.TheVariants as E
use Rattle.origins.specs.declared.RiseOrigin.TheVariants as R
use Rattle.origins.specs.declared.Explanation.{Explanation}

-- what stands for a refused explanation
abbrev pub no_explanation : Explanation
no_explanation = record { effective = E.OwnQuartile nan; rise = R.EffectiveFloor nan }

-- 1 dB
abbrev pub one_db : Float
one_db = of_bits binary64 0x3ff0_0000_0000_0000

-- a floor jumps by 1 dB or more, up or down
abbrev pub jumps : Float → Float → Bool
jumps a b = le one_db (sub binary64 a b) || le one_db (sub binary64 b a)

-- an origin changes or a floor jumps
unfoldable pub is_news : Explanation → Explanation → Bool
is_news a b =
    differ (effective_number a.effective) (effective_number b.effective)
    || differ (rise_number a.rise) (rise_number b.rise)
    || jumps (effective_db a.effective) (effective_db b.effective)
    || jumps (rise_db a.rise) (rise_db b.rise)
