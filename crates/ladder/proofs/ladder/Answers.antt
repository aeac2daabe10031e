-- A NaN is given back as it came. Assumes nothing.
use Rattle.std.proofs.Common.{◌≡◌, true, refl, sym, ◌∙◌}
use lib.Ieee.{Float, nan, inf, fin, is_nan}
use Rattle.laws.proofs.Tests.{clash}
use Rattle.model.specs.Ladder.{ladder}
use Rattle.ladder.proofs.ladder.Goals as goal

nan-of : (x : Float) → is_nan x ≡ true → x ≡ nan
unfolding is_nan
nan-of nan h = refl
nan-of (inf _) h = clash (sym h)
nan-of (fin _ _ _) h = clash (sym h)

pub returns-then-is_nan : goal.returns-then-is_nan
unfolding ladder
returns-then-is_nan c =
    let so : is_nan c.args.s ≡ true = sym c.is_nan.ensures.value ∙ c.if-is_nan.true in
    rw so (nan-of c.args.s so)

pub returns-else-is_nan : goal.returns-else-is_nan
unfolding ladder
returns-else-is_nan c =
    rw (sym c.is_nan.ensures.value ∙ c.if-is_nan.false) (c.rung_value.ensures ∙ rw (c.rung.ensures.0, c.held.ensures))
