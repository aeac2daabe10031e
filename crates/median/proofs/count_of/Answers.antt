-- One entry more, and its test as a number. Assumes nothing.
use Rattle.std.proofs.Common.{◌≡◌, ℕ, ◌+◌, ◌≤◌, Bool, true, false, refl, ap, ◌∙◌, arith}
use lib.Ieee.{nan}
use mir.Val.{bool_byte}
use Rattle.std.specs.Int.{from_bool}
use Rattle.laws.proofs.Counts.{count_turn}
use Rattle.median.proofs.count_of.Goals as goal

flag : (r : Bool) → from_bool r ≡ bool_byte r
flag true = refl
flag false = refl

flag-le : (r : Bool) → from_bool r ≤ 1
flag-le true = omega arith
flag-le false = omega arith

pub loop-x-preserved : goal.loop-x-preserved
loop-x-preserved g c = (
  c.loop-x.invariant.0,
  omega (arith, c.loop-x.invariant.1, c.from-n.ensures, flag-le c.passes.result),
  λ p pure.
      ap (λ (b : ℕ). c.loop-x.n + b) (c.from-n.ensures ∙ flag c.passes.result ∙ ap bool_byte (pure _ _ c.passes.ensures))
      ∙ count_turn p c.args.l.now c.loop-x.x-index c.loop-x.n nan c.loop-x-test.true (c.loop-x.invariant.2 p pure),
)
