-- One entry more, and its test as a number. Assumes nothing.
use Rattle.std.proofs.Common.{◌≡◌, ℕ, ◌+◌, ◌≤◌, Bool, not, true, false, refl, sym, ap, ◌∙◌, arith, get_or, length}
use mir.Val.{bool_byte}
use Rattle.std.specs.Int.{from_bool}
use Rattle.laws.specs.Lists.{one}
use Rattle.bank_sound.specs.Fails.{fails}
use Rattle.bank_sound.proofs.Checks.{fails_more}
use Rattle.bank_sound.proofs.count_of.Goals as goal

flag : (r : Bool) → from_bool r ≡ one r
flag true = refl
flag false = refl

flag-le : (r : Bool) → from_bool r ≤ 1
flag-le true = omega arith
flag-le false = omega arith

pub loop-x-init : goal.loop-x-init
unfolding fails
loop-x-init g c = (c.requires.callable, omega arith, λ p pure. refl)

pub loop-x-preserved : goal.loop-x-preserved
loop-x-preserved g c = (
  c.loop-x.invariant.0,
  omega (arith, c.loop-x.invariant.1, c.from-n.ensures, flag-le c.passes.result),
  λ p pure.
      ap (λ (b : ℕ). c.loop-x.n + b) (c.from-n.ensures ∙ flag c.passes.result ∙ ap one (pure _ _ (omega arith) c.passes.ensures))
      ∙ ap (λ (k : ℕ). k + one (not (p (get_or c.args.part.now c.loop-x.x-index 0)))) (c.loop-x.invariant.2 p pure)
      ∙ sym (fails_more c.loop-x.x-index (λ i. p (get_or c.args.part.now i 0))),
)

pub returns : goal.returns
returns g c = λ p pure.
    let e : c.loop-x.x-index ≡ length c.args.part.now = omega arith in
    c.loop-x.invariant.2 p pure ∙ ap (λ (k : ℕ). fails k (λ i. p (get_or c.args.part.now i 0))) e
