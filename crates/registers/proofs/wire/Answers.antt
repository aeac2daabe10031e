-- One byte more; after the last of them the wire is up where one calls.
use Rattle.std.proofs.Common.{◌≡◌, ◌∙◌, ◌||◌, ℕ, Bool, refl, ap, arith}
use native.Mathlib.Numerals.{add-one}
use Rattle.laws.specs.Bits.{width}
use Rattle.laws.specs.Lists.{one}
use Rattle.laws.specs.Tests.{any_below}
use Rattle.laws.proofs.Counts.{flag}
use Rattle.registers.proofs.Wired.{wire_is}
use Rattle.registers.proofs.wire.Invariants.{calls_at}
use Rattle.registers.proofs.wire.Goals as goal

pub loop-i-init : goal.loop-i-init
unfolding any_below
loop-i-init c = refl

pub loop-i-preserved : goal.loop-i-preserved
unfolding any_below
loop-i-preserved c = rw (add-one c.loop-i.i) (ap (λ (b : Bool). b || calls_at c.args.map.now c.div_ceil-w.result c.loop-i.i) c.loop-i.invariant)

pub returns : goal.returns
returns c =
    let m = c.args.map.now in
    let w : c.div_ceil-w.result ≡ width c.args.n = omega arith in
    let e : c.loop-i.i ≡ width c.args.n = omega arith in
    let called =
    c.loop-i.invariant
    ∙ ap (λ (i : ℕ). any_below i (calls_at m c.div_ceil-w.result)) e
    ∙ ap (λ (v : ℕ). any_below (width c.args.n) (calls_at m v)) w
    ∙ wire_is c.args.n m (λ k. (c.type_inv.map k).fits) c.requires.1 in
    c.from.ensures ∙ flag c.loop-i.up ∙ ap one called
