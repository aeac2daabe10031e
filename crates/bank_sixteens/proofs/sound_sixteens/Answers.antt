use Rattle.std.proofs.Common.{◌*◌, ◌/◌, subst, arith, rules}
use Rattle.bank_sixteens.specs.Rows.{EightSound}
use Rattle.bank_sixteens.proofs.Rows.{clear-made, sixteen-more, last_more}
use Rattle.bank_sixteens.proofs.sound_sixteens.Goals as goal

pub loop-sixteen-init : goal.loop-sixteen-init
loop-sixteen-init c = ((λ j l. absurd (omega arith)), clear-made, clear-made)

pub loop-sixteen-preserved : goal.loop-sixteen-preserved
loop-sixteen-preserved c =
    let e = c.sixteen_sound.ensures c.if-not-sixteen_sound.false in
    let first = subst EightSound c.eight_at.ensures e.0 in
    let second = subst EightSound c.eight_at-in-loop-sixteen.ensures e.1 in
    ((λ j l. sixteen-more c.args.from (16 * c.loop-sixteen.sixteen) c.args.bank.now (omega arith) c.loop-sixteen.invariant.0 first second j (omega arith)), e.2, e.3)

pub returns : goal.returns
returns c =
    let e = c.sixteen_sound-2.ensures c.if-not-sixteen_sound-2.false in
    let first = subst EightSound c.eight_at-first.ensures e.0 in
    let second = subst EightSound c.eight_at-second.ensures e.1 in
    (search rules, last_more c.args.from (16 * (c.args.n / 16)) c.args.n c.args.bank.now (omega arith) (omega arith) (omega arith) (λ j l. c.loop-sixteen.invariant.0 j (omega arith)) first second)
