use Rattle.std.proofs.Common.{ℕ, ◌*◌, ◌≡◌, ap, refl, ◌∙◌, length, arith}
use Rattle.laws.specs.Lists.{splice, tab, joined}
use Rattle.model.specs.Bank.{blocks}
use Rattle.model.specs.Layout.{channel_len}
use Rattle.model.specs.Stores.{base}
use Rattle.bank_stages.proofs.Loops.{fits, pushed_of, turn-asks, turn-done, push-done}
use Rattle.bank_pushes.proofs.push_all.Goals as goal

pub push_at-requires-clause-sound : goal.push_at-requires-clause-sound
push_at-requires-clause-sound c =
    let u = c.args.bank.now in
    let f = c.args.bank_f.now in
    let db = c.args.power_db.now in
    let d : c.div_ceil-base.result ≡ blocks (length db) = omega (arith, c.div_ceil-base.ensures) in
    rw d (turn-asks u f (length db) (fits u f (length db) c.requires.0 c.requires.1) db c.loop-k.k c.loop-k-test.true c.loop-k.bank c.loop-k.invariant).1

pub loop-k-preserved : goal.loop-k-preserved
loop-k-preserved c =
    let u = c.args.bank.now in
    let f = c.args.bank_f.now in
    let db = c.args.power_db.now in
    let d : c.div_ceil-base.result ≡ blocks (length db) = omega (arith, c.div_ceil-base.ensures) in
    turn-done u f (length db) (fits u f (length db) c.requires.0 c.requires.1) db c.loop-k.k c.loop-k-test.true c.loop-k.bank c.loop-k.invariant c.push_at.new.bank (rw d at c.push_at.ensures)

pub returns : goal.returns
returns c =
    let u = c.args.bank.now in
    let db = c.args.power_db.now in
    let e : c.loop-k.k ≡ length db = omega arith in
    push-done u c.args.bank_f.now c.requires.0 (length db) c.requires.1 db refl c.loop-k.bank
    (c.loop-k.invariant ∙ ap (λ (k : ℕ). splice (base (length db)) (channel_len * k) u (joined (tab k (pushed_of u db (length db))))) e)
