use Rattle.std.proofs.Common.{List, ℕ, ◌+◌, ap, refl, sym, ◌∙◌, ◌≡◌, arith}
use lib.Ieee.{nan}
use Rattle.laws.specs.Lists.{splice, tab}
use Rattle.laws.proofs.Tabs.{fill-next}
use Rattle.model.specs.Ring.{raw_floor, usable_floor}
use Rattle.model.specs.Stores.{chan_of, chan_part}
use Rattle.bank_stages.proofs.Loops.{fits, lent, usable-done, raw_at_lem}
use Rattle.bank_floors.proofs.usable_floors.Goals as goal

pub channel-requires : goal.channel-requires
channel-requires c =
    let s = fits c.args.bank.now c.args.bank_f.now c.from-n.result c.requires.ready c.from-n.ensures in
    (s.few, c.loop-k-test.true, s.long)

pub usable_floor-requires-clause-sound : goal.usable_floor-requires-clause-sound
usable_floor-requires-clause-sound c =
    let u = c.args.bank.now in
    let f = c.args.bank_f.now in
    lent u f c.from-n.result (fits u f c.from-n.result c.requires.ready c.from-n.ensures) c.loop-k.k c.loop-k-test.true c.channel.result.now c.channel.ensures

pub usable_floor-requires-clause-raw_value : goal.usable_floor-requires-clause-raw_value
usable_floor-requires-clause-raw_value c =
    let u = c.args.bank.now in
    let n = c.from-n.result in
    let k = c.loop-k.k in
    raw_at_lem u c.args.bank_f.now c.requires.ready n c.from-n.ensures c.requires.bank_f_value k c.loop-k.bank_f (tab k (λ j. usable_floor (chan_of (chan_part n u j)))) k nan c.loop-k-test.true c.loop-k.invariant
    ∙ ap (λ (l : List ℕ). raw_floor (chan_of l)) (sym c.channel.ensures)

pub loop-k-preserved : goal.loop-k-preserved
loop-k-preserved c =
    let u = c.args.bank.now in
    let f = c.args.bank_f.now in
    let n = c.from-n.result in
    let s = fits u f n c.requires.ready c.from-n.ensures in
    fill-next n c.loop-k.k (n + c.loop-k.k) f c.loop-k.bank_f (λ k. usable_floor (chan_of (chan_part n u k))) c.usable_floor.result refl (omega (arith, s.long_f)) c.loop-k.invariant
    (c.usable_floor.ensures ∙ ap (λ (l : List ℕ). usable_floor (chan_of l)) c.channel.ensures)

pub returns : goal.returns
returns c =
    let u = c.args.bank.now in
    let f = c.args.bank_f.now in
    let n = c.from-n.result in
    let e : c.loop-k.k ≡ n = omega arith in
    usable-done u f c.requires.ready n c.from-n.ensures c.loop-k.bank_f
    (c.loop-k.invariant ∙ ap (λ (j : ℕ). splice n j f (tab j (λ k. usable_floor (chan_of (chan_part n u k))))) e)
