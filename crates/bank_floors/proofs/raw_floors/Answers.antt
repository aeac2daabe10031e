use Rattle.std.proofs.Common.{List, ℕ, ap, ◌∙◌, ◌≡◌, arith}
use Rattle.laws.specs.Lists.{splice, tab}
use Rattle.laws.proofs.Tabs.{fill-next}
use Rattle.model.specs.Ring.{raw_floor}
use Rattle.model.specs.Stores.{chan_of, chan_part}
use Rattle.bank_stages.proofs.Loops.{fits, lent, raw-done}
use Rattle.bank_floors.proofs.raw_floors.Goals as goal

pub channel-requires : goal.channel-requires
channel-requires c =
    let s = fits c.args.bank.now c.args.bank_f.now c.from-n.result c.requires c.from-n.ensures in
    (s.few, c.loop-k-test.true, s.long)

pub raw_floor-requires : goal.raw_floor-requires
raw_floor-requires c =
    let u = c.args.bank.now in
    let f = c.args.bank_f.now in
    lent u f c.from-n.result (fits u f c.from-n.result c.requires c.from-n.ensures) c.loop-k.k c.loop-k-test.true c.channel.result.now c.channel.ensures

pub loop-k-preserved : goal.loop-k-preserved
loop-k-preserved c =
    let u = c.args.bank.now in
    let f = c.args.bank_f.now in
    let n = c.from-n.result in
    let s = fits u f n c.requires c.from-n.ensures in
    fill-next 0 c.loop-k.k c.loop-k.k f c.loop-k.bank_f (λ k. raw_floor (chan_of (chan_part n u k))) c.raw_floor.result (omega arith) (omega (arith, s.long_f)) c.loop-k.invariant
    (c.raw_floor.ensures ∙ ap (λ (l : List ℕ). raw_floor (chan_of l)) c.channel.ensures)

pub returns : goal.returns
returns c =
    let u = c.args.bank.now in
    let f = c.args.bank_f.now in
    let n = c.from-n.result in
    let e : c.loop-k.k ≡ n = omega arith in
    raw-done u f c.requires n c.from-n.ensures c.loop-k.bank_f
    (c.loop-k.invariant ∙ ap (λ (j : ℕ). splice 0 j f (tab j (λ k. raw_floor (chan_of (chan_part n u k))))) e)
