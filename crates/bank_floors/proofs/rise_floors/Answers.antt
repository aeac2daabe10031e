use Rattle.std.proofs.Common.{List, ℕ, ◌+◌, ◌*◌, ◌/◌, ap, refl, ◌∙◌, ◌≡◌, get_or, arith}
use lib.Ieee.{nan}
use Rattle.laws.specs.Lists.{splice, tab}
use Rattle.laws.proofs.Tabs.{fill-next, length-tab}
use Rattle.model.specs.Layout.{block_channels}
use Rattle.model.specs.Bank.{blocks, rise_floor}
use Rattle.model.specs.Ring.{since}
use Rattle.model.specs.Stores.{chan_of}
use Rattle.bank_stages.proofs.Loops.{fits, lent, rise_at_of, rise-done, rise-reads}
use Rattle.bank_floors.proofs.rise_floors.Goals as goal

pub channel-requires : goal.channel-requires
channel-requires c =
    let s = fits c.args.bank.now c.args.bank_f.now c.from-n.result c.requires c.from-n.ensures in
    (s.few, c.loop-k-test.true, s.long)

pub since-since-requires : goal.since-since-requires
since-since-requires c =
    let u = c.args.bank.now in
    let f = c.args.bank_f.now in
    lent u f c.from-n.result (fits u f c.from-n.result c.requires c.from-n.ensures) c.loop-k.k c.loop-k-test.true c.channel.result.now c.channel.ensures

pub loop-k-preserved : goal.loop-k-preserved
loop-k-preserved c =
    let u = c.args.bank.now in
    let f = c.args.bank_f.now in
    let n = c.from-n.result in
    let k = c.loop-k.k in
    let i = k / block_channels in
    let s = fits u f n c.requires c.from-n.ensures in
    let b : c.div_ceil-blocks.result ≡ blocks n = omega (arith, c.div_ceil-blocks.ensures) in
    let m = rise-reads u f c.requires n c.from-n.ensures c.loop-k.bank_f (tab k (rise_at_of u f n)) k i c.loop-k-test.true (length-tab k (rise_at_of u f n)) (omega arith) c.loop-k.invariant in
    let q = ap (λ (w : ℕ). get_or c.loop-k.bank_f (4 * n + w + i) nan) b ∙ m.2 in
    let e = c.since-since.ensures ∙ ap (λ (l : List ℕ). since (chan_of l)) c.channel.ensures in
    fill-next (3 * n) k (3 * n + k) f c.loop-k.bank_f (rise_at_of u f n) c.rise_floor-floor.result refl (omega (arith, s.long_f)) c.loop-k.invariant
    (c.rise_floor-floor.ensures ∙ (λ j. rise_floor (m.0 j) (m.1 j) (e j) (get_or u (3 + i) 0) (q j)))

pub returns : goal.returns
returns c =
    let u = c.args.bank.now in
    let f = c.args.bank_f.now in
    let n = c.from-n.result in
    let e : c.loop-k.k ≡ n = omega arith in
    rise-done u f c.requires n c.from-n.ensures c.loop-k.bank_f
    (c.loop-k.invariant ∙ ap (λ (j : ℕ). splice (3 * n) j f (tab j (rise_at_of u f n))) e)
