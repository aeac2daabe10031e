use Rattle.std.proofs.Common.{◌≡◌, ◌+◌, ◌-◌, ◌∙◌, List, ℕ, ap, arith, rules}
use Rattle.laws.specs.Lists.{part}
use Rattle.model.specs.Layout.{channel_len}
use Rattle.model.specs.Ring.{since}
use Rattle.model.specs.Stores.{chan_of}
use Rattle.channel_readings.proofs.Places.{sources_read}
use Rattle.channel_readings.proofs.lent.Channel.sources.Goals as goal

pub returns : goal.returns
returns c =
    let s = c.args.self.now in
    let a = c.ring_start-a.result in
    let cut : c.unwrap.result.now ≡ part a (a + channel_len - a) s.bank.now = search rules in
    sources_read s.bank.now s.bank_f.now s.k s.readable _ _ _ _ c.from-n.ensures (omega (arith, c.from-n.ensures, c.div_ceil-blocks.ensures)) c.ring_start-a.ensures.0
    (c.since-since.ensures ∙ ap (λ (l : List ℕ). since (chan_of l)) cut)
