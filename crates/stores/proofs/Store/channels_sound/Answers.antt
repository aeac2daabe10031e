use Rattle.std.proofs.Common.{◌≡◌, ◌∙◌, sym, ap, ℕ, ◌+◌, ◌-◌, ◌*◌, refl, arith, rules, tests}
use Rattle.std.proofs.lemmas.Iterator.{YieldsList-from_range}
use Rattle.std.proofs.lemmas.Iterator.Search.{all_from_yields_List}
use Rattle.laws.specs.Lists.{part}
use Rattle.laws.specs.Tests.{all_below}
use Rattle.laws.proofs.Tests.{all_true}
use Rattle.model.specs.Layout.{channel_len}
use Rattle.model.specs.Stores.{chan_of, sound_channel}
use Rattle.stores.specs.Checks.{is_sound, sound_channels}
use Rattle.stores.proofs.Banks.{all_ranged}
use Rattle.stores.proofs.Store.channels_sound.Goals as goal

pub returns : goal.returns
unfolding sound_channels
returns c =
    let u = c.args.self.now.bank.now in
    let n = c.args.self.now.n in
    let test = is_sound u n in
    let first = c.sound_sixteens-first.result in
    let e = c.sound_sixteens-first.ensures in
    let d : first + (n - first) ≡ n = omega (arith, e.0) in
    all_from_yields_List test _ _ c.all.result c.all.ensures.ran (YieldsList-from_range first n (n - first) (cc) refl) (λ x b q k. search (rules, tests))
    ∙ all_ranged test first (n - first)
    (all_true test first (λ k h. ap (λ (b : ℕ). sound_channel (chan_of (part (b + channel_len * k) channel_len u))) (sym c.base-start.ensures.0) ∙ e.1 k h))
    ∙ ap (λ (k : ℕ). all_below k test) d
