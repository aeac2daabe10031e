use Rattle.std.proofs.Common.{◌≡◌, ◌+◌, ◌-◌, ◌*◌, ◌∙◌, ℕ, ap, rules}
use Rattle.laws.specs.Lists.{part}
use Rattle.laws.proofs.Lists.{width}
use Rattle.model.specs.Layout.{channel_len}
use Rattle.bank_sixteens.proofs.eight_at.Goals as goal

pub returns : goal.returns
returns c =
    let a = c.args.from in
    let e : c.unwrap.result.now ≡ part a (a + 8 * channel_len - a) c.args.bank.now = search rules in
    e ∙ ap (λ (w : ℕ). part a w c.args.bank.now) (width a (8 * channel_len))
