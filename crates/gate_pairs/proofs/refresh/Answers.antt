-- `gate_pairs::refresh`: the pairs, renewed, are those of `refresh`.
use Rattle.std.proofs.Common.{◌≡◌, ◌-◌, ◌*◌, length, get_or, refl, ap, ◌∙◌, arith}
use Rattle.laws.specs.Lists.{splice}
use Rattle.gate_pairs.proofs.Refreshed.{refreshed}
use Rattle.gate_pairs.proofs.refresh.Goals as goal

pub returns : goal.returns
returns c =
    let gf = c.args.gate_f.now in
    let n : c.from-n.result ≡ get_or c.args.bank.now 0 0 = omega arith in
    let a = length gf - 2 * c.from-n.result in
    ap (splice a (length gf - a) gf) c.renew_all.ensures
    ∙ refreshed c.args.bank.now c.args.bank_f.now c.args.gate.now gf c.requires c.from-n.result a _ n refl c.level-on.ensures _ _ refl refl
