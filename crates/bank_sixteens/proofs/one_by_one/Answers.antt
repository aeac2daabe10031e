use Rattle.std.proofs.Common.{◌≡◌, true, ℕ, refl, rules, tests}
use Rattle.std.specs.Bool.{⊤}
use Rattle.std.proofs.lemmas.Iterator.{YieldsList-from_range, cases_from_all}
use Rattle.model.specs.Stores.{chan_of, sound_channel}
use Rattle.bank_sixteens.specs.Rows.{chan_in}
use Rattle.bank_sixteens.proofs.Rows.{all-yes}
use Rattle.bank_sixteens.proofs.one_by_one.Goals as goal

pub returns : goal.returns
returns c =
    let yes = λ (k : ℕ). sound_channel (chan_of (chan_in c.args.eight.now k)) ≡ true in
    all-yes 8 yes (λ k. ⊤) c.all.result
    (cases_from_all _ _ c.all.result yes (λ k. ⊤) c.all.ensures.ran (YieldsList-from_range 0 8 8 (cc) refl) (λ x q k. search (rules, tests)) (λ x q k. cc))
