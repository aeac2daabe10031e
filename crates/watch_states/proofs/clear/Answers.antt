-- `watch_states::clear`: the filled list, entry by entry.
use Rattle.std.proofs.Common.{length, replicate, sym, ◌∙◌}
use lib.ListN.{length-replicate}
use Rattle.std.proofs.lemmas.List.{get_or-replicate}
use Rattle.laws.proofs.Tabs.{tab-get_d, tab-ext}
use Rattle.watch_states.proofs.clear.Goals as goal

pub returns : goal.returns
returns c =
    let n = length c.args.events.now in
    c.fill.ensures.after (λ y e. e)
    ∙ sym (tab-get_d (replicate n 0) 0 n (length-replicate n 0))
    ∙ tab-ext n _ _ (λ k h. get_or-replicate n k 0 0 h)
