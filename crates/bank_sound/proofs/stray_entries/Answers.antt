-- The ring's entries, by the count of those that are no bins. Assumes nothing.
use Rattle.std.proofs.Common.{◌≡◌, leb, ltb, ◌∙◌, arith, rules}
use Rattle.std.proofs.lemmas.List.{length-take-le}
use Rattle.model.specs.Layout.{bins, ring_len}
use Rattle.bank_sound.proofs.Checks.{not-below, stray_of}
use Rattle.bank_sound.proofs.stray_entries.Goals as goal

pub returns : goal.returns
returns c =
    c.count_of.ensures (λ x. ltb x bins) (λ x r b h. let e : r ≡ leb bins x = search rules in e ∙ not-below x bins)
    ∙ stray_of c.args.chan.now _ (length-take-le ring_len c.args.chan.now (omega arith))
