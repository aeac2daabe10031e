-- The filled places, by the count of those that differ from the first. Assumes nothing.
use Rattle.std.proofs.Common.{eqb, get_or, ◌∙◌, arith, rules}
use Rattle.std.proofs.lemmas.List.{length-take-le}
use Rattle.bank_sound.proofs.Checks.{other_of}
use Rattle.bank_sound.proofs.other_entries.Goals as goal

pub returns : goal.returns
returns c =
    c.count_of.ensures (λ x. eqb x (get_or c.args.chan.now 0 0)) (λ x r b h. search rules)
    ∙ other_of c.args.chan.now c.args.filled _ (length-take-le c.args.filled c.args.chan.now (omega arith))
