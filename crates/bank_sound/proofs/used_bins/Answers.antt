-- The counts, by the count of those that are not 0. Assumes nothing.
use Rattle.std.proofs.Common.{eqb, ◌∙◌, arith, rules}
use Rattle.laws.proofs.Lists.{length_part}
use Rattle.model.specs.Layout.{bins, at_counts}
use Rattle.bank_sound.proofs.Checks.{used_of}
use Rattle.bank_sound.proofs.used_bins.Goals as goal

pub returns : goal.returns
returns c = c.count_of.ensures (λ x. eqb x 0) (λ x r b h. search rules) ∙ used_of c.args.chan.now _ (length_part at_counts bins c.args.chan.now (omega arith))
