use Rattle.std.proofs.Common.{arith}
use Rattle.laws.proofs.Lists.{width, length_part}
use Rattle.model.specs.Layout.{channel_len}
use Rattle.model.proofs.Bins.{bin-below}
use Rattle.bank_pushes.proofs.push_at.Goals as goal

pub push_into-requires-clause-part_len : goal.push_into-requires-clause-part_len
push_into-requires-clause-part_len c = rw (width c.args.a channel_len) (length_part c.args.a channel_len c.args.bank.now c.requires.channel_len_in_bounds)

pub push_into-requires-clause-sound : goal.push_into-requires-clause-sound
push_into-requires-clause-sound c = rw (width c.args.a channel_len) c.requires.sound

pub push_into-requires-clause-bin_lt_bins : goal.push_into-requires-clause-bin_lt_bins
push_into-requires-clause-bin_lt_bins c = omega (arith, c.bin_index-bin.ensures, bin-below c.args.p)

pub returns : goal.returns
returns c = simp (width c.args.a channel_len, c.push_into.ensures, c.bin_index-bin.ensures)
