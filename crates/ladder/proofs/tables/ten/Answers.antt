-- The literals are the table of `ten_to`, by computing both. Assumes nothing.
use lib.Ieee.{nan, of_bits, round}
use Rattle.laws.proofs.Tabs.{get_d-tab}
use Rattle.model.specs.Layout.{tens_len}
use Rattle.model.specs.Ladder.{ten_to}
use Rattle.ladder.proofs.tables.ten.Goals as goal

pub returns : goal.returns
unfolding of_bits round ten_to
returns c = get_d-tab tens_len ten_to c.args.q nan c.requires
