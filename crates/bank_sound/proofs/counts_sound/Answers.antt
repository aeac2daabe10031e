use Rattle.std.proofs.Common.{sym, ap₂, ◌∙◌, arith, not, get_or}
use Rattle.laws.proofs.Counts.{flag}
use lib.Dec.{eqb}
use Rattle.model.specs.Layout.{at_filled}
use Rattle.bank_sound.proofs.Checks.{entry-below, counts-of-one, counts-sound}
use Rattle.bank_sound.proofs.Tallies.{sum-le, tallied-none}
use Rattle.bank_sound.proofs.counts_sound.Goals as goal

pub returns-then-of_one_bin : goal.returns-then-of_one_bin
returns-then-of_one_bin c =
    let l = c.args.chan.now in
    ap₂ eqb c.used_bins.ensures (c.from.ensures ∙ flag (not (eqb (get_or l at_filled 0) 0)))
    ∙ counts-of-one l (entry-below l 0 c.requires.chan_value (omega arith)) c.requires.chan_filled (omega arith) (sym c.of_one_bin.ensures ∙ c.if-of_one_bin.true)

pub count_all-requires : goal.count_all-requires
count_all-requires c = record { tallied = tallied-none c.args.chan.now }

pub joined-requires : goal.joined-requires
joined-requires c = λ b h. omega (arith, sum-le c.args.chan.now c.count_all.new.t _ b (omega arith) c.count_all.ensures h)

pub returns : goal.returns
returns c =
    let l = c.args.chan.now in
    c.as_tallied.ensures
    ∙ counts-sound l c.joined.result c.requires.chan_filled
    (λ b h. c.joined.ensures b h ∙ c.count_all.ensures.sums b h)
