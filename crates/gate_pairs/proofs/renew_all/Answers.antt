-- `gate_pairs::renew_all`: channel after channel.
use Rattle.std.proofs.Common.{◌+◌, sym, subst, arith}
use Rattle.gate_pairs.proofs.Renewals.{Upto, upto-begins, upto-turns, upto_done}
use Rattle.gate_pairs.proofs.renew_all.Goals as goal

pub loop-k-init : goal.loop-k-init
loop-k-init c = upto-begins c.args.pairs.now c.args.rise.now c.args.on c.requires

pub loop-k-preserved : goal.loop-k-preserved
loop-k-preserved c =
    subst (Upto c.args.pairs.now c.args.rise.now c.args.on (c.loop-k.k + 1)) (sym c.renew.ensures)
    (upto-turns c.args.pairs.now c.args.rise.now c.args.on c.requires c.loop-k.k c.loop-k.pairs c.loop-k.invariant (omega arith))

pub returns : goal.returns
returns c = upto_done c.args.pairs.now c.args.rise.now c.args.on c.requires c.loop-k.k c.loop-k.pairs c.loop-k.invariant (omega arith)
