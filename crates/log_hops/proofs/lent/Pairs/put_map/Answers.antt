-- There are at most 64 bytes.
use Rattle.std.proofs.Common.{◌-◌, ◌+◌, arith}
use Rattle.laws.specs.Bits.{width, bytes_of}
use Rattle.laws.proofs.Fills.{begins, turns}
use Rattle.log_model.specs.Format.{map_of}
use Rattle.log_hops.proofs.Puts.{put-part}
use Rattle.log_hops.proofs.lent.Pairs.put_map.Goals as goal

pub loop-b-init : goal.loop-b-init
loop-b-init c = begins _ _

pub loop-b-preserved : goal.loop-b-preserved
loop-b-preserved c =
    let l = c.loop-b in
    turns _ _ l.b l.byte-items _ l.invariant (omega arith) c.map_byte.ensures

pub returns : goal.returns
unfolding map_of bytes_of
returns c =
    let a = c.args in
    let l = c.loop-b in
    put-part a.at (a.at + c.div_ceil-width.result - a.at) (width a.self.now.n) l.b a.log.now l.byte-items _ (omega arith) (omega arith) l.invariant (omega arith)
