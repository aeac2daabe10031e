-- The map and behind it the pairs.
use Rattle.std.proofs.Common.{◌∙◌, ◌+◌, arith}
use Rattle.laws.specs.Bits.{width}
use Rattle.log_model.specs.Format.{map_of, pairs_of}
use Rattle.log_model.proofs.Lengths.{length-map, length_pairs}
use Rattle.log_hops.specs.Hop.{marked, db_bits, power_bits}
use Rattle.log_hops.proofs.Puts.{put_next}
use Rattle.log_hops.proofs.lent.Pairs.put_hop.Goals as goal

pub returns-clause-log_after : goal.returns-clause-log_after
returns-clause-log_after c =
    let a = c.args in
    let s = a.self.now in
    let S = marked s a.from in
    let D = db_bits s a.from in
    let P = power_bits s a.from in
    c.put_pairs.ensures.log_after
    ∙ put_next a.at (a.at + c.div_ceil.result) (width s.n) (map_of s.n S) (pairs_of s.n S D P) a.log.now c.put_map.new.log (length-map s.n S) (omega arith)
    c.put_map.ensures (omega (arith, length_pairs S D P s.n))
