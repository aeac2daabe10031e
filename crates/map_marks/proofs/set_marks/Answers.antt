-- `map_marks::set_marks`: one group of flags after the other.
use Rattle.std.proofs.Common.{◌≡◌, ◌+◌, ◌-◌, ℕ, length, arith}
use Rattle.laws.specs.Bits.{width}
use Rattle.map_marks.proofs.Marks.{marks-set-by}
use Rattle.map_marks.proofs.set_marks.Goals as goal

pub returns : goal.returns
returns c =
    let w = c.div_ceil-w.result in
    let n : ℕ = length c.args.rise.now in
    let e : w ≡ width n = omega arith in
    marks-set-by n c.args.map.now c.args.rise.now c.args.drop.now c.set_flags.new.flags c.set_flags-2.new.flags w (w - 0) (w + w - w)
    e (omega arith) (omega arith) c.requires.0 c.set_flags.ensures c.set_flags-2.ensures
