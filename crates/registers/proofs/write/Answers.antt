use Rattle.std.proofs.Common.{◌∙◌, ap, ℕ, ◌-◌, ◌*◌, get_or, arith}
use Rattle.std.specs.Int.Bits.{bit_and}
use Rattle.model.specs.Map.{replaced}
use Rattle.registers.proofs.Written.{clear-is, replace-is, written-flag, written-mask}
use Rattle.registers.proofs.write.Goals as goal

pub returns-then-address-masks : goal.returns-then-address-masks
returns-then-address-masks c =
    let m = c.args.map.now in
    let a = c.args.address in
    written-flag c.args.n m a c.args.value (bit_and (get_or m a 0) (255 - c.args.value)) (omega arith)
    (clear-is (get_or m a 0) c.args.value (c.slice_known-1.given a).fits c.ranges.value.fits)

pub returns : goal.returns
returns c =
    let m = c.args.map.now in
    let a = c.args.address in
    let w = c.div_ceil-masks.result in
    written-mask c.args.n m a c.args.value (bit_and c.args.value c.low.result) (omega arith)
    (replace-is c.args.n (a - 2 * w) c.args.value c.min-used.result c.low.result (omega arith) (omega arith) c.low.ensures c.ranges.value.fits
    ∙ ap (λ (i : ℕ). replaced c.args.n i c.args.value) (omega arith))
