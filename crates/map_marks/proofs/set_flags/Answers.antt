-- `map_marks::set_flags`: one byte of flags more.
use Rattle.std.proofs.Common.{◌≡◌, ◌≤◌, ◌+◌, ◌-◌, ◌*◌, ℕ, length, get_or, min, ap, ◌∙◌, arith}
use lib.Bits.{bit_or}
use Rattle.laws.proofs.Fills.{begins, unwritten, turns, done}
use Rattle.map_marks.proofs.Marks.{of_part, byte-set, flags-set}
use Rattle.map_marks.proofs.set_flags.Invariants.{byte_of}
use Rattle.map_marks.proofs.set_flags.Goals as goal

pub loop-i-init : goal.loop-i-init
loop-i-init c = record { set = begins _ _; bytes = λ k. omega (arith, c.type_inv.flags k) }

pub loop-i-preserved : goal.loop-i-preserved
loop-i-preserved c =
    let f = c.args.flags.now in
    let m = c.args.marks.now in
    let i = c.loop-i.i in
    let b = c.gathered.result in
    let to : c.min-to.result ≡ min (8 * i + 8) (length m) = omega arith in
    let on : 8 * i ≤ c.min-to.result = omega arith in
    record {
      set =
          turns f (byte_of f m) i c.loop-i.flags (bit_or (get_or c.loop-i.flags i 0) b) c.loop-i.invariant.set (omega arith)
          (ap (λ (x : ℕ). bit_or x b) (unwritten f (byte_of f m) i c.loop-i.flags 0 0 c.loop-i.invariant.set (omega arith))
          ∙ byte-set f m i c.min-to.result b to on (c.gathered.ensures ∙ of_part m (8 * i) (c.min-to.result - 8 * i) (omega arith)) (c.loop-i.invariant.bytes i));
      bytes = c.loop-i.invariant.bytes;
    }

pub returns : goal.returns
returns c =
    let f = c.args.flags.now in
    let m = c.args.marks.now in
    flags-set f m c.loop-i.flags (done f (byte_of f m) c.loop-i.i c.loop-i.flags c.loop-i.invariant.set (omega arith))
