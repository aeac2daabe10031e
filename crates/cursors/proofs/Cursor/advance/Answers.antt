-- The place turns as the remainder has it, whether it wrapped or not, and `filled` grows up to 2m. Assumes nothing.
use Rattle.std.proofs.Common.{◌≡◌, ◌+◌, ◌*◌, arith}
use Rattle.model.specs.Windows.{turned, grown}
use Rattle.cursors.proofs.Wraps.{within, past}
use Rattle.cursors.proofs.Cursor.advance.Goals as goal
use Rattle.cursors.proofs.Cursor.advance.Goals.{then-next-width, else-next-width}

pub returns : goal.returns
returns c =
    let s = c.args.self in
    let at : c.if-next-width.at ≡ turned s.m s.at =
    elim c.if-next-width.branch [
      | then-next-width w ↦ omega (arith, past (2 * s.m) (s.at + 1) (omega arith) (omega arith))
      | else-next-width w ↦ omega (arith, within (2 * s.m) (s.at + 1) (omega arith))
    ] in
    let filled : c.min.result ≡ grown s.m s.filled = omega (arith, c.min.ensures) in
    λ i. record { m = s.m; at = at i; filled = filled i }
