-- The bit as the byte's digit, and the byte and the digit of bit 8 * at + k.
use Rattle.std.proofs.Common.{◌≡◌, ◌∙◌, ◌+◌, ◌*◌, ◌/◌, ◌%◌, ℕ, get_or, arith}
use mathlib.Core.Path.{ap₂}
use Rattle.laws.specs.Bits.{bit_at, bit_of}
use Rattle.laws.proofs.Bits.{bit-shift}
use Rattle.log_model.specs.Read.{is_set}
use Rattle.log_read.proofs.is_set.Goals as goal

pub returns : goal.returns
unfolding is_set bit_of
returns c =
    let a = c.args in
    bit-shift (get_or a.log.now (a.at + a.k / 8) 0) (a.k % 8)
    ∙ ap₂ (λ (i j : ℕ). bit_at (get_or a.log.now i 0) j) (let z : a.at + a.k / 8 ≡ (8 * a.at + a.k) / 8 = omega arith in z)
    (let z : a.k % 8 ≡ (8 * a.at + a.k) % 8 = omega arith in z)
