-- Bits in bytes: bit 0 is the lowest bit of the first byte. The order of document 02's R-1, and of R-12 by it.
use Rattle.std.specs.Prelude.{Bool, List, ℕ, zero, suc, ◌+◌, ◌*◌, ◌/◌, ◌%◌, eqb, get_or}
use Rattle.laws.specs.Lists.{tab, one}

-- bit j of a number, the lowest being bit 0
unfoldable pub bit_at : ℕ → ℕ → Bool
bit_at x zero = eqb (x % 2) 1
bit_at x (suc j) = bit_at (x / 2) j

-- the number of c bits that are p 0, p 1, .., the lowest first
unfoldable pub number : ℕ → (ℕ → Bool) → ℕ
number zero p = 0
number (suc c) p = number c (λ j. p (suc j)) * 2 + one (p 0)

-- a byte of eight bits
abbrev pub byte : (ℕ → Bool) → ℕ
byte p = number 8 p

-- the bytes that n bits take: ceil(n / 8)
abbrev pub width : ℕ → ℕ
width n = (n + 7) / 8

-- bit k of a list of bytes
unfoldable pub bit_of : List ℕ → ℕ → Bool
bit_of l k = bit_at (get_or l (k / 8) 0) (k % 8)

-- w bytes whose bit k is p k
unfoldable pub bytes_of : ℕ → (ℕ → Bool) → List ℕ
bytes_of w p = tab w (λ i. byte (λ j. p (8 * i + j)))
