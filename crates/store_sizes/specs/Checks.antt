-- The refusals over sizes, on plain numbers.
use Rattle.std.specs.Prelude.{not, ◌||◌, ℕ}
use Rattle.laws.specs.Tests.{within, differ, first}
use Rattle.model.specs.Stores.{bank_len, bank_f_len}

-- the number `band` if n is outside 1..512; then 2 if a store's length isn't the one for n
abbrev pub size_refusal : ℕ → ℕ → ℕ → ℕ → ℕ
size_refusal band uLen fLen n = first (not (within 1 512 n)) band (first (differ uLen (bank_len n) || differ fLen (bank_f_len n)) 2 0)
