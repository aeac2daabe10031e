-- Document 01, the refusals and their order. 0 is no refusal.
use Rattle.std.specs.Prelude.{Bool, not, ◌&&◌, ◌||◌, List, ℕ, ◌-◌, ◌*◌, ◌/◌, min, eqb, ltb, length, get_or, Float}
use Rattle.std.specs.Float.Ieee.{is_nan}
use Rattle.laws.specs.Tests.{any_below, within, differ, first}
use Rattle.model.specs.Numbers.{f0}
use Rattle.model.specs.Layout.{block_channels}
use Rattle.model.specs.Stores.{bank_len, bank_f_len, bank_of, sound_bank}

-- 1: n outside 1..512 at making; 2: a store's length isn't the one for n
unfoldable pub make_refusal : ℕ → ℕ → ℕ → ℕ
make_refusal uLen fLen n = first (not (within 1 512 n)) 1 (first (differ uLen (bank_len n) || differ fLen (bank_f_len n)) 2 0)

-- within a bank: u16 shorter than 3 gives 2, header n outside 1..512 gives 9, lengths 2, the rest 9
unfoldable pub bank_refusal : List ℕ → List Float → ℕ
bank_refusal u f =
    let n = get_or u 0 0 in
    first (ltb (length u) 3) 2
    (first (not (within 1 512 n)) 9
    (first (differ (length u) (bank_len n) || differ (length f) (bank_f_len n)) 2
    (first (not (sound_bank (bank_of u f))) 9
    0)))

-- the channels of block i of n
abbrev pub block_size : ℕ → ℕ → ℕ
block_size n i = min block_channels (n - block_channels * i)

-- a NaN dB in a block of two or more channels
unfoldable pub garbled : ℕ → List Float → Bool
garbled n db = any_below n (λ k. is_nan (get_or db k f0) && ltb 1 (block_size n (k / block_channels)))

-- a bank update: the store, then 5 if a hop slice isn't n long, then 6 on a slow hop
unfoldable pub update_refusal : List ℕ → List Float → List Float → List Float → ℕ
update_refusal u f db power =
    let n = get_or u 0 0 in
    first (not (eqb (bank_refusal u f) 0)) (bank_refusal u f)
    (first (differ (length db) n || differ (length power) n) 5
    (first (eqb (get_or u 1 0) 0 && garbled n db) 6
    0))

-- a reading of channel k: the store, then 7 if k is n or more
unfoldable pub read_refusal : List ℕ → List Float → ℕ → ℕ
read_refusal u f k = first (not (eqb (bank_refusal u f) 0)) (bank_refusal u f) (first (not (ltb k (get_or u 0 0))) 7 0)
