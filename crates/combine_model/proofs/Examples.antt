-- The smallest examples, each by computing. Assumes nothing.
use Rattle.std.specs.Prelude.{Result, Ok, Err}
use mathlib.Core.Path.{◌≡◌, refl}
use mathlib.Core.Bool.{true, false}
use mathlib.Core.List.{List, [], ◌∷◌}
use Prim.Native.Nat.{ℕ}
use lib.Ieee.{of_bits, lt, is_nan}
use Rattle.log_model.specs.Format.{log_of, write_refusal, written, hop_at, map_of, pairs_of, pair_of}
use Rattle.low_first.specs.LowFirst.{low_bytes, without, low_two, low_four, low_eight}
use Rattle.laws.specs.Bits.{bit_at, number, bit_of, bytes_of}
use Rattle.log_model.specs.Read.{read_hop, read_in, header_refusal, start_refusal, hop_refusal, is_set, pair_at, unchanged}
use Rattle.laws.specs.Tests.{tally, any_below}
use Rattle.log_model.specs.Whole.{read_on}
use Rattle.laws.specs.Lists.{tab}
use Rattle.combine_model.specs.Choose.{is_second, selected}
use Rattle.combine_model.specs.Combined.{hop_count, db_chosen, power_chosen, combined}

-- powers 1 and 2, 2 and 1, 1 and 1
larger : is_second 0x3f800000 0x40000000 ≡ true
unfolding is_second of_bits lt is_nan
larger = refl

smaller : is_second 0x40000000 0x3f800000 ≡ false
unfolding is_second of_bits lt is_nan
smaller = refl

tie : is_second 0x3f800000 0x3f800000 ≡ false
unfolding is_second of_bits lt is_nan
tie = refl

-- zeros of either sign
minus-zero : is_second 0x80000000 0 ≡ false
unfolding is_second of_bits lt is_nan
minus-zero = refl

plus-zero : is_second 0 0x80000000 ≡ false
unfolding is_second of_bits lt is_nan
plus-zero = refl

-- a NaN against minus infinity, a number against a NaN, two NaNs
nan-loses : is_second 0x7fc00000 0xff800000 ≡ true
unfolding is_second of_bits lt is_nan
nan-loses = refl

number-stays : is_second 0xff800000 0x7fc00000 ≡ false
unfolding is_second of_bits lt is_nan
number-stays = refl

two-nans : is_second 0x7fc00001 0xffc00002 ≡ false
unfolding is_second of_bits lt is_nan
two-nans = refl

abbrev Answer : Type 0
Answer = Result ℕ ℕ × List ℕ

-- an empty log first
empty : ◌≡◌ {A = Answer} (combined [] (1 ∷ 0 ∷ []) (7 ∷ [])) (Err 10, 7 ∷ [])
unfolding combined hop_count read_on read_hop start_refusal header_refusal low_two
empty = refl

-- 13 only after both were read: 1 0 with 9 0 0
second-cut : ◌≡◌ {A = Answer} (combined (1 ∷ 0 ∷ []) (9 ∷ 0 ∷ 0 ∷ []) []) (Err 10, [])
unfolding combined hop_count read_on read_hop read_in start_refusal header_refusal hop_refusal low_two
second-cut = refl

-- 13 before 2
unequal : ◌≡◌ {A = Answer} (combined (1 ∷ 0 ∷ []) (9 ∷ 0 ∷ []) []) (Err 13, [])
unfolding combined hop_count read_on read_hop read_in start_refusal header_refusal hop_refusal low_two
unequal = refl

too_short : ◌≡◌ {A = Answer} (combined (1 ∷ 0 ∷ []) (1 ∷ 0 ∷ []) (7 ∷ [])) (Err 2, 7 ∷ [])
unfolding combined hop_count read_on read_hop read_in start_refusal header_refusal hop_refusal low_two db_chosen power_chosen selected written write_refusal log_of low_bytes without
too_short = refl

-- one hop of one channel, dB bits 5 and 6, powers 1 and 2: the second's pair, and the bytes after the result stay
picks : ◌≡◌ {A = Answer}
    (combined (1 ∷ 0 ∷ 1 ∷ 5 ∷ 0 ∷ 0 ∷ 0 ∷ 0 ∷ 0 ∷ 0 ∷ 0 ∷ 0 ∷ 0 ∷ 128 ∷ 63 ∷ []) (1 ∷ 0 ∷ 1 ∷ 6 ∷ 0 ∷ 0 ∷ 0 ∷ 0 ∷ 0 ∷ 0 ∷ 0 ∷ 0 ∷ 0 ∷ 0 ∷ 64 ∷ []) (tab 16 (λ _. 9)))
    (Ok 15, 1 ∷ 0 ∷ 1 ∷ 6 ∷ 0 ∷ 0 ∷ 0 ∷ 0 ∷ 0 ∷ 0 ∷ 0 ∷ 0 ∷ 0 ∷ 0 ∷ 64 ∷ 9 ∷ [])
unfolding combined hop_count read_on read_hop read_in start_refusal header_refusal hop_refusal is_set bit_of bit_at tally pair_at unchanged any_below low_two low_four low_eight db_chosen power_chosen selected is_second of_bits lt is_nan written write_refusal log_of hop_at map_of pairs_of pair_of bytes_of number low_bytes without
picks = refl
