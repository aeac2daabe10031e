-- Readings of document 02 that were found sound, by their smallest examples, computed. No proof cites them: they show a reader what its words come to.
-- Assumes nothing.
use Rattle.std.specs.Prelude.{Some, None, Ok, Err}
use mathlib.Core.Path.{◌≡◌, refl}
use mathlib.Core.List.{List, [], ◌∷◌, ◌++◌}
use Prim.Native.Nat.{ℕ}
use Rattle.laws.specs.Lists.{tab}
use Rattle.laws.specs.Tests.{any_below, tally}
use Rattle.laws.specs.Bits.{bit_at, number, bit_of, bytes_of}
use Rattle.low_first.specs.LowFirst.{without, low_bytes, low_two, low_four, low_eight}
use Rattle.log_model.specs.Format.{map_of, pair_of, pairs_of, hop_at, log_of}
use Rattle.log_model.specs.Read.{is_set, pair_at, unchanged, header_refusal, start_refusal, hop_refusal, read_in, read_hop}

abbrev pub zeros : ℕ → List ℕ
zeros n = tab n (λ _. 0)

-- slices are taken as lent at every position
pub as_lent : read_hop (1 ∷ 0 ∷ 1 ∷ zeros 12) 2 (5 ∷ []) (0 ∷ []) ≡ (Ok (Some 15), 0 ∷ [], 0 ∷ [])
unfolding read_hop start_refusal header_refusal read_in hop_refusal is_set bit_of bit_at tally pair_at unchanged any_below low_two low_four low_eight
as_lent = refl

-- cut pairs of the whole hop come before an unchanged pair
pub cut-first : read_hop (2 ∷ 0 ∷ 3 ∷ zeros 12) 2 (0 ∷ 0 ∷ []) (0 ∷ 0 ∷ []) ≡ (Err 10, 0 ∷ 0 ∷ [], 0 ∷ 0 ∷ [])
unfolding read_hop start_refusal header_refusal read_in hop_refusal is_set bit_of bit_at tally pair_at unchanged any_below low_two low_four low_eight
cut-first = refl

pub unchanged-refused : read_hop (1 ∷ 0 ∷ 1 ∷ zeros 12) 2 (0 ∷ []) (0 ∷ []) ≡ (Err 11, 0 ∷ [], 0 ∷ [])
unfolding read_hop start_refusal header_refusal read_in hop_refusal is_set bit_of bit_at tally pair_at unchanged any_below low_two low_four low_eight
unchanged-refused = refl

-- nothing is written up to the fault: the first of two pairs changed, the second did not
pub nothing_written : read_hop (2 ∷ 0 ∷ 3 ∷ 5 ∷ zeros 23) 2 (0 ∷ 0 ∷ []) (0 ∷ 0 ∷ []) ≡ (Err 11, 0 ∷ 0 ∷ [], 0 ∷ 0 ∷ [])
unfolding read_hop start_refusal header_refusal read_in hop_refusal is_set bit_of bit_at tally pair_at unchanged any_below low_two low_four low_eight
nothing_written = refl

-- a bit past n
pub past-refused : read_hop (1 ∷ 0 ∷ 2 ∷ []) 2 (0 ∷ []) (0 ∷ []) ≡ (Err 11, 0 ∷ [], 0 ∷ [])
unfolding read_hop start_refusal header_refusal read_in hop_refusal is_set bit_of bit_at tally pair_at unchanged any_below low_two
past-refused = refl

-- one read looks at its own hop only
pub own-hop : read_hop (1 ∷ 0 ∷ 0 ∷ 1 ∷ []) 2 (0 ∷ []) (0 ∷ []) ≡ (Ok (Some 3), 0 ∷ [], 0 ∷ [])
unfolding read_hop start_refusal header_refusal read_in hop_refusal is_set bit_of bit_at tally pair_at unchanged any_below low_two
own-hop = refl

pub next-hop : read_hop (1 ∷ 0 ∷ 0 ∷ 1 ∷ []) 3 (0 ∷ []) (0 ∷ []) ≡ (Err 10, 0 ∷ [], 0 ∷ [])
unfolding read_hop start_refusal header_refusal read_in hop_refusal is_set bit_of bit_at tally pair_at unchanged any_below low_two
next-hop = refl

-- at the length it says "end"
pub at-the-end : read_hop (1 ∷ 0 ∷ []) 2 (0 ∷ []) (0 ∷ []) ≡ (Ok None, 0 ∷ [], 0 ∷ [])
unfolding read_hop start_refusal header_refusal low_two
at-the-end = refl

-- no hops: a log of two bytes
pub no-hops : log_of 1 [] [] ≡ 1 ∷ 0 ∷ []
unfolding log_of low_bytes without
no-hops = refl

-- two hops of nine channels: the last channel alone, then the first's power alone
pub two-hops : log_of 9 (zeros 8 ++ (258 ∷ (zeros 8 ++ (258 ∷ [])))) (zeros 9 ++ (3 ∷ zeros 8))
    ≡ 9 ∷ 0 ∷ 0 ∷ 1 ∷ 2 ∷ 1 ∷ zeros 10 ++ (1 ∷ 0 ∷ zeros 8 ++ (3 ∷ 0 ∷ 0 ∷ 0 ∷ []))
unfolding log_of hop_at map_of pairs_of pair_of bytes_of number low_bytes without
two-hops = refl
