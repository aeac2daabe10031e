-- Nine channels, worked out: w = 2, so a map has six bytes, and channel 8 is the lowest bit of the second. Assumes nothing.
use mathlib.Core.Path.{◌≡◌, refl}
use mathlib.Core.Bool.{true, false}
use mathlib.Core.List.{List, [], ◌∷◌}
use Prim.Native.Nat.{ℕ}
use lib.ListN.{replicate}
use Rattle.laws.specs.Tests.{all_below, any_below}
use Rattle.laws.specs.Bits.{bit_at, number, bit_of, bytes_of}
use Rattle.model.specs.Map.{rise_flag, drop_flag, mask_bit, wire, sound_map, fresh_map, flags_set, marks_set, cleared, replaced, written}
use Rattle.model.specs.GateStores.{sound_gate}
use Rattle.model.specs.GateCalls.{gate_refusal}
use Rattle.model.specs.MapCalls.{map_refusal, address_refusal, after_gate}

none : List ℕ
none = 0 ∷ 0 ∷ 0 ∷ 0 ∷ 0 ∷ 0 ∷ 0 ∷ 0 ∷ 0 ∷ []

-- channels 0, 3 and 8 rise, 1 drops; a 2 is no mark
after-marks : marks_set 9 (fresh_map 9) (1 ∷ 0 ∷ 2 ∷ 1 ∷ 0 ∷ 0 ∷ 0 ∷ 0 ∷ 1 ∷ []) (0 ∷ 1 ∷ 0 ∷ 0 ∷ 0 ∷ 0 ∷ 0 ∷ 0 ∷ 0 ∷ []) ≡ 9 ∷ 1 ∷ 2 ∷ 0 ∷ 0 ∷ 0 ∷ []
unfolding fresh_map marks_set flags_set bytes_of bit_of bit_at number
after-marks = refl

-- no marks: nothing changes
no-marks : marks_set 9 (9 ∷ 1 ∷ 2 ∷ 0 ∷ 5 ∷ 1 ∷ []) none none ≡ 9 ∷ 1 ∷ 2 ∷ 0 ∷ 5 ∷ 1 ∷ []
unfolding none marks_set flags_set bytes_of bit_of bit_at number
no-marks = refl

-- 1 written to the first flag byte clears channel 0 alone; 255 to the second mask byte leaves bit 0
clear-one : written 9 (9 ∷ 1 ∷ 2 ∷ 0 ∷ 0 ∷ 0 ∷ []) 0 1 ≡ 8 ∷ 1 ∷ 2 ∷ 0 ∷ 0 ∷ 0 ∷ []
unfolding written cleared bit_at number
clear-one = refl

mask-all : written 9 (9 ∷ 1 ∷ 2 ∷ 0 ∷ 0 ∷ 0 ∷ []) 5 255 ≡ 9 ∷ 1 ∷ 2 ∷ 0 ∷ 0 ∷ 1 ∷ []
unfolding written replaced bit_at number
mask-all = refl

-- the wire, with the mask of channel 8, and with that of channel 2, which has no flag
up : wire 9 (9 ∷ 1 ∷ 2 ∷ 0 ∷ 0 ∷ 1 ∷ []) ≡ true
unfolding wire any_below rise_flag drop_flag mask_bit bit_of bit_at
up = refl

down : wire 9 (9 ∷ 1 ∷ 2 ∷ 0 ∷ 4 ∷ 0 ∷ []) ≡ false
unfolding wire any_below rise_flag drop_flag mask_bit bit_of bit_at
down = refl

-- a seventh byte 2; a bit past n, with an address past the end, 9; the address alone 15
seven : map_refusal 9 (9 ∷ 1 ∷ 2 ∷ 0 ∷ 0 ∷ 1 ∷ 0 ∷ []) ≡ 2
unfolding map_refusal sound_map all_below rise_flag drop_flag mask_bit bit_of bit_at
seven = refl

past : address_refusal 9 (9 ∷ 1 ∷ 2 ∷ 0 ∷ 0 ∷ 3 ∷ []) 6 ≡ 9
unfolding address_refusal map_refusal sound_map all_below rise_flag drop_flag mask_bit bit_of bit_at
past = refl

sixth : address_refusal 9 (9 ∷ 1 ∷ 2 ∷ 0 ∷ 0 ∷ 1 ∷ []) 6 ≡ 15
unfolding address_refusal map_refusal sound_map all_below rise_flag drop_flag mask_bit bit_of bit_at
sixth = refl

-- a gate of zeros is unsound: 9, before the map is seen to be a byte too long
gate-first : after_gate (replicate 30 0) [] (λ n. map_refusal n (1 ∷ [])) ≡ 9
unfolding gate_refusal sound_gate map_refusal
gate-first = refl
