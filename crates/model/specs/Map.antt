-- Document 02, R-12: the registers that the main processor reads and writes. For w = ceil(n / 8) a map is w bytes of rise flags, w of drop
-- flags and w of mask, channel 0 in the lowest bit of the first byte of each.
use Rattle.std.specs.Prelude.{Bool, not, cond, ◌&&◌, ◌||◌, List, ◌++◌, ℕ, ◌+◌, ◌-◌, ◌*◌, eqb, ltb, length, get_or, set, replicate}
use Rattle.laws.specs.Lists.{part}
use Rattle.laws.specs.Tests.{all_below, any_below}
use Rattle.laws.specs.Bits.{bit_at, byte, width, bit_of, bytes_of}

-- ---- read

abbrev pub map_long : ℕ → ℕ
map_long n = 3 * width n

-- the flags and the mask bit of channel k, each in its group of w bytes
unfoldable pub rise_flag : ℕ → List ℕ → ℕ → Bool
rise_flag n m k = bit_of m k

unfoldable pub drop_flag : ℕ → List ℕ → ℕ → Bool
drop_flag n m k = bit_of m (8 * width n + k)

unfoldable pub mask_bit : ℕ → List ℕ → ℕ → Bool
mask_bit n m k = bit_of m (8 * (width n + width n) + k)

-- the wire is up when some flag and its channel's mask bit are both 1
unfoldable pub wire : ℕ → List ℕ → Bool
wire n m = any_below n (λ k. (rise_flag n m k || drop_flag n m k) && mask_bit n m k)

-- ---- sound: no bit past n set

abbrev pub none_past : ℕ → (ℕ → Bool) → Bool
none_past n p = all_below (8 * width n) (λ k. ltb k n || not (p k))

unfoldable pub sound_map : ℕ → List ℕ → Bool
sound_map n m = none_past n (rise_flag n m) && none_past n (drop_flag n m) && none_past n (mask_bit n m)

-- ---- written

-- a new map is all 0
unfoldable pub fresh_map : ℕ → List ℕ
fresh_map n = replicate (map_long n) 0

-- the mark of channel k is 1
abbrev pub marked : List ℕ → ℕ → Bool
marked marks k = eqb (get_or marks k 0) 1

-- a group of flags: the flag of every mark that is 1 is set, and no other bit changes
unfoldable pub flags_set : List ℕ → List ℕ → List ℕ
flags_set flags marks = bytes_of (length flags) (λ k. bit_of flags k || marked marks k)

-- a map after the marks of an update or a hold
unfoldable pub marks_set : ℕ → List ℕ → List ℕ → List ℕ → List ℕ
marks_set n m rise drop = let w = width n in
    flags_set (part 0 w m) rise ++ (flags_set (part w w m) drop ++ part (w + w) w m)

-- writing a flag byte clears the bits written as 1
unfoldable pub cleared : ℕ → ℕ → ℕ
cleared b v = byte (λ j. bit_at b j && not (bit_at v j))

-- writing mask byte i replaces it; bits past n stay 0
unfoldable pub replaced : ℕ → ℕ → ℕ → ℕ
replaced n i v = byte (λ j. ltb (8 * i + j) n && bit_at v j)

-- a map after v was written at address a
unfoldable pub written : ℕ → List ℕ → ℕ → ℕ → List ℕ
written n m a v = let w = width n in
    set m a (cond (ltb a (w + w)) (cleared (get_or m a 0) v) (replaced n (a - (w + w)) v))
