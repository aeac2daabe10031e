-- Document 01, "Windows, ladder, gate": the ladder, which stands in for powf; document 02, R-5: rounded upward.
use Rattle.std.specs.Prelude.{◌≡◌, refl, Bool, true, false, cond, ◌&&◌, List, [], ◌∷◌, ℕ, suc, ◌+◌, ◌-◌, ◌*◌, ◌/◌, ◌%◌, ◌^◌, min, leb, ltb, get_or, pos, Float}
use Rattle.std.specs.Float.{nan, inf, fin, binary64}
use Rattle.std.specs.Float.Ieee.{up, down, neg, mul, lt, is_nan, of_int, of_bits, round}
use Rattle.laws.specs.Tests.{all_below}
use Rattle.model.specs.Layout.{ladder_min, ladder_max, rungs_below, rungs_above, zero_ten}
use Rattle.model.specs.Ring.{floor_held}

-- T: 80 whole numbers
abbrev pub roots : List ℕ
roots = 1000000000 ∷ 1029200527 ∷ 1059253725 ∷ 1090184492 ∷ 1122018454 ∷ 1154781984 ∷ 1188502227 ∷ 1223207119 ∷ 1258925411 ∷ 1295686697 ∷ 1333521432 ∷ 1372460961 ∷ 1412537544 ∷ 1453784385 ∷ 1496235656 ∷ 1539926526 ∷ 1584893192 ∷ 1631172909 ∷ 1678804018 ∷ 1727825980 ∷ 1778279410 ∷ 1830206106 ∷ 1883649089 ∷ 1938652635 ∷ 1995262314 ∷ 2053525026 ∷ 2113489039 ∷ 2175204034 ∷ 2238721138 ∷ 2304092976 ∷ 2371373705 ∷ 2440619068 ∷ 2511886431 ∷ 2585234839 ∷ 2660725059 ∷ 2738419634 ∷ 2818382931 ∷ 2900681198 ∷ 2985382618 ∷ 3072557365 ∷ 3162277660 ∷ 3254617834 ∷ 3349654391 ∷ 3447466065 ∷ 3548133892 ∷ 3651741272 ∷ 3758374042 ∷ 3868120546 ∷ 3981071705 ∷ 4097321098 ∷ 4216965034 ∷ 4340102636 ∷ 4466835921 ∷ 4597269885 ∷ 4731512589 ∷ 4869675251 ∷ 5011872336 ∷ 5158221650 ∷ 5308844442 ∷ 5463865498 ∷ 5623413251 ∷ 5787619883 ∷ 5956621435 ∷ 6130557921 ∷ 6309573444 ∷ 6493816315 ∷ 6683439175 ∷ 6878599123 ∷ 7079457843 ∷ 7286181745 ∷ 7498942093 ∷ 7717915155 ∷ 7943282347 ∷ 8175230379 ∷ 8413951416 ∷ 8659643233 ∷ 8912509381 ∷ 9172759353 ∷ 9440608762 ∷ 9716279515 ∷ []

unfoldable pub root_of : ℕ → ℕ
root_of j = get_or roots j 0

-- t is the largest whole t with t^80 <= 10^(720 + j)
abbrev pub is_root : ℕ → ℕ → Bool
is_root j t = leb (t ^ 80) (10 ^ (720 + j)) && ltb (10 ^ (720 + j)) (suc t ^ 80)

-- T's power rule, by one test over its 80 entries
pub roots_right : all_below 80 (λ j. is_root j (root_of j)) ≡ true
unfolding all_below root_of
roots_right = refl

-- the literal of 10^(q - zero_ten)
unfoldable pub ten_to : ℕ → Float
ten_to q = cond (ltb q zero_ten) (round binary64 false 1 (10 ^ (zero_ten - q))) (round binary64 false (10 ^ (q - zero_ten)) 1)

abbrev pub f8 : Float
f8 = of_bits binary64 0x4020_0000_0000_0000

f8_is : f8 ≡ round binary64 false 8 1
unfolding of_bits round
f8_is = refl

-- s held to ladder_min..ladder_max
abbrev pub held : Float → Float
held s = cond (lt s ladder_min) ladder_min (cond (lt ladder_max s) ladder_max s)

-- the least whole number not below x, held to 0..top; NaN gives 0
unfoldable pub ceil_held : ℕ → Float → ℕ
ceil_held top nan = 0
ceil_held top (inf true) = 0
ceil_held top (inf false) = top
ceil_held top (fin true m e) = 0
ceil_held top (fin false m e) = min ((m * up e + (down e - 1)) / down e) top

-- R-5: i + rungs_below, where i is the least whole number not below z, for z from -rungsBelow to rungs_above. Below 0 that is what the floor of -z says
unfoldable pub rung : Float → ℕ
rung z = rungs_below + ceil_held rungs_above z - floor_held rungs_below (neg z)

-- T[j] times the literal of 10^(q - 9), rounded once, for the rung i + rungs_below = 80 (q + zero_ten - 9) + j
unfoldable pub rung_value : ℕ → Float
rung_value r = mul binary64 (of_int binary64 (pos (root_of (r % 80)))) (ten_to (r / 80))

-- R-5: the smallest eighth not below s, so i is the least whole number not below 8s: 8 × s is exact. A NaN s gives NaN
unfoldable pub ladder : Float → Float
ladder s = cond (is_nan s) nan (rung_value (rung (mul binary64 f8 (held s))))
