-- Laws on the bits of numbers and of lists of bytes. Assumes nothing.
use mathlib.Core.Path.{◌≡◌, refl, sym, ap, ap₂, ◌∙◌}
use mathlib.Core.Bool.{Bool, true, false}
use mathlib.Core.List.{List, ◌++◌}
use Prim.Native.Nat.{ℕ, zero, suc, ◌+◌, ◌-◌, ◌*◌, ◌/◌, ◌%◌, ◌^◌, ◌<◌, ◌≤◌}
use native.Mathlib.Nat.{pow-suc, pow-succ', div-one, div-div-eq-div-mul}
use native.Mathlib.Omega.{arith}
use lib.Dec.{eqb}
use lib.ListN.{length, get_or, get_or-append}
use lib.Pow.{pow_mono}
use lib.Seq.{ext_get_or, get_or-append-add}
use Rattle.laws.specs.Lists.{part, tab, one}
use Rattle.laws.specs.Bits.{bit_at, number, byte, bit_of, bytes_of}
use Rattle.laws.proofs.Lists.{get_d_part}
use Rattle.laws.proofs.Tabs.{length-tab, get_d-tab, tab-ext}

-- ---- one digit

-- a digit as a test and back
one-odd : (d : ℕ) → d < 2 → one (eqb d 1) ≡ d
one-odd zero h = refl
one-odd (suc zero) h = refl
one-odd (suc (suc d)) h = absurd (omega arith)

odd-one : (b : Bool) → eqb (one b) 1 ≡ b
odd-one true = refl
odd-one false = refl

pub one-lt : (b : Bool) → one b < 2
one-lt true = omega arith
one-lt false = omega arith

-- the lowest digit and the rest of them, of a number put together
pub low_of : (x r d : ℕ) → x ≡ r * 2 + d → d < 2 → x % 2 ≡ d
low_of x r d e h = omega arith

pub rest_of : (x r d : ℕ) → x ≡ r * 2 + d → d < 2 → x / 2 ≡ r
rest_of x r d e h = omega arith

-- ---- a number and its bits

-- a number is made of its bits
pub number-bits : (c x : ℕ) → x < 2 ^ c → number c (bit_at x) ≡ x
unfolding number bit_at
number-bits zero x h = omega arith
number-bits (suc c) x h =
    omega (arith, number-bits c (x / 2) (omega (arith, pow-suc 2 c)), one-odd (x % 2) (omega arith))

pub number_same : (c : ℕ) (p q : ℕ → Bool) → ((j : ℕ) → j < c → p j ≡ q j) → number c p ≡ number c q
unfolding number
number_same zero p q h = refl
number_same (suc c) p q h =
    ap₂ (λ (r : ℕ) (b : Bool). r * 2 + one b) (number_same c (λ j. p (suc j)) (λ j. q (suc j)) (λ j l. h (suc j) (omega arith))) (h 0 (omega arith))

pub number_lt : (c : ℕ) (p : ℕ → Bool) → number c p < 2 ^ c
unfolding number
number_lt zero p = omega arith
number_lt (suc c) p = omega (arith, number_lt c (λ j. p (suc j)), one-lt (p 0), pow-suc 2 c)

-- the bits that a number was made of
pub bits-number : (c : ℕ) (p : ℕ → Bool) (j : ℕ) → j < c → bit_at (number c p) j ≡ p j
unfolding number bit_at
bits-number zero p j h = absurd (omega arith)
bits-number (suc c) p zero h =
    ap (λ (d : ℕ). eqb d 1) (low_of (number (suc c) p) (number c (λ j. p (suc j))) (one (p 0)) refl (one-lt (p 0))) ∙ odd-one (p 0)
bits-number (suc c) p (suc j) h =
    ap (λ (x : ℕ). bit_at x j) (rest_of (number (suc c) p) (number c (λ j. p (suc j))) (one (p 0)) refl (one-lt (p 0)))
    ∙ bits-number c (λ j. p (suc j)) j (omega arith)

-- bit j as the code finds it
pub bit-shift : (x j : ℕ) → eqb (x / 2 ^ j % 2) 1 ≡ bit_at x j
unfolding bit_at
bit-shift x zero = ap (λ (v : ℕ). eqb (v % 2) 1) (div-one x)
bit-shift x (suc j) =
    ap (λ (d : ℕ). eqb (x / d % 2) 1) (pow-succ' 2 j)
    ∙ ap (λ (v : ℕ). eqb (v % 2) 1) (sym (div-div-eq-div-mul x 2 (2 ^ j)))
    ∙ bit-shift (x / 2) j

-- ---- lists of bytes

-- bit j of byte i
pub bit-at : (l : List ℕ) (i j : ℕ) → j < 8 → bit_of l (8 * i + j) ≡ bit_at (get_or l i 0) j
unfolding bit_of
bit-at l i j h = ap₂ (λ (a b : ℕ). bit_at (get_or l a 0) b) (omega arith) (omega arith)

-- the bits that bytes were made of
pub bits_of : (w : ℕ) (p : ℕ → Bool) (k : ℕ) → k < 8 * w → bit_of (bytes_of w p) k ≡ p k
unfolding bit_of bytes_of
bits_of w p k h =
    ap (λ (b : ℕ). bit_at b (k % 8)) (get_d-tab w (λ i. byte (λ j. p (8 * i + j))) (k / 8) 0 (omega arith))
    ∙ bits-number 8 (λ j. p (8 * (k / 8) + j)) (k % 8) (omega arith)
    ∙ ap p (omega arith)

pub long : (w : ℕ) (p : ℕ → Bool) → length (bytes_of w p) ≡ w
unfolding bytes_of
long w p = length-tab w (λ i. byte (λ j. p (8 * i + j)))

pub bytes_same : (w : ℕ) (p q : ℕ → Bool) → ((k : ℕ) → k < 8 * w → p k ≡ q k) → bytes_of w p ≡ bytes_of w q
unfolding bytes_of
bytes_same w p q h =
    tab-ext w (λ i. byte (λ j. p (8 * i + j))) (λ i. byte (λ j. q (8 * i + j)))
    (λ i l. number_same 8 (λ j. p (8 * i + j)) (λ j. q (8 * i + j)) (λ j m. h (8 * i + j) (omega arith)))

-- bytes are made of their bits
pub bytes_bits : (w : ℕ) (l : List ℕ) → length l ≡ w → ((i : ℕ) → i < w → get_or l i 0 < 256) → bytes_of w (bit_of l) ≡ l
unfolding bytes_of
bytes_bits w l e h =
    ext_get_or 0 (tab w (λ i. byte (λ j. bit_of l (8 * i + j)))) l (length-tab w (λ i. byte (λ j. bit_of l (8 * i + j))) ∙ sym e)
    (λ i k. let lt : i < w = omega (arith, length-tab w (λ i. byte (λ j. bit_of l (8 * i + j)))) in
    get_d-tab w (λ i. byte (λ j. bit_of l (8 * i + j))) i 0 lt
    ∙ number_same 8 (λ j. bit_of l (8 * i + j)) (bit_at (get_or l i 0)) (λ j g. bit-at l i j g)
    ∙ number-bits 8 (get_or l i 0) (h i lt))

-- bits of a part, and of a list behind another
pub bits-part : (a w : ℕ) (l : List ℕ) (k : ℕ) → k < 8 * w → bit_of (part a w l) k ≡ bit_of l (8 * a + k)
unfolding bit_of
bits-part a w l k h =
    ap (λ (b : ℕ). bit_at b (k % 8)) (get_d_part a w l (k / 8) 0 (omega arith))
    ∙ ap₂ (λ (i j : ℕ). bit_at (get_or l i 0) j) (omega arith) (omega arith)

pub bits-front : (l m : List ℕ) (k : ℕ) → k < 8 * length l → bit_of (l ++ m) k ≡ bit_of l k
unfolding bit_of
bits-front l m k h = ap (λ (b : ℕ). bit_at b (k % 8)) (get_or-append l m 0 (k / 8) (omega arith))

pub bits-behind : (l m : List ℕ) (w k : ℕ) → length l ≡ w → bit_of (l ++ m) (8 * w + k) ≡ bit_of m k
unfolding bit_of
bits-behind l m w k e =
    ap₂ (λ (i j : ℕ). bit_at (get_or (l ++ m) i 0) j) (let z : (8 * w + k) / 8 ≡ length l + k / 8 = omega arith in z) (let z : (8 * w + k) % 8 ≡ k % 8 = omega arith in z)
    ∙ ap (λ (b : ℕ). bit_at b (k % 8)) (get_or-append-add l m (k / 8) 0)

-- ---- what the code does

-- a loop that gathers bits from the last to the first: bit k - 1 joins those from k on
pub gather-turn : (p : ℕ → Bool) (to k b d : ℕ) → 0 < k → k ≤ to → b ≡ number (to - k) (λ j. p (k + j)) → d ≡ one (p (k - 1))
    → b * 2 + d ≡ number (to - (k - 1)) (λ j. p (k - 1 + j))
unfolding number
gather-turn p to k b d h g e f =
    ap₂ (λ (r s : ℕ). r * 2 + s)
    (e ∙ number_same (to - k) (λ j. p (k + j)) (λ j. p (k - 1 + suc j)) (λ j l. ap p (omega arith)))
    (f ∙ ap (λ (i : ℕ). one (p i)) (omega arith))
    ∙ ap (λ (c : ℕ). number c (λ j. p (k - 1 + j))) (let z : suc (to - k) ≡ to - (k - 1) = omega arith in z)

pub gather-begins : (p : ℕ → Bool) (to : ℕ) → 0 ≡ number (to - to) (λ j. p (to + j))
unfolding number
gather-begins p to = ap (λ (c : ℕ). number c (λ j. p (to + j))) (let z : 0 ≡ to - to = omega arith in z)

-- fewer than eight bits leave room for one more
pub room : (c : ℕ) (p : ℕ → Bool) → c < 8 → number c p < 128
room c p h = omega (arith, number_lt c p, pow_mono {i = c} {j = 7} (omega arith))
