-- Numbers and their bytes, the lowest first, there and back. Assumes nothing.
use mathlib.Core.Path.{◌≡◌, refl, sym, ap, ◌∙◌}
use mathlib.Core.List.{List}
use Prim.Native.Nat.{ℕ, zero, suc, ◌+◌, ◌*◌, ◌/◌, ◌%◌, ◌^◌, ◌<◌, ◌≤◌}
use native.Mathlib.Nat.{add-zero}
use native.Mathlib.Numerals.{add-one}
use native.Mathlib.Omega.{arith}
use lib.ListN.{length, get_or}
use lib.Seq.{ext_get_or}
use Rattle.laws.specs.Lists.{part}
use Rattle.laws.proofs.Lists.{length_part, get_d_part}
use Rattle.laws.proofs.Tabs.{length-tab, get_d-tab}
use Rattle.low_first.specs.LowFirst.{byte_at, four, low_two, low_four, low_eight, without, low_bytes}

pub length-low : (w x : ℕ) → length (low_bytes w x) ≡ w
unfolding low_bytes
length-low w x = length-tab w _

-- one byte more is left out
pub without_more : (i x : ℕ) → without i x / 256 ≡ without (i + 1) x
unfolding without
without_more i x = sym (ap (λ (j : ℕ). without j x) (add-one i))

-- byte i of a number
pub low-at : (w x i : ℕ) → i < w → get_or (low_bytes w x) i 0 ≡ without i x % 256
unfolding low_bytes
low-at w x i h = get_d-tab w (λ i. without i x % 256) i 0 h

-- four bytes, and what is above them
four-sum : (x b₀ b₁ b₂ b₃ : ℕ) → b₀ ≡ x % 256 → b₁ ≡ x / 256 % 256 → b₂ ≡ x / 256 / 256 % 256 → b₃ ≡ x / 256 / 256 / 256 % 256
    → four b₀ b₁ b₂ b₃ + 4294967296 * (x / 256 / 256 / 256 / 256) ≡ x
four-sum x b₀ b₁ b₂ b₃ e₀ e₁ e₂ e₃ = omega arith

module _ (l : List ℕ) (a x : ℕ) where
  -- the number x stands at a, by w bytes
  abbrev pub Stands : ℕ → Type 0
  Stands w = (i : ℕ) → i < w → get_or l (a + i) 0 ≡ without i x % 256

  first_byte : (w : ℕ) → 0 < w → Stands w → byte_at l a ≡ x % 256
  unfolding without
  first_byte w z h = ap (λ (i : ℕ). get_or l i 0) (sym (add-zero a)) ∙ h 0 z

  pub two-there : x < 65536 → Stands 2 → low_two l a ≡ x
  unfolding low_two without
  two-there b h = omega (arith, first_byte 2 (omega arith) h, h 1 (omega arith))

  pub four-there : x < 2 ^ 32 → Stands 4 → low_four l a ≡ x
  unfolding low_four without
  four-there b h = omega (arith, four-sum x _ _ _ _ (first_byte 4 (omega arith) h) (h 1 (omega arith)) (h 2 (omega arith)) (h 3 (omega arith)))

  pub eight-there : x < 2 ^ 64 → Stands 8 → low_eight l a ≡ x
  unfolding low_eight low_four without
  eight-there b h =
      omega (
        arith,
        four-sum x _ _ _ _ (first_byte 8 (omega arith) h) (h 1 (omega arith)) (h 2 (omega arith)) (h 3 (omega arith)),
        four-sum (x / 256 / 256 / 256 / 256) _ _ _ _ (h 4 (omega arith)) (h 5 (omega arith)) (h 6 (omega arith)) (h 7 (omega arith)),
      )

-- ---- back: the bytes of the number that stands there

-- one byte and what is above it
lowest : (b r x : ℕ) → b < 256 → x ≡ b + 256 * r → (b ≡ x % 256) × (x / 256 ≡ r)
lowest b r x h e = (omega arith, omega arith)

module _ (b₀ b₁ b₂ b₃ y x : ℕ) (h₀ : b₀ < 256) (h₁ : b₁ < 256) (h₂ : b₂ < 256) (h₃ : b₃ < 256) (e : x ≡ four b₀ b₁ b₂ b₃ + 4294967296 * y) where
  first_of : (b₀ ≡ x % 256) × (x / 256 ≡ b₁ + 256 * (b₂ + 256 * (b₃ + 256 * y)))
  first_of = lowest b₀ _ x h₀ (omega arith)

  second-of : (b₁ ≡ x / 256 % 256) × (x / 256 / 256 ≡ b₂ + 256 * (b₃ + 256 * y))
  second-of = lowest b₁ _ (x / 256) h₁ first_of.1

  third_of : (b₂ ≡ x / 256 / 256 % 256) × (x / 256 / 256 / 256 ≡ b₃ + 256 * y)
  third_of = lowest b₂ _ (x / 256 / 256) h₂ second-of.1

  fourth-of : (b₃ ≡ x / 256 / 256 / 256 % 256) × (x / 256 / 256 / 256 / 256 ≡ y)
  fourth-of = lowest b₃ _ (x / 256 / 256 / 256) h₃ third_of.1

module _ (l : List ℕ) (a : ℕ) where
  abbrev byte : ℕ → ℕ
  byte i = get_or l (a + i) 0

  zeroth : byte 0 ≡ byte_at l a
  zeroth = ap (λ (i : ℕ). get_or l i 0) (add-zero a)

  module _ (small : (i : ℕ) → get_or l i 0 < 256) where
    pub two_back : Stands l a (low_two l a) 2
    unfolding low_two without
    two_back zero h = zeroth ∙ (lowest (byte_at l a) (byte_at l (a + 1)) _ (small a) refl).0
    two_back (suc zero) h = omega (arith, small a, small (a + 1))
    two_back (suc (suc i)) h = absurd (omega arith)

    pub four-back : Stands l a (low_four l a) 4
    unfolding low_four without
    four-back = by-four
      where
        x : ℕ
        x = low_four l a

        e : x ≡ four (byte_at l a) (byte_at l (a + 1)) (byte_at l (a + 2)) (byte_at l (a + 3)) + 4294967296 * 0
        e = omega arith

        by-four : Stands l a x 4
        by-four zero h = zeroth ∙ (first_of _ _ _ _ 0 x (small _) (small _) (small _) (small _) e).0
        by-four (suc zero) h = (second-of (byte_at l a) _ _ _ 0 x (small _) (small _) (small _) (small _) e).0
        by-four (suc (suc zero)) h = (third_of (byte_at l a) (byte_at l (a + 1)) _ _ 0 x (small _) (small _) (small _) (small _) e).0
        by-four (suc (suc (suc zero))) h = (fourth-of (byte_at l a) (byte_at l (a + 1)) (byte_at l (a + 2)) _ 0 x (small _) (small _) (small _) (small _) e).0
        by-four (suc (suc (suc (suc i)))) h = absurd (omega arith)

    pub eight-back : Stands l a (low_eight l a) 8
    unfolding low_eight low_four without
    eight-back = by-eight
      where
        x : ℕ
        x = low_eight l a

        y : ℕ
        y = four (byte_at l (a + 4)) (byte_at l (a + 5)) (byte_at l (a + 6)) (byte_at l (a + 7))

        low : x ≡ four (byte_at l a) (byte_at l (a + 1)) (byte_at l (a + 2)) (byte_at l (a + 3)) + 4294967296 * y
        low = refl

        z : ℕ
        z = x / 256 / 256 / 256 / 256

        z-is : z ≡ y
        z-is = (fourth-of (byte_at l a) (byte_at l (a + 1)) (byte_at l (a + 2)) (byte_at l (a + 3)) y x (small _) (small _) (small _) (small _) low).1

        high : z ≡ four (byte_at l (a + 4)) (byte_at l (a + 5)) (byte_at l (a + 6)) (byte_at l (a + 7)) + 4294967296 * 0
        high = z-is ∙ omega arith

        by-eight : Stands l a x 8
        by-eight zero h = zeroth ∙ (first_of _ _ _ _ y x (small _) (small _) (small _) (small _) low).0
        by-eight (suc zero) h = (second-of (byte_at l a) _ _ _ y x (small _) (small _) (small _) (small _) low).0
        by-eight (suc (suc zero)) h = (third_of (byte_at l a) (byte_at l (a + 1)) _ _ y x (small _) (small _) (small _) (small _) low).0
        by-eight (suc (suc (suc zero))) h = (fourth-of (byte_at l a) (byte_at l (a + 1)) (byte_at l (a + 2)) _ y x (small _) (small _) (small _) (small _) low).0
        by-eight (suc (suc (suc (suc zero)))) h = (first_of _ _ _ _ 0 z (small _) (small _) (small _) (small _) high).0
        by-eight (suc (suc (suc (suc (suc zero))))) h = (second-of (byte_at l (a + 4)) _ _ _ 0 z (small _) (small _) (small _) (small _) high).0
        by-eight (suc (suc (suc (suc (suc (suc zero)))))) h = (third_of (byte_at l (a + 4)) (byte_at l (a + 5)) _ _ 0 z (small _) (small _) (small _) (small _) high).0
        by-eight (suc (suc (suc (suc (suc (suc (suc zero))))))) h =
            (fourth-of (byte_at l (a + 4)) (byte_at l (a + 5)) (byte_at l (a + 6)) _ 0 z (small _) (small _) (small _) (small _) high).0
        by-eight (suc (suc (suc (suc (suc (suc (suc (suc i)))))))) h = absurd (omega arith)

-- the bytes that stand at a are those of the number
pub part_low : (l : List ℕ) (a x w : ℕ) → a + w ≤ length l → Stands l a x w → part a w l ≡ low_bytes w x
part_low l a x w h s =
    ext_get_or 0 (part a w l) (low_bytes w x) (length_part a w l h ∙ sym (length-low w x))
    (λ i k.
    let m : i < w = omega (arith, length_part a w l h) in
    get_d_part a w l i 0 m ∙ s i m ∙ sym (low-at w x i m))
