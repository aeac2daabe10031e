-- A line that is written byte by byte. Assumes nothing.
use mathlib.Core.Path.{◌≡◌, refl, sym, ap, subst, ◌∙◌}
use mathlib.Core.Bool.{Bool, true, false}
use mathlib.Core.List.{List, [], ◌∷◌, ◌++◌, append_assoc, foldl-append}
use Prim.Native.Nat.{ℕ, zero, suc, ◌-◌, ◌/◌, ◌%◌, ◌^◌, ◌<◌, ◌≤◌}
use native.Mathlib.Nat.{pow-succ'}
use native.Mathlib.Omega.{arith}
use lib.ListN.{length, length-append}
use lib.Dec.{leb}
use borrow.Author.Tests.{lt-ltb, le-ltb, leb-true, leb-false}
use Rattle.laws.proofs.Tests.{by-test}
use Rattle.laws.specs.Lists.{one}
use Rattle.io.specs.Digits.{IsDigitCount, last_digits as io-digits, hex_digit_ascii as io-glyph}
use Rattle.watch_text.specs.Text.{Written, put_byte, put_all, spaces, right, glyph, digits, decimal, sign, whole}

-- one text after another
pub put-append : (w : Written) (s t : List ℕ) → put_all (put_all w s) t ≡ put_all w (s ++ t)
unfolding put_all
put-append w s t = sym (foldl-append put_byte w s t)

pub put-space : (w : Written) (i : ℕ) → put_byte (put_all w (spaces i)) 32 ≡ put_all w (spaces (suc i))
unfolding put_all spaces
put-space w zero = refl
put-space w (suc i) = put-space (put_byte w 32) i

-- a text that ends a column
pub right-more : (n : ℕ) (s t : List ℕ) (k : ℕ) → length t ≡ k → right (n - k) s ++ t ≡ right n (s ++ t)
unfolding right
right-more n s t k h =
    append_assoc (spaces (n - k - length s)) s t
    ∙ ap (λ (m : ℕ). spaces m ++ (s ++ t)) (let e : n - k - length s ≡ n - length (s ++ t) = omega (arith, length-append s t, h) in e)

-- the digits that `io::decimal` writes
last : (n : ℕ) → io-glyph (n % 10) ≡ glyph n
last n = rw (lt-ltb (n % 10) 10 (omega arith))

tens : (r : ℕ) → 10 ≤ 10 ^ suc r
tens zero = omega arith
tens (suc r) = omega (arith, tens r, pow-succ' 10 (suc r))

few : (k r n : ℕ) → r < k → n < 10 ^ suc r → (1 < suc r → 10 ^ r ≤ n) → io-digits 10 (suc r) n ≡ digits k n
few zero r n f h l = absurd (omega arith)
few (suc k) zero n f h l = rw (last n, lt-ltb n 10 (omega (arith, h)))
few (suc k) (suc r) n f h l =
    rw (le-ltb n 10 (omega (arith, tens r, l (omega arith))))
    (ap (λ (x : ℕ). io-digits 10 (suc r) (n / 10) ++ (x ∷ [])) (last n)
    ∙ ap (λ (m : List ℕ). m ++ (glyph n ∷ [])) (few k r (n / 10) (omega arith) (omega (arith, h, pow-succ' 10 (suc r))) (λ q. omega (arith, l (omega arith), pow-succ' 10 r))))

big : (k : ℕ) → 20 ≤ k → 10 ^ 20 ≤ 10 ^ k
big zero h = absurd (omega arith)
big (suc k) h =
    by-test (leb 20 k)
    (λ e. omega (arith, big k (leb-true 20 k e), pow-succ' 10 k))
    (λ e. subst (λ (j : ℕ). 10 ^ 20 ≤ 10 ^ j) (let d : 20 ≡ suc k = omega (arith, leb-false 20 k e) in d) (omega arith))

few-enough : (k n : ℕ) → n < 10 ^ 20 → IsDigitCount 10 1 n k → k ≤ 20
few-enough k n h f =
    by-test (leb k 20)
    (λ e. leb-true k 20 e)
    (λ e. let m : 20 < k = leb-false k 20 e in absurd (omega (arith, h, f.2 (omega arith), big (k - 1) (omega arith))))

pub decimal-is : (k n : ℕ) (l : List ℕ) → n < 10 ^ 20 → IsDigitCount 10 1 n k → l ≡ io-digits 10 k n → l ≡ decimal n
unfolding decimal
decimal-is zero n l h f e = absurd (omega (arith, f.0))
decimal-is (suc r) n l h f e =
    e ∙ few 20 r n (omega (arith, few-enough (suc r) n h f)) f.1 (λ q. subst (λ (j : ℕ). 10 ^ j ≤ n) (let d : suc r - 1 ≡ r = omega arith in d) (f.2 q))

-- spaces and then the text, as `put_right` writes them
pub aligned : (w v u : Written) (n k : ℕ) (t : List ℕ) → k ≡ n - length t → v ≡ put_all w (spaces k) → u ≡ put_all v t → u ≡ put_all w (right n t)
unfolding right
aligned w v u n k t h e f =
    f ∙ ap (λ (x : Written). put_all x t) e ∙ put-append w (spaces k) t ∙ ap (λ (j : ℕ). put_all w (spaces j ++ t)) h

-- what stands at the right of a column, and then the column's end
pub ended : (w v u : Written) (n m k : ℕ) (s r t : List ℕ) → m ≡ n - k → length t ≡ k → v ≡ put_all w (right m s) → u ≡ put_all v r → r ≡ t → u ≡ put_all w (right n (s ++ t))
ended w v u n m k s r t h l e f g =
    f
    ∙ ap (put_all v) g
    ∙ ap (λ (x : Written). put_all x t) (e ∙ ap (λ (j : ℕ). put_all w (right j s)) h)
    ∙ put-append w (right (n - k) s) t
    ∙ ap (put_all w) (right-more n s t k l)

long : (below : Bool) → length (sign below) ≡ one below
long true = refl
long false = refl

-- a sign and the digits d of x
pub whole-put : (w v e u : Written) (n k room : ℕ) (below : Bool) (x : ℕ) (d : List ℕ) → k ≡ length d → d ≡ decimal x → room ≡ n - k - one below
    → v ≡ put_all w (spaces room) → e ≡ put_all v (sign below) → u ≡ put_all e d → u ≡ put_all w (right n (whole below x))
unfolding whole
whole-put w v e u n k room below x d l h r a b f =
    aligned w v u n room (sign below ++ d)
    (let g : room ≡ n - length (sign below ++ d) = omega (arith, r, l, long below, length-append (sign below) d) in g)
    a
    (f ∙ ap (λ (y : Written). put_all y d) b ∙ put-append v (sign below) d)
    ∙ ap (λ (m : List ℕ). put_all w (right n (sign below ++ m))) h
