-- Lines of text, and numbers as people read them.
use Rattle.std.specs.Prelude.{Bool, true, false, cond, ◌&&◌, ℕ, zero, suc, ◌+◌, ◌*◌, ◌-◌, ◌/◌, ◌%◌, ltb, length, set}
use mathlib.Core.List.{List, [], ◌∷◌, ◌++◌, foldl}
use Rattle.laws.specs.Texts.{ascii}
use Rattle.watch_text.specs.declared.buffer.Line.{Line}

-- a line that is being written, and how much of it is
abbrev pub Written : Type 0
Written = List ℕ × ℕ

abbrev pub written : Line → Written
written l = (l.bytes, l.end)

-- a byte more, where there is room
unfoldable pub put_byte : Written → ℕ → Written
put_byte w b = cond (ltb w.1 200) (set w.0 w.1 b, w.1 + 1) w

-- bytes one after another
unfoldable pub put_all : Written → List ℕ → Written
put_all w bs = foldl put_byte w bs

unfoldable pub spaces : ℕ → List ℕ
spaces zero = []
spaces (suc n) = 32 ∷ spaces n

-- a text at the right of a column
unfoldable pub right : ℕ → List ℕ → List ℕ
right width t = spaces (width - length t) ++ t

-- the last digit of a number, in ASCII
abbrev pub glyph : ℕ → ℕ
glyph n = 48 + n % 10

-- a number in decimal, of so many digits at most; a u64 has 20 at most
abbrev pub digits : ℕ → ℕ → List ℕ
digits zero n = []
digits (suc k) n = cond (ltb n 10) (glyph n ∷ []) (digits k (n / 10) ++ (glyph n ∷ []))

unfoldable pub decimal : ℕ → List ℕ
decimal n = digits 20 n

abbrev pub sign : Bool → List ℕ
sign true = ascii "-"
sign false = []

unfoldable pub whole : Bool → ℕ → List ℕ
whole below n = sign below ++ decimal n

-- -0.25 from 25 below zero, and 0.00 from 0 either way
unfoldable pub hundredths : Bool → ℕ → List ℕ
hundredths below n = whole (below && ltb 0 n) (n / 100) ++ (ascii "." ++ (glyph (n / 10) ∷ glyph n ∷ []))

unfoldable pub thousandths : Bool → ℕ → List ℕ
thousandths below n = whole (below && ltb 0 n) (n / 1000) ++ (ascii "." ++ (glyph (n / 100) ∷ glyph (n / 10) ∷ glyph n ∷ []))

-- hops in thousandths of a second, 375 hops to the second, rounded down
abbrev pub millis : ℕ → ℕ
millis hop = hop % 1152921504606846976 * 8 / 3
