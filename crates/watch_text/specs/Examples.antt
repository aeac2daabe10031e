-- Numbers as people read them.
use Rattle.std.specs.Prelude.{◌≡◌, refl, true, false, [], ◌∷◌}
use Rattle.laws.specs.Texts.{ascii}
use Rattle.watch_text.specs.Text.{spaces, right, decimal, whole, hundredths, thousandths, millis}

pub numbers :
    right 3 (decimal 0) ∷ right 3 (decimal 512) ∷ right 3 (decimal 18446744073709551615) ∷ right 8 (hundredths true 25) ∷ right 0 (hundredths true 0)
    ∷ right 0 (hundredths false 12345) ∷ right 7 (thousandths false (millis 376)) ∷ []
    ≡ ascii "  0" ∷ ascii "512" ∷ ascii "18446744073709551615" ∷ ascii "   -0.25" ∷ ascii "0.00" ∷ ascii "123.45" ∷ ascii "  1.002" ∷ []
unfolding spaces right decimal whole hundredths thousandths
numbers = refl
