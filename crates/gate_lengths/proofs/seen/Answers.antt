-- `gate_lengths::seen`: what `contains` tests is `among`.
use Rattle.std.proofs.Common.{◌≡◌, [], ◌∷◌, ◌||◌, List, ℕ, get_or, take, eqb, refl, ap₂, ◌∙◌, arith}
use Rattle.std.specs.List.{list_any}
use Rattle.std.proofs.lemmas.Bool.Decides.{nat_tests}
use Rattle.model.specs.Gate.{among}
use Rattle.gate_lengths.proofs.seen.Goals as goal

either-way : (a b : ℕ) → eqb a b ≡ eqb b a
either-way a b = grind (arith, nat_tests)

among-is : (m : ℕ) (l : List ℕ) → list_any (λ y. eqb y m) l ≡ among m l
among-is m [] = refl
among-is m (y ∷ l) = ap₂ ◌||◌ (either-way y m) (among-is m l)

pub returns : goal.returns
returns c =
    let m = get_or c.args.lengths.now c.args.i 0 in
    c.contains.ensures.value ∙ among-is m (take c.args.i c.args.lengths.now)
