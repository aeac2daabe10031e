use Rattle.std.proofs.Common.{◌≡◌, true, ◌&&◌, List, ℕ, length, refl, ◌∙◌, rules, tests, arith}
use Rattle.std.specs.List.{list_all}
use Rattle.std.proofs.lemmas.Iterator.{YieldsList-from_slice}
use Rattle.std.proofs.lemmas.Iterator.Search.{all_from_yields_List}
use Rattle.std.proofs.lemmas.List.Recursion.{same_from_clauses}
use Rattle.std.proofs.lemmas.Bool.Decides.{nat_tests}
use Rattle.laws.specs.Tests.{within}
use Rattle.model.specs.GateCalls.{all_within, good_lengths}
use Rattle.gate_lengths.proofs.lengths_good.Goals as goal

counted : (l : List ℕ) → within 1 8 (length l) ≡ true → all_within l ≡ good_lengths l
unfolding good_lengths
counted l h = rw h

pub returns-then-lengths-le8 : goal.returns-then-lengths-le8
returns-then-lengths-le8 c =
    let xs = c.args.lengths.now in
    let w : within 1 8 (length xs) ≡ true = grind (arith, nat_tests) in
    all_from_yields_List (within 1 375) _ _ c.all.result c.all.ensures.ran (YieldsList-from_slice xs cc) (λ x b q k. search (rules, tests))
    ∙ same_from_clauses (list_all (within 1 375)) all_within (λ x r. within 1 375 x && r) refl (λ _ _. refl) (λ _ _. refl) xs
    ∙ counted xs w

pub returns-else-lengths-le8 : goal.returns-else-lengths-le8
unfolding good_lengths
returns-else-lengths-le8 c = grind (arith, nat_tests)
