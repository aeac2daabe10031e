-- `window_rises::mark_look`: windows that are not full rise for no channel; those of a full length are tested where their sums lie in the part.
use Rattle.std.proofs.Common.{◌≡◌, ◌+◌, ◌*◌, ℕ, false, length, get_or, ap, ◌∙◌, arith}
use lib.IntN.{pos}
use lib.Ieee.{Float, binary64, mul, of_int}
use borrow.Author.Tests.{eq-eqb, ne_eqb}
use Rattle.laws.proofs.Lists.{width, length_part}
use Rattle.laws.proofs.Tabs.{tab-ext}
use Rattle.model.specs.Numbers.{f0}
use Rattle.model.specs.Windows.{PowerLooks, look_rises}
use Rattle.windows.specs.Looks.{looks_in}
use Rattle.window_rises.specs.Marking.{marked, sums_rise}
use Rattle.window_rises.proofs.Marking.{none-marked}
use Rattle.window_rises.proofs.mark_look.Goals as goal

-- what is left of the definition once the windows are full, and where they are not
full-rises : (n : ℕ) (t : Float) (k : ℕ) (l : PowerLooks) → l.filled ≡ 2 * l.m → length l.recent ≡ n
    → sums_rise l.recent l.previous k (mul binary64 t (of_int binary64 (pos l.m))) ≡ look_rises n t k l
unfolding look_rises
full-rises n t k l f e = rw (eq-eqb l.filled (2 * l.m) f, e)

none-rises : (n : ℕ) (t : Float) (k : ℕ) (l : PowerLooks) → (l.filled ≡ 2 * l.m → ⊥) → look_rises n t k l ≡ false
unfolding look_rises
none-rises n t k l h = rw (ne_eqb l.filled (2 * l.m) h)

pub returns-then-c-m : goal.returns-then-c-m
returns-then-c-m c =
    let a = c.args in
    let n = length a.rise.now in
    none-marked a.rise.now _ (λ k. none-rises n (get_or a.thresholds.now k f0) k (looks_in a.look.now a.c n) c.if-c-m.true)

pub returns : goal.returns
returns c =
    let a = c.args in
    let n = length a.rise.now in
    let A : ℕ = 2 * a.c.m * n in
    (rw (width A n, width (A + n) n) at c.mark_full.ensures)
    ∙ tab-ext n _ _
    (λ k _.
    ap (marked (get_or a.rise.now k 0))
    (full-rises n (get_or a.thresholds.now k f0) k (looks_in a.look.now a.c n) c.if-c-m.false (length_part A n a.look.now (omega arith))))
