-- `window_rises::mark_full`: a channel without a mark is tested; one with a mark keeps it.
use Rattle.std.proofs.Common.{◌≡◌, ◌+◌, Bool, ℕ, get_or, set, sym, ap, subst, ◌∙◌, arith}
use lib.Ieee.{Float, nan, binary64, mul}
use Rattle.laws.specs.Lists.{one}
use Rattle.laws.proofs.Defaults.{get_d_any}
use Rattle.laws.proofs.Fills.{Filled, begins, turns, unwritten, done}
use Rattle.model.specs.Numbers.{f0}
use Rattle.window_rises.specs.Marking.{sums_rise}
use Rattle.window_rises.proofs.Marking.{marked-stays, marked-anew, marked-not}
use Rattle.window_rises.proofs.mark_full.Invariants.{mark_of}
use Rattle.window_rises.proofs.mark_full.Goals as goal
use Rattle.window_rises.proofs.mark_full.Goals.{then-mark-eq-UNMARKED+then-sums_rise, else-mark-eq-UNMARKED, else-mark-eq-UNMARKED-via-then-mark-eq-UNMARKED+else-sums_rise, else-mark-eq-UNMARKED-via-else-mark-eq-UNMARKED}

pub loop-k-init : goal.loop-k-init
loop-k-init c = begins _ _

pub loop-k-preserved : goal.loop-k-preserved
loop-k-preserved c =
    let a = c.args in
    let k = c.loop-k.k in
    let v = c.loop-k.invariant in
    let f : ℕ → ℕ = mark_of a.recent.now a.previous.now a.thresholds.now a.m a.rise.now in
    let t : ℕ → Float → Bool = λ i x. sums_rise a.recent.now a.previous.now i (mul binary64 x a.m) in
    let e : get_or c.loop-k.rise k 0 ≡ get_or a.rise.now k 0 = unwritten a.rise.now f k c.loop-k.rise 0 0 v (omega arith) in
    let q = ap (t k) (get_d_any a.thresholds.now k nan f0 (omega arith)) in
    -- the mark is written back as it was
    let kept : get_or a.rise.now k 0 ≡ f k → Filled a.rise.now f (k + 1) (set c.loop-k.rise k (get_or c.loop-k.rise k 0)) =
    λ y. turns a.rise.now f k c.loop-k.rise (get_or c.loop-k.rise k 0) v (omega arith) (e ∙ y) in
    elim c.if-mark-eq-UNMARKED.branch [
      | then-mark-eq-UNMARKED+then-sums_rise w ↦
          subst (Filled a.rise.now f (k + 1)) (sym w.rise-is)
          (turns a.rise.now f k c.loop-k.rise 1 v (omega arith)
          (ap one (sym w.if-sums_rise.true ∙ w.sums_rise.ensures ∙ q) ∙ marked-anew (get_or a.rise.now k 0) _ (sym e ∙ w.if-mark-eq-UNMARKED.true)))
      | else-mark-eq-UNMARKED w ↦
          elim w.else-mark-eq-UNMARKED.branch [
            | else-mark-eq-UNMARKED-via-then-mark-eq-UNMARKED+else-sums_rise w' ↦
                subst (Filled a.rise.now f (k + 1)) (sym (w.rise-is ∙ w'.rise-is))
                (kept (marked-not (get_or a.rise.now k 0) _ (sym q ∙ sym w'.sums_rise.ensures ∙ w'.if-sums_rise.false)))
            | else-mark-eq-UNMARKED-via-else-mark-eq-UNMARKED w' ↦
                subst (Filled a.rise.now f (k + 1)) (sym (w.rise-is ∙ w'.rise-is)) (kept (marked-stays (get_or a.rise.now k 0) _ (λ z. w'.if-mark-eq-UNMARKED.false (e ∙ z))))
          ]
    ]

pub returns : goal.returns
returns c =
    let a = c.args in
    done a.rise.now (mark_of a.recent.now a.previous.now a.thresholds.now a.m a.rise.now) c.loop-k.k c.loop-k.rise c.loop-k.invariant (omega arith)
