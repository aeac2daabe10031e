use Rattle.std.proofs.Common.{List, ℕ, ◌<◌, ◌≤◌, ◌+◌, ◌*◌, ◌∙◌, sym, ap, subst, get_or, arith}
use Rattle.model.specs.Layout.{bins, channel_len}
use Rattle.bank_sixteens.specs.Rows.{front_of, behind_of, cell_of, row_counted, Added}
use Rattle.bank_sixteens.proofs.Rows.{added-le, added_more, bin-front, bin-behind, long-front, long-behind}
use Rattle.bank_sixteens.proofs.count_rows.Goals as goal

pub count_row-requires-clause-few : goal.count_row-requires-clause-few
count_row-requires-clause-few c =
    let u = c.args.eight.now in
    let bin = bin-front u c.requires.by_index in
    subst
    (λ (l : List ℕ). ((k : ℕ) → k < 4 → get_or l (channel_len * k + c.loop-i.i) 0 < bins) × ((k : ℕ) → k < 4 → get_or c.loop-i.t.front (cell_of l c.loop-i.i k) 0 ≤ 30000000))
    (sym c.front-four.ensures) (
      (λ k h. bin k c.loop-i.i h (omega arith)),
      (λ k h. added-le _ _ _ _ _ (long-front u c.told-eight) c.loop-i.invariant.0 (omega arith) (omega arith) c.requires.few.0 k _ h (bin k c.loop-i.i h (omega arith))),
    )

pub count_row-requires-in-loop-i-clause-few : goal.count_row-requires-in-loop-i-clause-few
count_row-requires-in-loop-i-clause-few c =
    let u = c.args.eight.now in
    let bin = bin-behind u c.requires.by_index in
    subst
    (λ (l : List ℕ). ((k : ℕ) → k < 4 → get_or l (channel_len * k + c.loop-i.i) 0 < bins) × ((k : ℕ) → k < 4 → get_or c.loop-i.t.behind (cell_of l c.loop-i.i k) 0 ≤ 30000000))
    (sym c.behind-others.ensures) (
      (λ k h. bin k c.loop-i.i h (omega arith)),
      (λ k h. added-le _ _ _ _ _ (long-behind u c.told-eight) c.loop-i.invariant.1 (omega arith) (omega arith) c.requires.few.1 k _ h (bin k c.loop-i.i h (omega arith))),
    )

pub loop-i-preserved : goal.loop-i-preserved
loop-i-preserved c =
    let u = c.args.eight.now in
    let i = c.loop-i.i in
    let w = c.args.one in (
      subst (Added w (i + 1) (front_of u) c.args.t.now.front) (sym (c.count_row.ensures ∙ ap (λ (l : List ℕ). row_counted w l i c.loop-i.t.front) c.front-four.ensures))
          (added_more w i (front_of u) c.args.t.now.front c.loop-i.t.front (long-front u c.told-eight) c.loop-i.invariant.0 (omega arith) (λ k h. bin-front u c.requires.by_index k i h (omega arith))),
      subst (Added w (i + 1) (behind_of u) c.args.t.now.behind) (sym (c.count_row-in-loop-i.ensures ∙ ap (λ (l : List ℕ). row_counted w l i c.loop-i.t.behind) c.behind-others.ensures))
          (added_more w i (behind_of u) c.args.t.now.behind c.loop-i.t.behind (long-behind u c.told-eight) c.loop-i.invariant.1 (omega arith) (λ k h. bin-behind u c.requires.by_index k i h (omega arith))),
    )
