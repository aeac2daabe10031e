-- Both headers' tests, and how much of the arrays of zeros the pass is lent.
use Rattle.std.proofs.Common.{◌≡◌, sym, ap, subst, ◌∙◌, ℕ, ◌+◌, ◌≤◌, Option, arith}
use Rattle.low_first.specs.LowFirst.{low_two}
use Rattle.refusals.specs.Numbers.{answer}
use Rattle.log_model.specs.Read.{start_refusal}
use Rattle.log_model.specs.Whole.{Below}
use Rattle.log_combine.specs.Passes.{Judged}
use Rattle.log_combine.proofs.Counts.{refused, passed, few, take-zeros, zeros-long}
use Rattle.log_combine.proofs.Judges.{no_room, no-first, no_second}
use Rattle.log_combine.proofs.judge.Goals as goal

pub returns-then-room-lt2 : goal.returns-then-room-lt2
returns-then-room-lt2 c =
    let a = c.args in
    let f : Below 256 a.first.now = λ i h. omega (arith, c.type_inv.first i) in
    let g : Below 256 a.second.now = λ i h. omega (arith, c.type_inv.second i) in
    no_room a.first.now a.second.now f g a.room c.if-room-lt2.true

pub returns-in_err-ok : goal.returns-in_err-ok
returns-in_err-ok c =
    let a = c.args in
    let f : Below 256 a.first.now = λ i h. omega (arith, c.type_inv.first i) in
    let g : Below 256 a.second.now = λ i h. omega (arith, c.type_inv.second i) in
    let n : c.from-n.result ≡ low_two a.first.now 0 = omega (arith, c.from-n.ensures, c.two_bytes.ensures) in
    subst (λ (r : Option ℕ). Judged a.first.now a.second.now a.room r) (sym c.from_residual.ensures)
    (no-first a.first.now a.second.now f g a.room (answer c.start_refusal.result)
    (c.start_refusal.ensures ∙ ap (λ (k : ℕ). start_refusal a.first.now 2 k k) n) (refused c.start_refusal.result c.in_err-ok.ensures.variant))

pub returns-in_err-ok-2 : goal.returns-in_err-ok-2
returns-in_err-ok-2 c =
    let a = c.args in
    let f : Below 256 a.first.now = λ i h. omega (arith, c.type_inv.first i) in
    let g : Below 256 a.second.now = λ i h. omega (arith, c.type_inv.second i) in
    let n : c.from-n.result ≡ low_two a.first.now 0 = omega (arith, c.from-n.ensures, c.two_bytes.ensures) in
    subst (λ (r : Option ℕ). Judged a.first.now a.second.now a.room r) (sym c.from_residual-in_err-ok-2.ensures)
    (no_second a.first.now a.second.now f g a.room (answer c.start_refusal-2.result)
    (c.start_refusal-2.ensures ∙ ap (λ (k : ℕ). start_refusal a.second.now 2 k k) n) (refused c.start_refusal-2.result c.in_err-ok-2.ensures.variant))

pub slice_bounds-d-end : goal.slice_bounds-d-end
slice_bounds-d-end c =
    few c.args.first.now c.from-n.result (answer c.start_refusal.result) (omega (arith, c.from-n.ensures, c.two_bytes.ensures)) c.start_refusal.ensures
    (passed c.start_refusal.result c.in_ok-ok.ensures.variant)

pub slice_bounds-judge_on-end : goal.slice_bounds-judge_on-end
slice_bounds-judge_on-end c =
    let l =
    few c.args.first.now c.from-n.result (answer c.start_refusal.result) (omega (arith, c.from-n.ensures, c.two_bytes.ensures)) c.start_refusal.ensures
    (passed c.start_refusal.result c.in_ok-ok.ensures.variant) in
    zeros-long c.from-n.result 512 l

pub slice_bounds-p-end : goal.slice_bounds-p-end
slice_bounds-p-end c =
    few c.args.first.now c.from-n.result (answer c.start_refusal.result) (omega (arith, c.from-n.ensures, c.two_bytes.ensures)) c.start_refusal.ensures
    (passed c.start_refusal.result c.in_ok-ok.ensures.variant)

pub slice_bounds-judge_on-end-2 : goal.slice_bounds-judge_on-end-2
slice_bounds-judge_on-end-2 c =
    let l =
    few c.args.first.now c.from-n.result (answer c.start_refusal.result) (omega (arith, c.from-n.ensures, c.two_bytes.ensures)) c.start_refusal.ensures
    (passed c.start_refusal.result c.in_ok-ok.ensures.variant) in
    zeros-long c.from-n.result 512 l

pub slice_bounds-e-end : goal.slice_bounds-e-end
slice_bounds-e-end c =
    few c.args.first.now c.from-n.result (answer c.start_refusal.result) (omega (arith, c.from-n.ensures, c.two_bytes.ensures)) c.start_refusal.ensures
    (passed c.start_refusal.result c.in_ok-ok.ensures.variant)

pub slice_bounds-judge_on-end-3 : goal.slice_bounds-judge_on-end-3
slice_bounds-judge_on-end-3 c =
    let l =
    few c.args.first.now c.from-n.result (answer c.start_refusal.result) (omega (arith, c.from-n.ensures, c.two_bytes.ensures)) c.start_refusal.ensures
    (passed c.start_refusal.result c.in_ok-ok.ensures.variant) in
    zeros-long c.from-n.result 512 l

pub slice_bounds-q-end : goal.slice_bounds-q-end
slice_bounds-q-end c =
    few c.args.first.now c.from-n.result (answer c.start_refusal.result) (omega (arith, c.from-n.ensures, c.two_bytes.ensures)) c.start_refusal.ensures
    (passed c.start_refusal.result c.in_ok-ok.ensures.variant)

pub slice_bounds-judge_on-end-4 : goal.slice_bounds-judge_on-end-4
slice_bounds-judge_on-end-4 c =
    let l =
    few c.args.first.now c.from-n.result (answer c.start_refusal.result) (omega (arith, c.from-n.ensures, c.two_bytes.ensures)) c.start_refusal.ensures
    (passed c.start_refusal.result c.in_ok-ok.ensures.variant) in
    zeros-long c.from-n.result 512 l

pub slice_bounds-db-end : goal.slice_bounds-db-end
slice_bounds-db-end c =
    let l =
    few c.args.first.now c.from-n.result (answer c.start_refusal.result) (omega (arith, c.from-n.ensures, c.two_bytes.ensures)) c.start_refusal.ensures
    (passed c.start_refusal.result c.in_ok-ok.ensures.variant) in
    omega (arith, l)

pub slice_bounds-judge_on-end-5 : goal.slice_bounds-judge_on-end-5
slice_bounds-judge_on-end-5 c =
    let l =
    few c.args.first.now c.from-n.result (answer c.start_refusal.result) (omega (arith, c.from-n.ensures, c.two_bytes.ensures)) c.start_refusal.ensures
    (passed c.start_refusal.result c.in_ok-ok.ensures.variant) in
    zeros-long (c.from-n.result + c.from-n.result) 1024 (omega (arith, l))

pub slice_bounds-power-end : goal.slice_bounds-power-end
slice_bounds-power-end c =
    let l =
    few c.args.first.now c.from-n.result (answer c.start_refusal.result) (omega (arith, c.from-n.ensures, c.two_bytes.ensures)) c.start_refusal.ensures
    (passed c.start_refusal.result c.in_ok-ok.ensures.variant) in
    omega (arith, l)

pub slice_bounds-judge_on-end-6 : goal.slice_bounds-judge_on-end-6
slice_bounds-judge_on-end-6 c =
    let l =
    few c.args.first.now c.from-n.result (answer c.start_refusal.result) (omega (arith, c.from-n.ensures, c.two_bytes.ensures)) c.start_refusal.ensures
    (passed c.start_refusal.result c.in_ok-ok.ensures.variant) in
    zeros-long (c.from-n.result + c.from-n.result) 1024 (omega (arith, l))

pub judge_on-requires : goal.judge_on-requires
judge_on-requires c =
    let a = c.args in
    let n : ℕ = c.from-n.result in
    let i : n ≡ low_two a.first.now 0 = omega (arith, c.from-n.ensures, c.two_bytes.ensures) in
    let l = few a.first.now n (answer c.start_refusal.result) i c.start_refusal.ensures (passed c.start_refusal.result c.in_ok-ok.ensures.variant) in
    let two : n + n ≤ 1024 = omega (arith, l) in
    record {
      starts_a = ap (λ (k : ℕ). start_refusal a.first.now 2 k k) (sym i) ∙ sym c.start_refusal.ensures ∙ (passed c.start_refusal.result c.in_ok-ok.ensures.variant);
      starts_b = ap (λ (k : ℕ). start_refusal a.second.now 2 k k) (sym i) ∙ sym c.start_refusal-2.ensures ∙ (passed c.start_refusal-2.result c.in_ok-ok-2.ensures.variant);
      header = c.if-room-lt2.false;
      lent = record {
        d_zero = take-zeros n 512 _ l i;
        p_zero = take-zeros n 512 _ l i;
        e_zero = take-zeros n 512 _ l i;
        q_zero = take-zeros n 512 _ l i;
        db_zero = take-zeros (n + n) 1024 _ two (ap (λ (m : ℕ). m + m) i);
        power_zero = take-zeros (n + n) 1024 _ two (ap (λ (m : ℕ). m + m) i);
      };
    }
