-- A header that passes tells how much of the arrays the pass needs, and that is zero.
use Rattle.std.proofs.Common.{◌≡◌, refl, ap, ◌∙◌, ℕ, Err, arith, rules}
use Rattle.low_first.specs.LowFirst.{low_two}
use Rattle.refusals.specs.Numbers.{number_of}
use Rattle.log_model.specs.Read.{start_refusal}
use Rattle.log_model.proofs.Answers.{some_number}
use Rattle.combine_model.specs.Combined.{hop_count}
use Rattle.log_combine.proofs.Counts.{few, header-counts, take-zeros, zeros-long}
use Rattle.log_combine.proofs.count_hops.Goals as goal

pub returns-in_err-start_refusal : goal.returns-in_err-start_refusal
returns-in_err-start_refusal c =
    let n : c.from-n.result ≡ low_two c.args.log.now 0 = omega (arith, c.from-n.ensures, c.two_bytes.ensures) in
    let e = c.in_err-start_refusal in
    let r : ℕ = number_of e.field-0.0 in
    let h : Err r ≡ hop_count c.args.log.now =
    header-counts c.args.log.now r (e.ensures ∙ ap (λ (k : ℕ). start_refusal c.args.log.now 2 k k) n) (some_number e.field-0.0) in
    search (rules, h)

pub slice_bounds-db-end : goal.slice_bounds-db-end
slice_bounds-db-end c =
    few c.args.log.now c.from-n.result 0 (omega (arith, c.from-n.ensures, c.two_bytes.ensures)) c.in_ok-start_refusal.ensures refl

pub slice_bounds-count_on-end : goal.slice_bounds-count_on-end
slice_bounds-count_on-end c =
    zeros-long c.from-n.result 512
    (few c.args.log.now c.from-n.result 0 (omega (arith, c.from-n.ensures, c.two_bytes.ensures)) c.in_ok-start_refusal.ensures refl)

pub slice_bounds-power-end : goal.slice_bounds-power-end
slice_bounds-power-end c =
    few c.args.log.now c.from-n.result 0 (omega (arith, c.from-n.ensures, c.two_bytes.ensures)) c.in_ok-start_refusal.ensures refl

pub slice_bounds-count_on-end-2 : goal.slice_bounds-count_on-end-2
slice_bounds-count_on-end-2 c =
    zeros-long c.from-n.result 512
    (few c.args.log.now c.from-n.result 0 (omega (arith, c.from-n.ensures, c.two_bytes.ensures)) c.in_ok-start_refusal.ensures refl)

pub count_on-requires : goal.count_on-requires
count_on-requires c =
    let n : c.from-n.result ≡ low_two c.args.log.now 0 = omega (arith, c.from-n.ensures, c.two_bytes.ensures) in
    let l = few c.args.log.now c.from-n.result 0 n c.in_ok-start_refusal.ensures refl in
    (take-zeros c.from-n.result 512 _ l n, take-zeros c.from-n.result 512 _ l n)
