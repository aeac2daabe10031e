use Rattle.std.proofs.Common.{◌≡◌, ◌<◌, ◌+◌, ◌*◌, ◌≤◌, ◌∙◌, sym, ap, subst, ℕ, List, length, get_or, arith}
use Rattle.std.proofs.lemmas.Result.{err_from_is_err_and}
use lib.Ieee.{Float}
use Rattle.laws.specs.Lists.{part}
use Rattle.laws.proofs.Lists.{width, length_part, row}
use Rattle.model.specs.Worst.{in_turn, highest}
use Rattle.model.specs.GoodWorst.{ReadyWorst}
use Rattle.model.specs.WorstCalls.{worst_reading}
use Rattle.channel_readings.proofs.Readings.{refused}
use Rattle.worst.proofs.Carries.{places}
use Rattle.worst.proofs.Highs.{told, reads, none_yet}
use Rattle.worst.proofs.worst_floor.Goals as goal

-- the ring of channel k lies in the f64 store
room : (wu : List ℕ) (wf : List Float) (k W : ℕ) → ReadyWorst wu wf → k < get_or wu 0 0 → W ≡ get_or wu 1 0 → W * k + W ≤ length wf
room wu wf k W r h e =
    subst (λ (x : ℕ). x * k + x ≤ length wf) (sym e) (omega (arith, row (get_or wu 1 0) k (get_or wu 0 0) h, r.long_f))

pub returns-in_err-read_refusal : goal.returns-in_err-read_refusal
unfolding worst_reading
returns-in_err-read_refusal c =
    let p = err_from_is_err_and c.from_residual.result c.from_residual.ensures.1 in
    rw (p.1, p.2) (refused _ _ _ c.in_err-read_refusal.ensures)

pub bounds-worst-3 : goal.bounds-worst-3
bounds-worst-3 c = let t = told c.args.bank.now c.args.bank_f.now c.args.worst.now c.args.worst_f.now c.args.k (sym c.in_ok-read_refusal.ensures) in
    omega (arith, t.worst.four)

pub returns-then-filled-eq0 : goal.returns-then-filled-eq0
returns-then-filled-eq0 c =
    let a = c.args in
    let wu = a.worst.now in
    let t = told a.bank.now a.bank_f.now wu a.worst_f.now a.k (sym c.in_ok-read_refusal.ensures) in
    let p = places wu a.worst_f.now t.worst in
    reads a.bank.now a.bank_f.now wu a.worst_f.now a.k _ c.in_ok-read_refusal.ensures t.below
    (none_yet (get_or wu 1 0) (get_or wu 2 0) (get_or wu 3 0) _ p.at_start p.some (sym c.from-filled.ensures ∙ c.if-filled-eq0.true))

pub bounds-worst-1 : goal.bounds-worst-1
bounds-worst-1 c = let t = told c.args.bank.now c.args.bank_f.now c.args.worst.now c.args.worst_f.now c.args.k (sym c.in_ok-read_refusal.ensures) in
    omega (arith, t.worst.four)

pub bounds-worst-2 : goal.bounds-worst-2
bounds-worst-2 c = let t = told c.args.bank.now c.args.bank_f.now c.args.worst.now c.args.worst_f.now c.args.k (sym c.in_ok-read_refusal.ensures) in
    omega (arith, t.worst.four)

pub overflow_mul-a : goal.overflow_mul-a
overflow_mul-a c = let t = told c.args.bank.now c.args.bank_f.now c.args.worst.now c.args.worst_f.now c.args.k (sym c.in_ok-read_refusal.ensures) in
    omega (arith, room c.args.worst.now c.args.worst_f.now c.args.k c.from-w.result t.worst t.below c.from-w.ensures)

pub overflow_add-e : goal.overflow_add-e
overflow_add-e c = let t = told c.args.bank.now c.args.bank_f.now c.args.worst.now c.args.worst_f.now c.args.k (sym c.in_ok-read_refusal.ensures) in
    omega (arith, room c.args.worst.now c.args.worst_f.now c.args.k c.from-w.result t.worst t.below c.from-w.ensures)

pub slice_bounds-highest_in-end : goal.slice_bounds-highest_in-end
slice_bounds-highest_in-end c = let t = told c.args.bank.now c.args.bank_f.now c.args.worst.now c.args.worst_f.now c.args.k (sym c.in_ok-read_refusal.ensures) in
    omega (arith, room c.args.worst.now c.args.worst_f.now c.args.k c.from-w.result t.worst t.below c.from-w.ensures)

pub highest_in-requires : goal.highest_in-requires
highest_in-requires c =
    let a = c.args in
    let t = told a.bank.now a.bank_f.now a.worst.now a.worst_f.now a.k (sym c.in_ok-read_refusal.ensures) in
    let p = places a.worst.now a.worst_f.now t.worst in
    let W = c.from-w.result in
    let r : W * a.k + W ≤ length a.worst_f.now = room a.worst.now a.worst_f.now a.k W t.worst t.below c.from-w.ensures in (
      omega (arith, c.from-next.ensures, c.from-filled.ensures, p.next_within),
      omega (arith, c.if-filled-eq0.false),
      omega (arith, p.filled_within, c.from-filled.ensures, c.from-w.ensures, ap (λ (j : ℕ). length (part (W * a.k) j a.worst_f.now)) (width (W * a.k) W), length_part (W * a.k) W a.worst_f.now r),
    )

pub returns : goal.returns
returns c =
    let a = c.args in
    let t = told a.bank.now a.bank_f.now a.worst.now a.worst_f.now a.k (sym c.in_ok-read_refusal.ensures) in
    let W = c.from-w.result in
    reads a.bank.now a.bank_f.now a.worst.now a.worst_f.now a.k _ c.in_ok-read_refusal.ensures t.below
    (c.highest_in.ensures
    ∙ ap (λ (j : ℕ). highest (in_turn c.from-next.result c.from-filled.result (part (W * a.k) j a.worst_f.now))) (width (W * a.k) W)
    ∙ (λ i. highest (in_turn (c.from-next.ensures i) (c.from-filled.ensures i) (part (c.from-w.ensures i * a.k) (c.from-w.ensures i) a.worst_f.now))))

pub offset_bounds-worst_f-a : goal.offset_bounds-worst_f-a
offset_bounds-worst_f-a c = let t = told c.args.bank.now c.args.bank_f.now c.args.worst.now c.args.worst_f.now c.args.k (sym c.in_ok-read_refusal.ensures) in
    omega (arith, room c.args.worst.now c.args.worst_f.now c.args.k c.from-w.result t.worst t.below c.from-w.ensures)
