-- Of fewer than eight marks there is room for one more. Assumes nothing.
use Rattle.std.proofs.Common.{◌≡◌, ◌+◌, ◌-◌, ◌<◌, ap, sym, ◌∙◌, Bool, length, get_or, List, ℕ, arith}
use Rattle.laws.specs.Lists.{one}
use Rattle.laws.specs.Bits.{number}
use Rattle.laws.proofs.Bits.{one-lt, gather-begins, number_same, room}
use Rattle.bits.proofs.Operators.{mark, one_less, still_first, joined}
use Rattle.bits.proofs.gathered.Goals as goal
use Rattle.bits.proofs.gathered.Goals.{In-Some}

pub loop-mark-init : goal.loop-mark-init
loop-mark-init c =
    let m = c.args.marks.now in
    let e : c.into_iter-mark-iterator.result.iter.rest.now ≡ m =
    ap (λ s. s.iter.rest.now) c.into_iter-mark-iterator.ensures.into_iter_gives ∙ ap (λ s. s.rest.now) c.rev-mark-items.ensures.source ∙ c.iter.ensures.rest in
    record {
      room = omega (arith, ap length e);
      first = λ i h. ap (λ (l : List ℕ). get_or l i 0) e;
      sum = gather-begins (mark m) (length m) ∙ ap (λ (l : List ℕ). number (length m - length l) (λ j. mark m (length l + j))) (sym e);
    }

small : (c : In-Some) → c.loop-mark.b < 128
small c =
    let m = c.args.marks.now in
    let left = c.loop-mark.mark-iterator.iter.rest.now in
    let k = one_less m left c.next.new.self.iter.rest.now c.in-Some.field-0.now c.in-Some.ensures.steps c.loop-mark.invariant.first in
    omega (arith, c.loop-mark.invariant.room, k, room (length m - length left) (λ j. mark m (length left + j)) (omega (arith, k, c.loop-mark.invariant.room)), c.loop-mark.invariant.sum)

digit : (b : Bool) (d : ℕ) → d ≡ one b → d < 2
digit b d e = omega (arith, e, one-lt b)

pub overflow_mul-b : goal.overflow_mul-b
overflow_mul-b c = omega (arith, small (goal.at.overflow_mul-b c).In-Some)

pub overflow_add-b : goal.overflow_add-b
overflow_add-b c = omega (arith, small (goal.at.overflow_add-b c).In-Some, digit _ _ c.is_one.ensures)

pub loop-mark-preserved : goal.loop-mark-preserved
loop-mark-preserved c =
    let m = c.args.marks.now in
    let left = c.loop-mark.mark-iterator.iter.rest.now in
    let rest = c.next.new.self.iter.rest.now in
    let x = c.in-Some.field-0.now in
    let e = c.in-Some.ensures.steps in
    let k = c.loop-mark.invariant in
    record {
      room = omega (arith, k.room, one_less m left rest x e k.first);
      first = still_first m left rest x e k.first;
      sum = joined m left rest x e k.first c.loop-mark.b c.is_one.result k.room k.sum c.is_one.ensures;
    }

pub returns : goal.returns
returns c =
    let m = c.args.marks.now in
    let e : length c.loop-mark.mark-iterator.iter.rest.now ≡ 0 = c.in-None.ensures.steps.0 in
    c.loop-mark.invariant.sum ∙ ap (λ (k : ℕ). number (length m - k) (λ j. mark m (k + j))) e ∙ ap (λ (n : ℕ). number n (λ j. mark m (0 + j))) (let z : length m - 0 ≡ length m = omega arith in z)
    ∙ number_same (length m) (λ j. mark m (0 + j)) (mark m) (λ j h. ap (mark m) (let z : 0 + j ≡ j = omega arith in z))
