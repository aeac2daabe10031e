-- A channel whose bit is clear has no pair; one whose bit is set has it at `pair`, and it is the one held or not.
use Rattle.std.proofs.Common.{◌≡◌, refl, sym, ap, ◌∙◌, ℕ, ◌+◌, Bool, true, false, length, arith, rules}
use Rattle.laws.specs.Tests.{any_below}
use Rattle.laws.proofs.Tests.{any-more, any_at}
use Rattle.laws.specs.Bits.{width}
use Rattle.log_model.specs.Read.{pair_at, unchanged}
use Rattle.log_model.proofs.Pairs.{pair-first, pair-more, pair_same, pair-room, unchanged-set, unchanged-clear}
use Rattle.log_read.proofs.is_unchanged.Goals as goal
use Rattle.log_read.proofs.is_unchanged.Goals.{then-is_set+else-is_pair, else-is_set}

pub overflow_add-pair : goal.overflow_add-pair
unfolding pair_at
overflow_add-pair c = search rules

pub loop-k-init : goal.loop-k-init
unfolding any_below
loop-k-init c =
    let a = c.args in
    (ap (λ (w : ℕ). a.at + w) (let z : c.div_ceil.result ≡ width (length a.db.now) = omega arith in z) ∙ pair-first a.log.now a.at (length a.db.now), refl)

pub is_set-requires : goal.is_set-requires
unfolding pair_at
is_set-requires c = search rules

pub is_pair-requires : goal.is_pair-requires
is_pair-requires c =
    let a = c.args in
    omega (arith, pair-room a.log.now a.at (length a.db.now) c.loop-k.k (omega arith) (sym c.is_set.ensures ∙ c.if-is_set.true))

pub returns-then-is_pair : goal.returns-then-is_pair
returns-then-is_pair c =
    let a = c.args in
    let n : ℕ = length a.db.now in
    let k = c.loop-k.k in
    sym
    (any_at (unchanged a.log.now a.at n a.db.now a.power.now) n k (omega arith)
    (unchanged-set a.log.now a.at n k a.db.now a.power.now c.loop-k.pair true c.loop-k.invariant.0 (sym c.is_set.ensures ∙ c.if-is_set.true)
    (sym c.if-is_pair.true ∙ c.is_pair.ensures)))

pub overflow_add-pair-then-is_set : goal.overflow_add-pair-then-is_set
overflow_add-pair-then-is_set c =
    let a = c.args in
    omega (arith, pair-room a.log.now a.at (length a.db.now) c.loop-k.k (omega arith) (sym c.is_set.ensures ∙ c.if-is_set.true))

pub loop-k-preserved : goal.loop-k-preserved
loop-k-preserved c =
    let a = c.args in
    let n : ℕ = length a.db.now in
    let k = c.loop-k.k in
    let p : ℕ → Bool = unchanged a.log.now a.at n a.db.now a.power.now in
    let here = c.loop-k.invariant.0 in
    elim c.if-is_set.branch [
      | then-is_set+else-is_pair w ↦
          let h = sym c.is_set.ensures ∙ w.if-is_set.true in (
            w.pair-is ∙ ap (λ (i : ℕ). i + 12) here ∙ pair-more a.log.now a.at n k h,
            any-more p k c.loop-k.invariant.1
                (unchanged-set a.log.now a.at n k a.db.now a.power.now c.loop-k.pair false here h (sym w.if-is_pair.false ∙ w.is_pair.ensures)),
          )
      | else-is_set w ↦
          let h = sym c.is_set.ensures ∙ w.if-is_set.false in (
            w.pair-is ∙ here ∙ pair_same a.log.now a.at n k h,
            any-more p k c.loop-k.invariant.1 (unchanged-clear a.log.now a.at n k a.db.now a.power.now h),
          )
    ]
