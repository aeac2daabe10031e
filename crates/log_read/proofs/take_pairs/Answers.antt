-- A channel whose bit is clear stays as it was; one whose bit is set takes the pair at `pair`, within the log.
use Rattle.std.proofs.Common.{◌≡◌, sym, ap, subst, ◌∙◌, ℕ, ◌+◌, length, arith, rules}
use Rattle.laws.proofs.Fills.{Filled, begins, turns, stays}
use Rattle.laws.specs.Bits.{width}
use Rattle.log_model.specs.Read.{pair_at, db_after, power_after}
use Rattle.log_model.proofs.Pairs.{pair-first, pair-more, pair_same, pair-room, db-set, db-clear, power-set, power-clear}
use Rattle.log_read.proofs.take_pairs.Goals as goal
use Rattle.log_read.proofs.take_pairs.Goals.{then-is_set, else-is_set}

pub overflow_add-pair : goal.overflow_add-pair
unfolding pair_at
overflow_add-pair c = search rules

pub loop-k-init : goal.loop-k-init
loop-k-init c =
    let a = c.args in
    (ap (λ (w : ℕ). a.at + w) (let z : c.div_ceil.result ≡ width (length a.db.now) = omega arith in z) ∙ pair-first a.log.now a.at (length a.db.now), (begins _ _, begins _ _))

pub is_set-requires : goal.is_set-requires
unfolding pair_at
is_set-requires c = search rules

pub eight_within-requires : goal.eight_within-requires
eight_within-requires c =
    let a = c.args in
    omega (arith, pair-room a.log.now a.at (length a.db.now) c.loop-k.k (omega arith) (sym c.is_set.ensures ∙ c.if-is_set.true))

pub overflow_add-pair-then-is_set : goal.overflow_add-pair-then-is_set
overflow_add-pair-then-is_set c =
    let a = c.args in
    omega (arith, pair-room a.log.now a.at (length a.db.now) c.loop-k.k (omega arith) (sym c.is_set.ensures ∙ c.if-is_set.true))

pub four_within-requires : goal.four_within-requires
four_within-requires c =
    let a = c.args in
    omega (arith, pair-room a.log.now a.at (length a.db.now) c.loop-k.k (omega arith) (sym c.is_set.ensures ∙ c.if-is_set.true))

pub overflow_add-pair-then-is_set-2 : goal.overflow_add-pair-then-is_set-2
overflow_add-pair-then-is_set-2 c =
    let a = c.args in
    omega (arith, pair-room a.log.now a.at (length a.db.now) c.loop-k.k (omega arith) (sym c.is_set.ensures ∙ c.if-is_set.true))

pub loop-k-preserved : goal.loop-k-preserved
loop-k-preserved c =
    let a = c.args in
    let l = c.loop-k in
    let k = l.k in
    let n : ℕ = length a.db.now in
    let f : ℕ → ℕ = db_after a.log.now a.at n a.db.now in
    let g : ℕ → ℕ = power_after a.log.now a.at n a.power.now in
    let here = l.invariant.0 in
    elim c.if-is_set.branch [
      | then-is_set w ↦
          let h = sym c.is_set.ensures ∙ w.if-is_set.true in (
            w.pair-is ∙ ap (λ (i : ℕ). i + 12) here ∙ pair-more a.log.now a.at n k h,
            (
              subst (Filled a.db.now f (k + 1)) (sym w.db-is)
                  (turns a.db.now f k l.db _ l.invariant.1.0 (omega arith) (db-set a.log.now a.at n k a.db.now l.pair _ here h w.eight_within.ensures)),
              subst (Filled a.power.now g (k + 1)) (sym w.power-is)
                  (turns a.power.now g k l.power _ l.invariant.1.1 (omega arith)
                  (power-set a.log.now a.at n k a.power.now l.pair _ here h w.four_within.ensures)),
            ),
          )
      | else-is_set w ↦
          let h = sym c.is_set.ensures ∙ w.if-is_set.false in (
            w.pair-is ∙ here ∙ pair_same a.log.now a.at n k h,
            (
              subst (Filled a.db.now f (k + 1)) (sym w.db-is)
                  (stays a.db.now f k l.db 0 l.invariant.1.0 (omega arith) (db-clear a.log.now a.at n k a.db.now h)),
              subst (Filled a.power.now g (k + 1)) (sym w.power-is)
                  (stays a.power.now g k l.power 0 l.invariant.1.1 (omega arith) (power-clear a.log.now a.at n k a.power.now h)),
            ),
          )
    ]
