-- A changed channel takes one pair more, for which there is room; another none.
use Rattle.std.proofs.Common.{◌≡◌, sym, ap, ◌∙◌, ℕ, ◌+◌, ◌*◌, Bool, true, false, List, [], ◌++◌, arith}
use mathlib.Core.Bool.{cond}
use mathlib.Core.List.{append-nil}
use native.Mathlib.Nat.{add-zero}
use Rattle.laws.specs.Lists.{one}
use Rattle.laws.specs.Tests.{tally}
use Rattle.laws.proofs.Tallies.{tally-more, tally-room}
use Rattle.log_model.specs.Format.{pair_of, pairs_of}
use Rattle.log_model.proofs.Lengths.{length-pair, length_pairs, pairs-more}
use Rattle.log_hops.specs.Put.{put}
use Rattle.log_hops.specs.Hop.{marked, db_bits, power_bits}
use Rattle.log_hops.proofs.Puts.{put-none, put_next}
use Rattle.log_hops.proofs.lent.Pairs.put_pairs.Goals as goal
use Rattle.log_hops.proofs.lent.Pairs.put_pairs.Goals.{then-is_changed, else-is_changed}

pub loop-k-init : goal.loop-k-init
unfolding tally pairs_of
loop-k-init c = (sym (add-zero c.args.at), sym (put-none c.args.at c.args.log.now))

pub put_pair-requires : goal.put_pair-requires
put_pair-requires c =
    let a = c.args in
    let S : ℕ → Bool = marked a.self.now a.from in
    omega (arith, tally-room c.loop-k.k a.self.now.n S (omega arith), ap one (sym c.is_changed.ensures ∙ c.if-is_changed.true))

pub overflow_add-pair : goal.overflow_add-pair
overflow_add-pair c =
    let a = c.args in
    let S : ℕ → Bool = marked a.self.now a.from in
    omega (arith, tally-room c.loop-k.k a.self.now.n S (omega arith), ap one (sym c.is_changed.ensures ∙ c.if-is_changed.true))

pub loop-k-preserved : goal.loop-k-preserved
loop-k-preserved c =
    let a = c.args in
    let l = c.loop-k in
    let k : ℕ = l.k in
    let S : ℕ → Bool = marked a.self.now a.from in
    let D : ℕ → ℕ = db_bits a.self.now a.from in
    let P : ℕ → ℕ = power_bits a.self.now a.from in
    let more : (b : Bool) → S k ≡ b → pairs_of k S D P ++ cond b (pair_of (D k) (P k)) [] ≡ pairs_of (k + 1) S D P =
    λ b h. ap (λ (t : Bool). pairs_of k S D P ++ cond t (pair_of (D k) (P k)) []) (sym h) ∙ sym (pairs-more S D P k) in
    elim c.if-is_changed.branch [
      | then-is_changed w ↦
          let h : S k ≡ true = sym c.is_changed.ensures ∙ w.if-is_changed.true in (
            omega (arith, w.pair-is, tally-more k S, ap one h),
            w.log-is ∙ w.put_pair.ensures
                ∙ put_next a.at l.pair (12 * tally k S) (pairs_of k S D P) (pair_of (D k) (P k)) a.log.now l.log (length_pairs S D P k) l.invariant.0
                l.invariant.1 (omega (arith, length-pair (D k) (P k), tally-room k a.self.now.n S (omega arith), ap one h))
                ∙ ap (λ (q : List ℕ). put a.at q a.log.now) (more true h),
          )
      | else-is_changed w ↦
          let h : S k ≡ false = sym c.is_changed.ensures ∙ w.if-is_changed.false in (
            omega (arith, w.pair-is, tally-more k S, ap one h),
            w.log-is ∙ l.invariant.1 ∙ ap (λ (q : List ℕ). put a.at q a.log.now) (sym (append-nil (pairs_of k S D P)) ∙ more false h),
          )
    ]
