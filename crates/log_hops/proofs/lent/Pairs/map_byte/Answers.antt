-- A bit is set where its channel is one of the n and its pair changed.
use Rattle.std.proofs.Common.{refl, sym, ◌∙◌, ◌+◌, ◌*◌, ◌&&◌, ℕ, Bool, ltb, arith}
use borrow.Author.Tests.{lt-ltb, le-ltb}
use Rattle.laws.specs.Bits.{number}
use Rattle.laws.proofs.Tests.{and-true, and-false-l, and_false_r}
use Rattle.log_hops.specs.Hop.{marked}
use Rattle.log_hops.proofs.Bytes.{set_bit, clear_bit, bit-fits}
use Rattle.log_hops.proofs.lent.Pairs.map_byte.Goals as goal
use Rattle.log_hops.proofs.lent.Pairs.map_byte.Goals.{then-k-self+then-is_changed, else-k-self, else-k-self-via-then-k-self+else-is_changed, else-k-self-via-else-k-self}

pub loop-j-init : goal.loop-j-init
unfolding number
loop-j-init c = refl

pub overflow_add-byte : goal.overflow_add-byte
overflow_add-byte c = omega (arith, bit-fits c.loop-j.j c.loop-j.byte _ c.loop-j.invariant (omega arith))

pub loop-j-preserved : goal.loop-j-preserved
loop-j-preserved c =
    let s = c.args.self.now in
    let j = c.loop-j.j in
    let p : ℕ → Bool = λ j. ltb (8 * c.args.b + j) s.n && marked s c.args.from (8 * c.args.b + j) in
    elim c.if-k-self.branch [
      | then-k-self+then-is_changed w ↦
          w.byte-is ∙ set_bit j c.loop-j.byte p c.loop-j.invariant (omega arith) (and-true _ _ (lt-ltb _ _ w.if-k-self.true) (sym w.is_changed.ensures ∙ w.if-is_changed.true))
      | else-k-self w ↦
          w.byte-is
          ∙ clear_bit j c.loop-j.byte p c.loop-j.invariant
          elim w.else-k-self.branch [
            | else-k-self-via-then-k-self+else-is_changed v ↦ and_false_r _ _ (sym v.is_changed.ensures ∙ v.if-is_changed.false)
            | else-k-self-via-else-k-self v ↦ and-false-l _ _ (le-ltb _ _ v.if-k-self.false)
          ]
    ]
