-- One bin more. The entries below a bin are at most filled, so the sum stays within 16 bits. Assumes nothing.
use Rattle.std.proofs.Common.{◌≡◌, ℕ, ◌+◌, ◌<◌, ◌≤◌, ltb, List, get_or, take, drop, length, ap, ◌∙◌, arith, length-take}
use Rattle.laws.proofs.Counts.{count-le}
use Rattle.laws.proofs.Lists.{get_d_part}
use Rattle.model.specs.Layout.{bins, ring_len, at_counts}
use Rattle.model.specs.Ring.{entries}
use Rattle.model.specs.Stores.{chan_of}
use Rattle.model.specs.Sound.{Sound}
use Rattle.model.proofs.Rank.{under_more}
use Rattle.model.proofs.ChannelRank.{count_at, length-entries}
use Rattle.quartile.specs.Scan.{stretch, entries_below}
use Rattle.quartile.proofs.Channel.stretch_sum.Goals as goal

-- w is the width of the stretch, as the code has it
bin-more : (l : List ℕ) (b i w : ℕ) → Sound ring_len bins (chan_of l) → b + stretch ≤ bins → w ≡ stretch → i < length (take w (drop (at_counts + b) l))
    → entries_below (b + i) (chan_of l) + get_or (take w (drop (at_counts + b) l)) i 0 ≡ entries_below (b + (i + 1)) (chan_of l)
bin-more l b i w s h e k =
    let lt : i < w = omega (arith, length-take w (drop (at_counts + b) l)) in
    let at : at_counts + b + i ≡ at_counts + (b + i) = omega arith in
    let next : b + (i + 1) ≡ b + i + 1 = omega arith in
    omega (
      arith,
      get_d_part (at_counts + b) w l i 0 lt ∙ ap (λ (j : ℕ). get_or l j 0) at ∙ count_at l (b + i) s (omega arith),
      under_more (b + i) (entries (chan_of l)),
      ap (λ (j : ℕ). entries_below j (chan_of l)) next,
    )

pub overflow_add-sum : goal.overflow_add-sum
overflow_add-sum c =
    let l = c.args.self.now.part.now in
    let i = c.loop-count.count-index in
    omega (
      arith,
      bin-more l c.args.b i _ c.args.self.now.sound c.requires (omega arith) c.loop-count-test.true,
      c.loop-count.invariant,
      count-le (λ (x : ℕ). ltb x (c.args.b + (i + 1))) (entries (chan_of l)),
      length-entries (chan_of l) c.args.self.now.sound,
      c.args.self.now.sound.filled_within,
    )

pub loop-count-preserved : goal.loop-count-preserved
loop-count-preserved c =
    omega (
      arith,
      bin-more c.args.self.now.part.now c.args.b c.loop-count.count-index _ c.args.self.now.sound c.requires (omega arith) c.loop-count-test.true,
      c.loop-count.invariant,
    )
