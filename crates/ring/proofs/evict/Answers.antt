-- What the two stores leave is the channel without its oldest. Assumes nothing.
use Rattle.std.proofs.Common.{ℕ, ◌+◌, get_or, sym, ap, ◌∙◌, arith}
use Rattle.laws.proofs.Lists.{get_d_part}
use Rattle.model.specs.Layout.{bins, ring_len, at_counts}
use Rattle.model.specs.Stores.{chan_of}
use Rattle.model.proofs.DeadBranches.{counts-within}
use Rattle.ring.proofs.Entered.{evicted}
use Rattle.ring.proofs.evict.Goals as goal

pub overflow_sub-chan : goal.overflow_sub-chan
overflow_sub-chan c =
    let o = c.oldest_bin-oldest in
    let l = c.args.chan.now in
    omega (
      arith,
      ap (λ (k : ℕ). get_or l (at_counts + k) 0) c.from-at.ensures,
      sym (get_d_part at_counts bins l o.result 0 o.ensures.1) ∙ ap (λ (k : ℕ). get_or (chan_of l).counts k 0) o.ensures.0,
      (counts-within ring_len bins (chan_of l) c.requires.sound).lowered c.requires.at_filled_value,
    )

pub returns : goal.returns
returns c =
    let o = c.oldest_bin-oldest in
    rw (c.lead_left.ensures, c.from-at.ensures)
    (evicted c.args.chan.now (omega arith) o.result o.ensures.0 o.ensures.1)
