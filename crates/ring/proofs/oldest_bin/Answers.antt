-- The next place is one of the ring, so a bin stands there. Assumes nothing.
use Rattle.std.proofs.Common.{◌≡◌, ℕ, ◌<◌, get_or, sym, ap, ◌∙◌, arith, get_or-take}
use Rattle.model.specs.Layout.{ring_len, at_next}
use Rattle.model.specs.Ring.{oldest}
use Rattle.model.specs.Stores.{chan_of}
use Rattle.ring.proofs.oldest_bin.Goals as goal

pub returns : goal.returns
returns c =
    let l = c.args.chan.now in
    let below : get_or l at_next 0 < ring_len = c.requires.next_below in
    let e : get_or l c.from.result 0 ≡ oldest (chan_of l) =
    ap (λ (k : ℕ). get_or l k 0) c.from.ensures ∙ sym (get_or-take ring_len l (get_or l at_next 0) 0 below) in
    (e, omega (arith, e, c.requires.bins_below (get_or l at_next 0) below))
