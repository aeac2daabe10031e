-- With nothing to skip, the raw floor is the usable one. Assumes nothing.
use Rattle.std.proofs.Common.{◌≡◌, ap, ◌∙◌, sym}
use borrow.Author.Tests.{eqb-true, eqb-false}
use Rattle.model.specs.Ring.{raw_floor, usable_floor, quartile}
use Rattle.model.specs.Stores.{chan_of}
use Rattle.model.proofs.ChannelRank.{no_lead, all-lead, some-lead}
use Rattle.quartile.proofs.usable_floor.Goals as goal
use Rattle.quartile.proofs.usable_floor.Goals.{then-lead-eq0, else-lead-eq0}

pub returns-then-lead-chan : goal.returns-then-lead-chan
returns-then-lead-chan c =
    let k = chan_of c.args.chan.now in
    let same : raw_floor k ≡ usable_floor k =
    elim c.if-lead-eq0.branch [
      | then-lead-eq0 w ↦ no_lead k w.if-lead-eq0.true
      | else-lead-eq0 w ↦ all-lead k (eqb-true k.lead k.filled (sym w.value-is ∙ c.if-lead-chan.true))
    ] in
    c.requires.raw_value ∙ same

pub returns-else-lead-chan : goal.returns-else-lead-chan
returns-else-lead-chan c =
    let k = chan_of c.args.chan.now in
    let some : quartile k.lead k ≡ usable_floor k =
    elim c.if-lead-eq0.branch [
      | then-lead-eq0 w ↦ absurd (eqb-false k.lead 0 (sym w.value-is ∙ c.if-lead-chan.false) w.if-lead-eq0.true)
      | else-lead-eq0 w ↦ some-lead k (eqb-false k.lead k.filled (sym w.value-is ∙ c.if-lead-chan.false))
    ] in
    c.quartile.ensures ∙ ap (λ (j : _). quartile j k) c.from.ensures ∙ some
