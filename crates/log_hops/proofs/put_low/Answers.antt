-- Each byte is what is left, but for a multiple of 256.
use Rattle.std.proofs.Common.{refl, ap, ◌∙◌, ◌-◌, ◌+◌, ◌/◌, ◌%◌, ℕ, arith}
use Rattle.laws.proofs.Fills.{begins, turns}
use Rattle.low_first.specs.LowFirst.{without, low_bytes}
use Rattle.low_first.proofs.Bytes.{without_more}
use Rattle.log_hops.proofs.Puts.{put-part}
use Rattle.log_hops.proofs.put_low.Goals as goal

pub loop-byte-init : goal.loop-byte-init
unfolding without
loop-byte-init c = (refl, begins _ _)

pub loop-byte-preserved : goal.loop-byte-preserved
loop-byte-preserved c =
    let l = c.loop-byte in (
      ap (λ (v : ℕ). v / 256) l.invariant.0 ∙ without_more l.byte-index c.args.x,
      turns _ _ l.byte-index l.byte-items _ l.invariant.1 (omega arith) (ap (λ (v : ℕ). v % 256) l.invariant.0),
    )

pub returns : goal.returns
unfolding low_bytes
returns c =
    let a = c.args in
    let l = c.loop-byte in
    put-part a.at (a.at + a.width - a.at) a.width l.byte-index a.log.now l.byte-items _ (omega arith) c.requires l.invariant.1 (omega arith)
