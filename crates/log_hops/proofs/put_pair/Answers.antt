-- The eight bytes and behind them the four.
use Rattle.std.proofs.Common.{refl, ap, ◌∙◌, ◌+◌, ℕ, arith}
use Rattle.low_first.specs.LowFirst.{low_bytes}
use Rattle.low_first.proofs.Bytes.{length-low}
use Rattle.log_model.specs.Format.{pair_of}
use Rattle.log_hops.specs.Put.{put}
use Rattle.log_hops.proofs.Puts.{put_next}
use Rattle.log_hops.proofs.put_pair.Goals as goal

pub returns : goal.returns
unfolding pair_of
returns c =
    let a = c.args in
    c.put_low-2.ensures
    ∙ ap (λ (p : ℕ). put (a.at + 8) (low_bytes 4 p) c.put_low.new.log) c.from.ensures
    ∙ put_next a.at (a.at + 8) 8 (low_bytes 8 a.db) (low_bytes 4 a.power) a.log.now c.put_low.new.log (length-low 8 a.db) refl c.put_low.ensures
    (omega (arith, length-low 4 a.power))
