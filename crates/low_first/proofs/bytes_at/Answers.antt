-- Each byte is what its own call gives.
use Rattle.std.proofs.Common.{◌+◌, ℕ, rules, arith}
use Rattle.low_first.specs.LowFirst.{byte_at}
use Rattle.low_first.proofs.Made.{made_at}
use Rattle.low_first.proofs.bytes_at.Goals as goal

pub returns : goal.returns
returns g c i h =
    made_at (λ (k : ℕ). byte_at c.args.list.now (c.args.at + k)) _ (λ x y q k. search rules) c.from_fn.result g.row.N 0 i c.from_fn.ensures.items.each (omega arith) (omega arith)
