use Rattle.std.proofs.Common.{◌+◌, ◌*◌, ◌≡◌, refl, length, arith}
use Rattle.laws.proofs.Lists.{width}
use Rattle.model.specs.Bank.{blocks}
use Rattle.bank_stages.proofs.Loops.{seeds-ask, seeds-done}
use Rattle.bank_pushes.proofs.take_seeds.Goals as goal

pub seed_blocks-requires : goal.seed_blocks-requires
seed_blocks-requires c =
    let db = c.args.power_db.now in
    let n = length db in
    let d : c.div_ceil-blocks.result ≡ blocks n = omega (arith, c.div_ceil-blocks.ensures) in
    rw (d, width 3 (blocks n), width (4 * n + blocks n) (blocks n)) (seeds-ask c.args.bank.now c.args.bank_f.now c.requires.0 n c.requires.1 db refl)

pub returns : goal.returns
returns c =
    let db = c.args.power_db.now in
    let n = length db in
    let d : c.div_ceil-blocks.result ≡ blocks n = omega (arith, c.div_ceil-blocks.ensures) in
    let e = rw (d, width 3 (blocks n), width (4 * n + blocks n) (blocks n)) at c.seed_blocks.ensures in
    rw (d, width 3 (blocks n), width (4 * n + blocks n) (blocks n)) (seeds-done c.args.bank.now c.args.bank_f.now c.requires.0 n c.requires.1 db refl c.seed_blocks.new.seeds c.seed_blocks.new.sums e)
