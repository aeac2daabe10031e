use Rattle.std.proofs.Common.{◌+◌, ◌*◌, ◌%◌, ◌∙◌, sym, ap, ℕ, get_or, arith}
use mathlib.Core.Path.{ap₂}
use lib.ListN.{set}
use Rattle.model.specs.Stores.{bank_of}
use Rattle.model.specs.Readings.{effective_at}
use Rattle.worst.specs.Floors.{entered}
use Rattle.worst.proofs.Carries.{places, taken-u, taken-f}
use Rattle.worst.proofs.take_floors.Goals as goal

pub enter_floors-requires : goal.enter_floors-requires
enter_floors-requires c =
    let p = places c.args.worst.now c.args.worst_f.now c.requires.1 in
    (c.requires.0, c.requires.1.long_f ∙ ap₂ (λ (x y : ℕ). x * y) (sym c.from.ensures) (sym c.requires.2), omega (arith, c.from-2.ensures, c.from.ensures, p.next_below))

pub overflow_add-worst : goal.overflow_add-worst
overflow_add-worst c = let p = places c.args.worst.now c.args.worst_f.now c.requires.1 in omega (arith, p.next_below, p.few)

pub nonzero_rem-worst : goal.nonzero_rem-worst
nonzero_rem-worst c = let p = places c.args.worst.now c.args.worst_f.now c.requires.1 in omega (arith, p.some)

pub one_more-requires : goal.one_more-requires
one_more-requires c = (places c.args.worst.now c.args.worst_f.now c.requires.1).filled_within

pub returns : goal.returns
returns c =
    let wu = c.args.worst.now in
    let wf = c.args.worst_f.now in
    let b = bank_of c.args.bank.now c.args.bank_f.now in
    record {
      u16s = ap (λ (x : ℕ). set (set wu 2 ((get_or wu 2 0 + 1) % get_or wu 1 0)) 3 x) c.one_more.ensures ∙ taken-u b wu wf c.requires.1.four;
      floats = c.enter_floors.ensures ∙ (λ i. entered (c.requires.2 i) (c.from.ensures i) (c.from-2.ensures i) (effective_at b) wf) ∙ taken-f b wu wf;
    }
