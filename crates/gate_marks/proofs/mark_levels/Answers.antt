-- `gate_marks::mark_levels`: the two marks of one channel.
use Rattle.std.proofs.Common.{◌≡◌, ◌<◌, ◌∙◌, get_or, ap, arith}
use lib.Ieee.{Float, nan, binary64, add, lt}
use Rattle.laws.specs.Lists.{one}
use Rattle.laws.proofs.Counts.{flag}
use Rattle.laws.proofs.Fills.{turns}
use Rattle.model.specs.Stores.{bank_of}
use Rattle.model.specs.Gate.{early_rise, is_drop_at}
use Rattle.model.specs.GateStores.{gate_of}
use Rattle.channel_readings.proofs.Places.{from_ready}
use Rattle.gate_marks.proofs.Marks.{early-is, drop-is}
use Rattle.gate_marks.proofs.mark_levels.Invariants.{rise_of, drop_of}
use Rattle.gate_marks.proofs.mark_levels.Goals as goal

pub invariant_of-effective : goal.invariant_of-effective
invariant_of-effective c = record {
  readable = from_ready c.args.bank.now c.args.bank_f.now c.loop-k.k c.requires.0.bank (omega (arith, c.requires.0.same));
}

pub loop-k-preserved : goal.loop-k-preserved
loop-k-preserved c =
    let bu = c.args.bank.now in
    let bf = c.args.bank_f.now in
    let gu = c.args.gate.now in
    let gf = c.args.gate_f.now in
    let k = c.loop-k.k in
    let b = bank_of bu bf in
    let x = c.effective-effective.result in
    let xs = c.effective-effective.ensures in
    let below : k < get_or gu 0 0 = omega arith in
    let rises : c.early_rise.result ≡ early_rise (gate_of gu gf) b k =
    c.early_rise.ensures ∙ early-is gu gf b k c.requires.0.gate below x xs in
    let drops : c.drop_at.result ≡ is_drop_at (gate_of gu gf) b k =
    c.drop_at.ensures
    ∙ ap (λ (y : Float). lt (get_or gf k nan) (add binary64 x y)) c.level-off.ensures
    ∙ drop-is gu gf b k c.requires.0.gate below x xs in
    record {
      rises = turns c.args.rise.now (rise_of bu bf gu gf) k c.loop-k.rise c.from.result c.loop-k.invariant.rises (omega arith)
          (c.from.ensures ∙ flag c.early_rise.result ∙ ap one rises);
      drops = turns c.args.drop.now (drop_of bu bf gu gf) k c.loop-k.drop c.from-in-loop-k.result c.loop-k.invariant.drops (omega arith)
          (c.from-in-loop-k.ensures ∙ flag c.drop_at.result ∙ ap one drops);
    }
