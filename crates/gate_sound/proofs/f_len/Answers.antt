-- `gate_sound::f_len`: what the lengths of a sound gate ask.
use Rattle.std.proofs.Common.{refl, arith}
use Rattle.gate_sound.proofs.Sizes.{sized}
use Rattle.gate_sound.proofs.f_len.Goals as goal

pub loop-j-init : goal.loop-j-init
loop-j-init c = record { so_far = refl; fits = omega (arith, (sized c.args.gate.now c.requires).high) }

pub bounds-gate-j : goal.bounds-gate-j
bounds-gate-j c = omega (arith, (sized c.args.gate.now c.requires).few)

pub look_size-floats-requires : goal.look_size-floats-requires
look_size-floats-requires c =
    let s = sized c.args.gate.now c.requires in
    (omega (arith, s.high), omega (arith, s.short c.loop-j.j (omega arith)))
