-- `gate_sound::f_len`: the floats before length j, which are few enough for the sum to fit.
use Rattle.std.proofs.Common.{◌≡◌, ◌≤◌, ◌+◌, ◌*◌}
use Rattle.model.specs.GateStores.{m_at, look_start}
use Rattle.gate_sound.proofs.f_len.Given as goal

abbrev pub invariant-loop-j : goal.invariant-loop-j
invariant-loop-j l = record {
  so_far : l.floats ≡ look_start l.n (m_at l.gate) l.j;
  fits : l.floats ≤ 512 + 385024 * l.j;
}
