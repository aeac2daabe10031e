-- `gate_step::step_looks`: what a turn reads and lends of the two stores, and what it leaves.
use Rattle.std.proofs.Common.{◌≡◌, ◌<◌, ◌≤◌, ◌+◌, ◌-◌, ◌*◌, List, ℕ, length, get_or, sym, ap, ◌∙◌, arith}
use native.Mathlib.Numerals.{add-one}
use lib.Ieee.{Float}
use Rattle.laws.specs.Lists.{part}
use Rattle.cursors.specs.declared.Cursor.{Cursor}
use Rattle.cursors.specs.Cursors.{CursorFits}
use Rattle.model.specs.GateStores.{look_size}
use Rattle.model.specs.GoodGate.{GateReady}
use Rattle.model.proofs.GateStores.{start_at}
use Rattle.model.proofs.GoodGates.{sizes}
use Rattle.windows.specs.Looks.{LookFits}
use Rattle.gate_cursors.specs.Paired.{cursor_of}
use Rattle.gate_cursors.proofs.Lengths.{lent-within, lent_fits, small-length, cursor-fits}
use Rattle.gate_step.proofs.Looks.{looks_u, looks_f, looks-long-u}
use Rattle.gate_step.proofs.Turns.{hop_of, hop-steady, turn-long, turn-kept, turn-cursor, turned, turns-done}
use Rattle.gate_step.proofs.step_looks.Goals as goal

-- the turn of length j: u₁ and f₁ are what the turns before left
module _ (u : List ℕ) (f samples : List Float) (r : GateReady u f) (j : ℕ) (h : j < get_or u 5 0) (u₁ : List ℕ) (s : u₁ ≡ looks_u u f (hop_of u samples) j) where
  triple-within : 6 + 3 * j + 2 < length u₁
  triple-within = omega (arith, ap length s, looks-long-u u f (hop_of u samples) r (hop-steady u f samples r) j (omega arith), (sizes u f r).few)

  -- a is where the length's part begins, and c its cursor
  module _ (f₁ : List Float) (t : f₁ ≡ looks_f u f (hop_of u samples) j) (a : ℕ) (b : a ≡ start_at u j) (c : Cursor) (q : c ≡ cursor_of u₁ j) (d : length samples ≡ get_or u 0 0) where
    is : c ≡ cursor_of u j
    is = q ∙ turn-cursor u f samples r j h u₁ f₁ s t

    small : c.m ≤ 375
    small = small-length u f r j h c.m (ap (λ (x : Cursor). x.m) is)

    room : (a + (2 * c.m * length samples + length samples + length samples) ≤ length f₁) × (length f₁ ≡ length f)
    room = (
      lent-within u f r j h f₁ (turn-long u f samples r j h u₁ f₁ s t) (turn-kept u f samples r j h u₁ f₁ s t) (length samples) c.m a d
          (ap (λ (x : Cursor). x.m) is) b,
      turn-long u f samples r j h u₁ f₁ s t,
    )

    lent : LookFits (part a (a + (2 * c.m * length samples + length samples + length samples) - a) f₁) (length samples) c.m × CursorFits c
    lent = (
      lent_fits u f r j h f₁ (turn-long u f samples r j h u₁ f₁ s t) (turn-kept u f samples r j h u₁ f₁ s t) (length samples) c.m a d
          (ap (λ (x : Cursor). x.m) is) b,
      cursor-fits u f r j h c is,
    )

    next-place : a + (2 * c.m * length samples + length samples + length samples) ≡ start_at u (j + 1)
    next-place = (λ i. b i + look_size (d i) (is i).m) ∙ ap (start_at u) (sym (add-one j))

pub cursor-c-requires : goal.cursor-c-requires
cursor-c-requires c = triple-within _ _ _ c.requires.0 c.loop-j.j (omega arith) _ c.loop-j.invariant.u16s

pub overflow_mul-e : goal.overflow_mul-e
overflow_mul-e c = omega (arith, small _ _ _ c.requires.0 c.loop-j.j (omega arith) _ c.loop-j.invariant.u16s _ c.loop-j.invariant.floats _ c.loop-j.invariant.place _ c.cursor-c.ensures c.requires.1)

pub overflow_mul-e-in-loop-j : goal.overflow_mul-e-in-loop-j
overflow_mul-e-in-loop-j c = omega (arith, room _ _ _ c.requires.0 c.loop-j.j (omega arith) _ c.loop-j.invariant.u16s _ c.loop-j.invariant.floats _ c.loop-j.invariant.place _ c.cursor-c.ensures c.requires.1)

pub overflow_add-e : goal.overflow_add-e
overflow_add-e c = omega (arith, room _ _ _ c.requires.0 c.loop-j.j (omega arith) _ c.loop-j.invariant.u16s _ c.loop-j.invariant.floats _ c.loop-j.invariant.place _ c.cursor-c.ensures c.requires.1)

pub overflow_add-e-in-loop-j : goal.overflow_add-e-in-loop-j
overflow_add-e-in-loop-j c = omega (arith, room _ _ _ c.requires.0 c.loop-j.j (omega arith) _ c.loop-j.invariant.u16s _ c.loop-j.invariant.floats _ c.loop-j.invariant.place _ c.cursor-c.ensures c.requires.1)

pub overflow_add-e-in-loop-j-2 : goal.overflow_add-e-in-loop-j-2
overflow_add-e-in-loop-j-2 c = omega (arith, room _ _ _ c.requires.0 c.loop-j.j (omega arith) _ c.loop-j.invariant.u16s _ c.loop-j.invariant.floats _ c.loop-j.invariant.place _ c.cursor-c.ensures c.requires.1)

pub offset_bounds-gate_f-at : goal.offset_bounds-gate_f-at
offset_bounds-gate_f-at c = omega (arith, room _ _ _ c.requires.0 c.loop-j.j (omega arith) _ c.loop-j.invariant.u16s _ c.loop-j.invariant.floats _ c.loop-j.invariant.place _ c.cursor-c.ensures c.requires.1)

pub slice_bounds-step_look-end : goal.slice_bounds-step_look-end
slice_bounds-step_look-end c = omega (arith, room _ _ _ c.requires.0 c.loop-j.j (omega arith) _ c.loop-j.invariant.u16s _ c.loop-j.invariant.floats _ c.loop-j.invariant.place _ c.cursor-c.ensures c.requires.1)

pub step_look-next-requires : goal.step_look-next-requires
step_look-next-requires c = lent _ _ _ c.requires.0 c.loop-j.j (omega arith) _ c.loop-j.invariant.u16s _ c.loop-j.invariant.floats _ c.loop-j.invariant.place _ c.cursor-c.ensures c.requires.1

pub put_cursor-requires : goal.put_cursor-requires
put_cursor-requires c =
    let t = turned _ _ _ c.requires.0 c.loop-j.j (omega arith) _ _ c.loop-j.invariant.u16s c.loop-j.invariant.floats c.loop-j.at c.cursor-c.result
    c.step_look-next.result c.step_look-next.new.look c.requires.1 c.cursor-c.ensures c.loop-j.invariant.place c.step_look-next.ensures in
    (triple-within _ _ _ c.requires.0 c.loop-j.j (omega arith) _ c.loop-j.invariant.u16s, t.at_small, t.filled_small)

pub loop-j-preserved : goal.loop-j-preserved
loop-j-preserved c =
    let t = turned _ _ _ c.requires.0 c.loop-j.j (omega arith) _ _ c.loop-j.invariant.u16s c.loop-j.invariant.floats c.loop-j.at c.cursor-c.result
    c.step_look-next.result c.step_look-next.new.look c.requires.1 c.cursor-c.ensures c.loop-j.invariant.place c.step_look-next.ensures in
    record {
      place = next-place _ _ _ c.requires.0 c.loop-j.j (omega arith) _ c.loop-j.invariant.u16s _ c.loop-j.invariant.floats _ c.loop-j.invariant.place _ c.cursor-c.ensures c.requires.1;
      u16s = c.put_cursor.ensures ∙ t.u16s;
      floats = t.floats;
    }

pub returns : goal.returns
returns c = turns-done _ _ _ c.requires.0 c.loop-j.j _ _ (omega arith) c.loop-j.invariant.u16s c.loop-j.invariant.floats
