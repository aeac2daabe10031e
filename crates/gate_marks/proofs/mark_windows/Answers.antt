-- `gate_marks::mark_windows`: what a turn lends of the f64 store, and the marks that it leaves.
use Rattle.std.proofs.Common.{◌≡◌, ◌<◌, ◌≤◌, ◌+◌, ◌-◌, ◌*◌, List, ℕ, length, get_or, refl, sym, ap, ◌∙◌, arith}
use native.Mathlib.Numerals.{add-one}
use lib.Ieee.{Float}
use Rattle.laws.specs.Lists.{tab}
use Rattle.laws.proofs.Lists.{length_part}
use Rattle.laws.proofs.Tabs.{length-tab, tab-ext}
use Rattle.cursors.specs.declared.Cursor.{Cursor}
use Rattle.model.specs.Numbers.{f0}
use Rattle.model.specs.Windows.{look_rises}
use Rattle.model.specs.GateStores.{look_size}
use Rattle.model.specs.GoodGate.{GateReady}
use Rattle.model.proofs.GateStores.{start_at}
use Rattle.model.proofs.GoodGates.{sizes}
use Rattle.window_rises.specs.Marking.{marked}
use Rattle.gate_cursors.specs.Paired.{cursor_of}
use Rattle.gate_cursors.proofs.Lengths.{smooth-within, lent-within, lent_fits, lent-looks}
use Rattle.gate_marks.proofs.Marks.{mark_after, none_yet, one_more, all_tested, thresholds-are}
use Rattle.gate_marks.proofs.mark_windows.Goals as goal

-- length j of the gate: its part, of n channels, begins at a, and c is its cursor
room : (u : List ℕ) (f : List Float) → GateReady u f → (j : ℕ) → j < get_or u 5 0 → (n a : ℕ) (c : Cursor) → n ≡ get_or u 0 0 → c ≡ cursor_of u j
    → a ≡ start_at u j → a + (2 * c.m * n + n + n) ≤ length f
room u f r j h n a c d q b = lent-within u f r j h f refl refl n c.m a d (ap (λ (x : Cursor). x.m) q) b

pub loop-j-init : goal.loop-j-init
loop-j-init c = record {
  place = c.requires.1;
  as_long = refl;
  tested = none_yet c.args.gate.now c.args.gate_f.now c.args.rise.now;
}

pub cursor-c-requires : goal.cursor-c-requires
cursor-c-requires c = omega (arith, c.requires.0.long, (sizes c.args.gate.now c.args.gate_f.now c.requires.0).few)

pub overflow_add-e-in-loop-j-2 : goal.overflow_add-e-in-loop-j-2
overflow_add-e-in-loop-j-2 c = omega (arith, room _ _ c.requires.0 c.loop-j.j (omega arith) _ _ _ c.requires.1 c.cursor-c.ensures c.loop-j.invariant.place)

pub offset_bounds-gate_f-at : goal.offset_bounds-gate_f-at
offset_bounds-gate_f-at c = omega (arith, room _ _ c.requires.0 c.loop-j.j (omega arith) _ _ _ c.requires.1 c.cursor-c.ensures c.loop-j.invariant.place)

pub slice_bounds-mark_look-end : goal.slice_bounds-mark_look-end
slice_bounds-mark_look-end c = omega (arith, room _ _ c.requires.0 c.loop-j.j (omega arith) _ _ _ c.requires.1 c.cursor-c.ensures c.loop-j.invariant.place)

pub mark_look-requires : goal.mark_look-requires
mark_look-requires c =
    let f = c.args.gate_f.now in
    let n = length c.args.rise.now in
    let fits : n ≤ length f = omega (arith, smooth-within c.args.gate.now f c.requires.0) in (
      rw c.loop-j.invariant.as_long
          (lent_fits c.args.gate.now f c.requires.0 c.loop-j.j (omega arith) f refl refl n c.cursor-c.result.m c.loop-j.at c.requires.1
          (ap (λ (x : Cursor). x.m) c.cursor-c.ensures) c.loop-j.invariant.place),
      omega (arith, length_part (length f - n) (length f - (length f - n)) f (omega arith)),
    )

pub loop-j-preserved : goal.loop-j-preserved
loop-j-preserved c =
    let u = c.args.gate.now in
    let f = c.args.gate_f.now in
    let r₀ = c.args.rise.now in
    let n = length r₀ in
    let j = c.loop-j.j in
    let d : n ≡ get_or u 0 0 = c.requires.1 in
    let h : j < get_or u 5 0 = omega arith in
    let t = thresholds-are u f n c.requires.0 d in
    let looks = lent-looks u f c.requires.0 j h f refl refl n c.loop-j.at c.cursor-c.result d c.cursor-c.ensures c.loop-j.invariant.place in
    let after : c.mark_look.new.rise ≡ tab n (mark_after u f r₀ (j + 1)) =
    (rw c.loop-j.invariant.as_long at c.mark_look.ensures)
    ∙ tab-ext n _ _ (λ k _. ap (marked (get_or c.loop-j.rise k 0)) (λ i. look_rises (d i) (get_or (t i) k f0) k (looks i)))
    ∙ one_more u f r₀ j n c.loop-j.rise c.loop-j.invariant.tested in
    record {
      place =
          (λ i. c.loop-j.invariant.place i + look_size (d i) (c.cursor-c.ensures i).m) ∙ ap (start_at u) (sym (add-one j));
      as_long = ap length after ∙ length-tab n (mark_after u f r₀ (j + 1));
      tested = after;
    }

pub returns : goal.returns
returns c =
    c.loop-j.invariant.tested
    ∙ all_tested c.args.gate.now c.args.gate_f.now c.args.rise.now c.loop-j.j (length c.args.rise.now) (omega arith)
