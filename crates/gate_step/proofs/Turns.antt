-- The loop that steps the windows of each length: what it asks, and what a turn leaves. Assumes nothing.
use mathlib.Core.Path.{◌≡◌, refl, sym, ap, ◌∙◌}
use mathlib.Core.List.{List, map}
use Prim.Native.Nat.{ℕ, ◌+◌, ◌-◌, ◌*◌, ◌<◌}
use native.Mathlib.Omega.{arith}
use lib.ListN.{length, get_or, set}
use lib.Ieee.{Float}
use Rattle.laws.specs.Lists.{part, splice}
use Rattle.laws.proofs.Lists.{width}
use Rattle.model.specs.Windows.{PowerLooks, step_look}
use Rattle.model.specs.GateStores.{look_size, look_f, gate_u16s, gate_floats, gate_of}
use Rattle.cursors.specs.declared.Cursor.{Cursor}
use Rattle.windows.specs.Looks.{cursor_in, sample_at, stepped_look}
use Rattle.model.specs.GoodGate.{GoodLook, GateReady}
use Rattle.model.proofs.GateStores.{start_at, size_at, look_in}
use Rattle.model.proofs.GoodGates.{look-good}
use Rattle.gate_step.proofs.Looks.{Steady, steady-step, looks_u, looks_f, looks-long-f, looks-lent, looks-ahead, looks-turn-u, looks-turn-f, looks-end-u, looks-end-f}
use Rattle.model.proofs.FreshGates.{with_looks, good-step-look}
use Rattle.gate_cursors.specs.Paired.{cursor_of}
use Rattle.gate_step.specs.Steps.{Holds, looks_step}
use Rattle.gate_cursors.proofs.Lengths.{lent-looks}

-- one hop of one length
abbrev pub hop_of : List ℕ → List Float → PowerLooks → PowerLooks
hop_of u samples = step_look (get_or u 0 0) (sample_at samples)

-- what the turn of length j does to u₁ and f₁: next is the cursor and l the part that the hop leaves, w its width
pub record Turned (u : List ℕ) (f samples : List Float) (j : ℕ) (u₁ : List ℕ) (f₁ : List Float) (a w : ℕ) (next : Cursor) (l : List Float) : Type 0 where
  pub at_small : next.at < 65536
  pub filled_small : next.filled < 65536
  pub u16s : set (set u₁ (6 + 3 * j + 1) next.at) (6 + 3 * j + 2) next.filled ≡ looks_u u f (hop_of u samples) (j + 1)
  pub floats : splice a w f₁ l ≡ looks_f u f (hop_of u samples) (j + 1)

module _ (u : List ℕ) (f samples : List Float) (r : GateReady u f) where
  pub hop-steady : Steady u f (hop_of u samples)
  hop-steady = steady-step u f (sample_at samples) r

  -- the turn of length j: u₁ and f₁ are what the turns before left
  module _ (j : ℕ) (h : j < get_or u 5 0) (u₁ : List ℕ) (f₁ : List Float) (s : u₁ ≡ looks_u u f (hop_of u samples) j) (t : f₁ ≡ looks_f u f (hop_of u samples) j) where
    pub turn-long : length f₁ ≡ length f
    turn-long = ap length t ∙ looks-long-f u f (hop_of u samples) r hop-steady j (omega arith)

    pub turn-kept : part (start_at u j) (size_at u j) f₁ ≡ part (start_at u j) (size_at u j) f
    turn-kept = ap (part (start_at u j) (size_at u j)) t ∙ looks-lent u f (hop_of u samples) r hop-steady j h

    pub turn-cursor : cursor_of u₁ j ≡ cursor_of u j
    turn-cursor =
        ap (λ (v : List ℕ). cursor_of v j) s
        ∙ (λ i.
        record {
          m = looks-ahead u f (hop_of u samples) r hop-steady j (6 + 3 * j) (omega arith) i;
          at = looks-ahead u f (hop_of u samples) r hop-steady j (6 + 3 * j + 1) (omega arith) i;
          filled = looks-ahead u f (hop_of u samples) r hop-steady j (6 + 3 * j + 2) (omega arith) i;
        })

    next-good : GoodLook (get_or u 0 0) (hop_of u samples (look_in u f j))
    next-good = good-step-look (get_or u 0 0) (sample_at samples) (look_in u f j) (look-good u f j r h)

    -- what the step of the lent part leaves; a is where it begins, c its cursor
    module _ (a : ℕ) (c next : Cursor) (l : List Float) (d : length samples ≡ get_or u 0 0) (q : c ≡ cursor_of u₁ j) (b : a ≡ start_at u j)
        (e : (next, l) ≡ stepped_look (part a (a + look_size (length samples) c.m - a) f₁) c samples) where
      stepped : step_look (length samples) (sample_at samples) (look_in u f j) ≡ hop_of u samples (look_in u f j)
      stepped = ap (λ (n : ℕ). step_look n (sample_at samples) (look_in u f j)) d

      both : ◌≡◌ {A = Cursor × List Float} (next, l) (cursor_in (hop_of u samples (look_in u f j)), look_f (hop_of u samples (look_in u f j)))
      unfolding stepped_look
      both =
          e
          ∙ ap (λ (x : PowerLooks). (cursor_in x, look_f x))
          (ap (step_look (length samples) (sample_at samples)) (lent-looks u f r j h f₁ turn-long turn-kept (length samples) a c d (q ∙ turn-cursor) b) ∙ stepped)

      next_is : next ≡ cursor_in (hop_of u samples (look_in u f j))
      next_is = ap (λ (p : Cursor × List Float). p.0) both

      pub turned : Turned u f samples j u₁ f₁ a (a + look_size (length samples) c.m - a) next l
      turned =
          let g = next-good in
          record {
            at_small = omega (arith, ap (λ (x : Cursor). x.at) next_is, g.cursor, g.few);
            filled_small = omega (arith, ap (λ (x : Cursor). x.filled) next_is, g.filled, g.few);
            u16s =
                (λ i. set (set (s i) (6 + 3 * j + 1) (next_is i).at) (6 + 3 * j + 2) (next_is i).filled)
                ∙ looks-turn-u u f (hop_of u samples) r hop-steady j h;
            floats =
                ap (λ (w : ℕ). splice a w f₁ l) (width a (look_size (length samples) c.m))
                ∙ (λ i. splice (b i) (look_size (d i) ((q ∙ turn-cursor) i).m) (t i) (both i).1)
                ∙ looks-turn-f u f (hop_of u samples) r hop-steady j h;
          }

  -- all lengths have had their turn
  looks-are : looks_step samples (gate_of u f) ≡ with_looks (gate_of u f) (map (hop_of u samples) (gate_of u f).looks)
  unfolding looks_step gate_of
  looks-are = refl

  pub turns-done : (j : ℕ) (u₁ : List ℕ) (f₁ : List Float) → j ≡ get_or u 5 0 → u₁ ≡ looks_u u f (hop_of u samples) j → f₁ ≡ looks_f u f (hop_of u samples) j
      → Holds (looks_step samples (gate_of u f)) u₁ f₁
  turns-done j u₁ f₁ e s t =
      record {
        u16s = s ∙ ap (looks_u u f (hop_of u samples)) e ∙ looks-end-u u f (hop_of u samples) r ∙ ap gate_u16s (sym looks-are);
        floats = t ∙ ap (looks_f u f (hop_of u samples)) e ∙ looks-end-f u f (hop_of u samples) r ∙ ap gate_floats (sym looks-are);
      }
