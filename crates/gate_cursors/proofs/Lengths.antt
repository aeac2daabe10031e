-- What a loop over the lengths of a ready gate knows of length j, and what it lends of the f64 store. Assumes nothing.
use mathlib.Core.Path.{◌≡◌, refl, sym, ap, subst, ◌∙◌}
use mathlib.Core.Bool.{Bool, true, false, ◌||◌}
use mathlib.Core.List.{List, [], ◌∷◌, ◌++◌}
use Prim.Native.Nat.{ℕ, zero, suc, ◌+◌, ◌-◌, ◌*◌, ◌<◌, ◌≤◌}
use native.Mathlib.Numerals.{add-one}
use native.Mathlib.Omega.{arith}
use lib.ListN.{length, get_or}
use lib.Ieee.{Float}
use Rattle.laws.specs.Lists.{part, tab}
use Rattle.laws.specs.Tests.{any_below}
use Rattle.laws.proofs.Lists.{width, length_part}
use Rattle.laws.proofs.Tabs.{tab-snoc}
use Rattle.model.specs.Windows.{PowerLooks, look_rises, any_rises}
use Rattle.model.specs.GateStores.{look_size, m_at, gate_of}
use Rattle.cursors.specs.declared.Cursor.{Cursor}
use Rattle.cursors.specs.Cursors.{CursorFits}
use Rattle.windows.specs.Looks.{LookFits, looks_in}
use Rattle.model.specs.GoodGate.{GateReady}
use Rattle.model.proofs.GateStores.{start_at, size_at, look_in}
use Rattle.model.proofs.GoodGates.{sizes, look-good, look-fits, looks-of}
use Rattle.gate_cursors.specs.Paired.{cursor_of}

-- the smoothed dB lie in the f64 store
pub smooth-within : (u : List ℕ) (f : List Float) → GateReady u f → get_or u 0 0 ≤ length f
smooth-within u f r = omega (arith, look-fits u f 0 r (sizes u f r).some)

-- length j of a ready gate; l is the f64 store as the loop finds it, with this length's part still as it was
module _ (u : List ℕ) (f : List Float) (r : GateReady u f) (j : ℕ) (h : j < get_or u 5 0) where
  pub small-length : (m : ℕ) → m ≡ m_at u j → m ≤ 375
  small-length m q = omega (arith, (look-good u f j r h).few)

  pub cursor-fits : (c : Cursor) → c ≡ cursor_of u j → CursorFits c
  cursor-fits c q =
      subst CursorFits (sym q)
      (let g = look-good u f j r h in record { some = g.some; few = g.few; at_below = g.cursor; filled_within = g.filled })

  module _ (l : List Float) (long : length l ≡ length f) (kept : part (start_at u j) (size_at u j) l ≡ part (start_at u j) (size_at u j) f) where
    -- n, m and a are what the code has: the channels, the length and where its part begins
    module _ (n m a : ℕ) (d : n ≡ get_or u 0 0) (q : m ≡ m_at u j) (b : a ≡ start_at u j) where
      pub lent-within : a + (2 * m * n + n + n) ≤ length l
      lent-within =
          subst (λ (x : ℕ). x ≤ length l) (λ i. sym b i + look_size (sym d i) (sym q i)) (omega (arith, look-fits u f j r h))

      pub lent_fits : LookFits (part a (a + (2 * m * n + n + n) - a) l) n m
      lent_fits =
          record {
            low = omega (arith, (sizes u f r).low);
            high = omega (arith, (sizes u f r).high);
            some = omega (arith, (look-good u f j r h).some);
            few = omega (arith, (look-good u f j r h).few);
            long = rw (width a (2 * m * n + n + n)) (length_part a (2 * m * n + n + n) l lent-within);
          }

    -- the windows that are lent are the gate's
    pub lent-looks : (n a : ℕ) (c : Cursor) → n ≡ get_or u 0 0 → c ≡ cursor_of u j → a ≡ start_at u j
        → looks_in (part a (a + look_size n c.m - a) l) c n ≡ look_in u f j
    lent-looks n a c d q b =
        ap (λ (w : ℕ). looks_in (part a w l) c n) (width a (look_size n c.m))
        ∙ (λ i. looks_in (part (b i) (look_size (d i) (q i).m) l) (q i) (d i))
        ∙ ap (λ (p : List Float). looks_in p (cursor_of u j) (get_or u 0 0)) kept

-- ---- some length rises

or-none : (p : Bool) → (p || false) ≡ p
or-none true = refl
or-none false = refl

or-more : (p q r : Bool) → (p || (q || r)) ≡ ((p || q) || r)
or-more true q r = refl
or-more false q r = refl

module _ (n : ℕ) (t : Float) (k : ℕ) where
  any_snoc : (ls : List PowerLooks) (l : PowerLooks) → any_rises n t k (ls ++ (l ∷ [])) ≡ (any_rises n t k ls || look_rises n t k l)
  any_snoc [] l = or-none (look_rises n t k l)
  any_snoc (x ∷ ls) l =
      ap (λ (b : Bool). look_rises n t k x || b) (any_snoc ls l) ∙ or-more (look_rises n t k x) (any_rises n t k ls) (look_rises n t k l)

  any-tab : (c : ℕ) (g : ℕ → PowerLooks) → any_rises n t k (tab c g) ≡ any_below c (λ j. look_rises n t k (g j))
  unfolding any_below
  any-tab zero g = refl
  any-tab (suc c) g =
      ap (λ (i : ℕ). any_rises n t k (tab i g)) (sym (add-one c))
      ∙ ap (any_rises n t k) (tab-snoc c g)
      ∙ any_snoc (tab c g) (g c)
      ∙ ap (λ (b : Bool). b || look_rises n t k (g c)) (any-tab c g)

-- length j rises, as the store has it
abbrev pub rises_at : List ℕ → List Float → Float → ℕ → ℕ → Bool
rises_at u f t k j = look_rises (get_or u 0 0) t k (look_in u f j)

pub any-is : (u : List ℕ) (f : List Float) (t : Float) (k : ℕ)
    → any_below (get_or u 5 0) (rises_at u f t k) ≡ any_rises (get_or u 0 0) t k (gate_of u f).looks
any-is u f t k = sym (ap (any_rises (get_or u 0 0) t k) (looks-of u f) ∙ any-tab (get_or u 0 0) t k (get_or u 5 0) (look_in u f))
