-- One hop of the windows of one length, put together: the part with the samples taken, and with the sums taken afresh. Assumes nothing.
use mathlib.Core.Path.{◌≡◌, refl, sym, ap, ap₂, subst, ◌∙◌}
use mathlib.Core.List.{List, []}
use Prim.Native.Nat.{ℕ, zero, suc}
use lib.ListN.{length, set, length-set}
use lib.Ieee.{Float}
use Rattle.laws.proofs.Tabs.{length-tab, get_d-tab}
use Rattle.model.specs.Windows.{PowerLooks, ring_of, turned, push_look, advance_look, rebase_look, settle_at, step_look}
use Rattle.model.specs.GateStores.{look_size, look_f}
use Rattle.cursors.specs.declared.Cursor.{Cursor}
use Rattle.cursors.specs.Cursors.{advanced_of}
use Rattle.windows.specs.Looks.{LookFits, looks_in, cursor_in, sample_at, stepped_look}
use Rattle.model.proofs.WindowStores.{Shaped, look-long, look-back, read-shaped}

pub push-shaped : (n : ℕ) (sample : ℕ → Float) (s : PowerLooks) → Shaped n s → Shaped n (push_look n sample s)
unfolding push_look
push-shaped n sample s sh =
    record {
      rings_many = length-tab n _;
      ring_long = λ k h.
          ap length (get_d-tab n (λ j. set (ring_of s j) s.cursor (sample j)) k [] h)
          ∙ length-set (ring_of s k) s.cursor (sample k)
          ∙ sh.ring_long k h;
      recent_long = length-tab n _;
      previous_long = length-tab n _;
    }

-- the cursor has not come round
settle-on : (z n : ℕ) (s : PowerLooks) → (z ≡ 0 → ⊥) → settle_at z n s ≡ s
settle-on zero n s h = absurd (h refl)
settle-on (suc z) n s h = refl

module _ (l : List Float) (c : Cursor) (samples : List Float) where
  abbrev n : ℕ
  n = length samples

  abbrev pushed : PowerLooks
  pushed = push_look n (sample_at samples) (looks_in l c n)

  pub steps_on : (d : Cursor) (x : List Float) → d ≡ advanced_of c → x ≡ look_f pushed → (d.at ≡ 0 → ⊥) → (d, x) ≡ stepped_look l c samples
  unfolding stepped_look step_look advance_look push_look
  steps_on d x ed e h =
      ap₂ (λ (b : Cursor) (y : List Float). (b, y)) ed e
      ∙ sym (ap (λ (s : PowerLooks). (cursor_in s, look_f s)) (settle-on (turned c.m c.at) n (advance_look pushed) (λ z. h (ap (λ (b : Cursor). b.at) ed ∙ z))))

  -- what is read again of the part and the next cursor
  again : length l ≡ look_size n c.m → looks_in (look_f pushed) (advanced_of c) n ≡ advance_look pushed
  unfolding advance_look push_look
  again long =
      look-back n (advance_look pushed)
      (let sh = push-shaped n (sample_at samples) (looks_in l c n) (read-shaped n c.m c.at c.filled l long) in
      record { rings_many = sh.rings_many; ring_long = sh.ring_long; recent_long = sh.recent_long; previous_long = sh.previous_long })

  pub steps-round : (d : Cursor) (x y : List Float) → length l ≡ look_size n c.m → d ≡ advanced_of c → x ≡ look_f pushed → d.at ≡ 0
      → y ≡ look_f (rebase_look n (looks_in x d n)) → (d, y) ≡ stepped_look l c samples
  unfolding stepped_look step_look advance_look rebase_look push_look
  steps-round d x y long ed e h r =
      ap₂ (λ (b : Cursor) (z : List Float). (b, z)) ed
      (r
      ∙ ap₂ (λ (b : Cursor) (z : List Float). look_f (rebase_look n (looks_in z b n))) ed e
      ∙ ap (λ (s : PowerLooks). look_f (rebase_look n s)) (again long))
      ∙ sym
      (ap (λ (z : ℕ). (cursor_in (settle_at z n (advance_look pushed)), look_f (settle_at z n (advance_look pushed))))
      (ap (λ (b : Cursor). b.at) (sym ed) ∙ h))

  -- the part fits the next cursor
  pub still-fits : (d : Cursor) (x : List Float) → LookFits l n c.m → d ≡ advanced_of c → x ≡ look_f pushed → LookFits x n d.m
  unfolding push_look
  still-fits d x f ed e =
      subst (λ (b : Cursor). LookFits x n b.m) (sym ed)
      (record {
        low = f.low;
        high = f.high;
        some = f.some;
        few = f.few;
        long = ap length e ∙ look-long n pushed (push-shaped n (sample_at samples) (looks_in l c n) (read-shaped n c.m c.at c.filled l f.long));
      })
