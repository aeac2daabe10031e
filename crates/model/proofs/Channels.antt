-- A channel's ring and its stored entries, there and back. Assumes nothing.
use mathlib.Core.Path.{◌≡◌, refl, sym, ap, ◌∙◌}
use mathlib.Core.List.{List, [], ◌∷◌, ◌++◌}
use Prim.Native.Nat.{ℕ, ◌+◌}
use native.Mathlib.Omega.{arith}
use lib.ListN.{length, get_or, take, drop, length-append, length-drop, take-append-drop}
use lib.Seq.{take_at, drop_at, drop-drop, get_or-drop}
use Rattle.model.specs.Layout.{bins, ring_len, at_next, at_filled, at_lead, channel_len}
use Rattle.model.specs.Ring.{ChannelFloor}
use Rattle.model.specs.Stores.{chan_u, chan_of}

chan-path : (c d : ChannelFloor) → c.ring ≡ d.ring → c.counts ≡ d.counts → c.next ≡ d.next → c.filled ≡ d.filled → c.lead ≡ d.lead
    → c ≡ d
chan-path c d r k n f l = λ i. record { ring = r i; counts = k i; next = n i; filled = f i; lead = l i }

pub chan-back : (c : ChannelFloor) → length c.ring ≡ ring_len → length c.counts ≡ bins → chan_of (chan_u c) ≡ c
chan-back c r k =
    chan-path (chan_of (chan_u c)) c (take_at c.ring (c.counts ++ tl) ring_len r)
    (ap (take bins) (drop_at c.ring (c.counts ++ tl) ring_len r) ∙ take_at c.counts tl bins k)
    (field 0) (field 1) (field 2)
  where
    tl : List ℕ
    tl = c.next ∷ c.filled ∷ c.lead ∷ []

    end : drop at_next (chan_u c) ≡ tl
    end =
        sym (drop-drop bins ring_len (chan_u c))
        ∙ ap (drop bins) (drop_at c.ring (c.counts ++ tl) ring_len r)
        ∙ drop_at c.counts tl bins k

    field : (i : ℕ) → get_or (chan_u c) (at_next + i) 0 ≡ get_or tl i 0
    field i = sym (get_or-drop at_next (chan_u c) i 0) ∙ ap (λ (l : List ℕ). get_or l i 0) end

pub length-chan_u : (c : ChannelFloor) → length c.ring ≡ ring_len → length c.counts ≡ bins → length (chan_u c) ≡ channel_len
length-chan_u c r k =
    omega (arith, length-append c.ring (c.counts ++ (c.next ∷ c.filled ∷ c.lead ∷ [])), length-append c.counts (c.next ∷ c.filled ∷ c.lead ∷ []))

three : (t : List ℕ) → length t ≡ 3 → t ≡ get_or t 0 0 ∷ get_or t 1 0 ∷ get_or t 2 0 ∷ []
three [] e = absurd (omega arith)
three (a ∷ []) e = absurd (omega arith)
three (a ∷ b ∷ []) e = absurd (omega arith)
three (a ∷ b ∷ c ∷ []) e = refl
three (a ∷ b ∷ c ∷ d ∷ t) e = absurd (omega arith)

pub chan-forth : (l : List ℕ) → length l ≡ channel_len → chan_u (chan_of l) ≡ l
chan-forth l e =
    ap (λ (x : List ℕ). take ring_len l ++ x)
    (ap (λ (x : List ℕ). take bins (drop ring_len l) ++ x) (fields ∙ sym (three (drop at_next l) (omega (arith, length-drop at_next l))) ∙ sym (drop-drop bins ring_len l))
    ∙ take-append-drop bins (drop ring_len l))
    ∙ take-append-drop ring_len l
  where
    field : (i : ℕ) → get_or l (at_next + i) 0 ≡ get_or (drop at_next l) i 0
    field i = sym (get_or-drop at_next l i 0)

    fields : get_or l at_next 0 ∷ get_or l at_filled 0 ∷ get_or l at_lead 0 ∷ [] ≡ get_or (drop at_next l) 0 0 ∷ get_or (drop at_next l) 1 0 ∷ get_or (drop at_next l) 2 0 ∷ []
    fields = λ i. field 0 i ∷ field 1 i ∷ field 2 i ∷ []
