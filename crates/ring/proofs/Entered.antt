-- What the stores of a push leave among a channel's entries is the push of document 01. Assumes nothing.
use Rattle.std.proofs.Common.{◌≡◌, ℕ, ◌+◌, ◌-◌, ◌%◌, ◌<◌, ◌≤◌, Bool, true, false, ◌&&◌, eqb, List, [], ◌∷◌, ◌++◌, length, get_or, set, sym, refl, ap, ◌∙◌, ap₂, arith, length-set, length-take, get_or-set_other, get_or-set_same}
use native.Mathlib.Decide.{ℕ_discrete}
use lib.Seq.{set-append_left}
use Rattle.laws.specs.Lists.{part, one}
use Rattle.laws.proofs.Lists.{length_part, get_d_part}
use Rattle.model.specs.Layout.{bins, ring_len, at_counts, at_next, at_filled, at_lead, channel_len}
use Rattle.model.specs.Ring.{ChannelFloor, uncounted, oldest, entries, push_as, push, push_in}
use Rattle.model.specs.Stores.{chan_u, chan_of}
use Rattle.ring.specs.Push.{roomed, entered, Roomy}
use Rattle.model.specs.Sound.{Sound}
use Rattle.laws.proofs.Counting.{occ-le, set-append-add}
use Rattle.model.specs.DeadBranches.{CountsWithin}
use Rattle.model.proofs.Channels.{chan-back, chan-forth}
use Rattle.model.proofs.DeadBranches.{counts-within}

-- ---- what the code stores into the entries, as a channel

module _ (r k t : List ℕ) (hr : length r ≡ ring_len) (hk : length k ≡ bins) where
  in-ring : (i v : ℕ) → i < ring_len → set (r ++ (k ++ t)) i v ≡ set r i v ++ (k ++ t)
  in-ring i v h = set-append_left r (k ++ t) i v (omega arith)

  in-counts : (b v : ℕ) → b < bins → set (r ++ (k ++ t)) (at_counts + b) v ≡ r ++ (set k b v ++ t)
  in-counts b v h =
      set-append-add r (k ++ t) b v (at_counts + b) (omega arith) ∙ ap (λ (x : List ℕ). r ++ x) (set-append_left k t b v (omega arith))

  -- next, filled and lead are at i = 0, 1, 2
  in-fields : (i v : ℕ) → set (r ++ (k ++ t)) (at_next + i) v ≡ r ++ (k ++ set t i v)
  in-fields i v =
      set-append-add r (k ++ t) (bins + i) v (at_next + i) (omega arith) ∙ ap (λ (x : List ℕ). r ++ x) (set-append-add k t i v (bins + i) (omega arith))

-- the ring, the counts and the three fields among a channel's entries
abbrev ring_of : List ℕ → List ℕ
ring_of l = part 0 ring_len l

abbrev counts_of : List ℕ → List ℕ
counts_of l = part at_counts bins l

abbrev fields_of : List ℕ → List ℕ
fields_of l = get_or l at_next 0 ∷ get_or l at_filled 0 ∷ get_or l at_lead 0 ∷ []

module _ (l : List ℕ) (long : length l ≡ channel_len) where
  ring_long : length (ring_of l) ≡ ring_len
  ring_long = length_part 0 ring_len l (omega arith)

  counts-long : length (counts_of l) ≡ bins
  counts-long = length_part at_counts bins l (omega arith)

  count-is : (b : ℕ) → b < bins → get_or l (at_counts + b) 0 ≡ get_or (counts_of l) b 0
  count-is b h = sym (get_d_part at_counts bins l b 0 h)

  pub grown : set l at_filled (get_or l at_filled 0 + 1) ≡ chan_u (roomed false (chan_of l))
  unfolding roomed
  grown =
      ap (λ (x : List ℕ). set x at_filled (get_or l at_filled 0 + 1)) (sym (chan-forth l long))
      ∙ in-fields (ring_of l) (counts_of l) (fields_of l) ring_long counts-long 1 (get_or l at_filled 0 + 1)

  -- the oldest is o
  pub evicted : (o : ℕ) → o ≡ oldest (chan_of l) → o < bins
      → set (set l (at_counts + o) (get_or l (at_counts + o) 0 - 1)) at_lead (get_or l at_lead 0 - one (eqb 0 o)) ≡ chan_u (roomed true (chan_of l))
  unfolding roomed
  evicted o e h =
      ap (λ (v : ℕ). set (set l (at_counts + o) (v - 1)) at_lead D) (count-is o h)
      ∙ ap (λ (x : List ℕ). set (set x (at_counts + o) (get_or K o 0 - 1)) at_lead D) (sym (chan-forth l long))
      ∙ ap (λ (x : List ℕ). set x at_lead D) (in-counts R K (fields_of l) ring_long counts-long o (get_or K o 0 - 1) h)
      ∙ in-fields R (uncounted K o) (fields_of l) ring_long (length-set K o (get_or K o 0 - 1) ∙ counts-long) 2 D
      ∙ ap (λ (x : ℕ). R ++ (uncounted K x ++ (get_or l at_next 0 ∷ get_or l at_filled 0 ∷ (get_or l at_lead 0 - one (eqb 0 x)) ∷ []))) e
    where
      R : List ℕ
      R = ring_of l

      K : List ℕ
      K = counts_of l

      D : ℕ
      D = get_or l at_lead 0 - one (eqb 0 o)

  pub took : (b r : ℕ) → get_or l at_next 0 < ring_len → b < bins
      → set (set (set (set l (get_or l at_next 0) b) (at_counts + b) (get_or l (at_counts + b) 0 + 1)) at_next ((get_or l at_next 0 + 1) % ring_len)) at_lead (get_or l at_lead 0 + r)
      ≡ chan_u (entered (chan_of l) b r)
  unfolding entered
  took b r n h =
      ap (λ (v : ℕ). set (set (set (set l N b) (at_counts + b) (v + 1)) at_next P) at_lead D) (count-is b h)
      ∙ ap (λ (x : List ℕ). set (set (set (set x N b) (at_counts + b) U) at_next P) at_lead D) (sym (chan-forth l long))
      ∙ ap (λ (x : List ℕ). set (set (set x (at_counts + b) U) at_next P) at_lead D) (in-ring R K (fields_of l) ring_long counts-long N b n)
      ∙ ap (λ (x : List ℕ). set (set x at_next P) at_lead D) (in-counts R' K (fields_of l) ring-long' counts-long b U h)
      ∙ ap (λ (x : List ℕ). set x at_lead D) (in-fields R' (set K b U) (fields_of l) ring-long' counts-long' 0 P)
      ∙ in-fields R' (set K b U) (P ∷ get_or l at_filled 0 ∷ get_or l at_lead 0 ∷ []) ring-long' counts-long' 2 D
    where
      N : ℕ
      N = get_or l at_next 0

      P : ℕ
      P = (get_or l at_next 0 + 1) % ring_len

      D : ℕ
      D = get_or l at_lead 0 + r

      R : List ℕ
      R = ring_of l

      R' : List ℕ
      R' = set (ring_of l) (get_or l at_next 0) b

      K : List ℕ
      K = counts_of l

      U : ℕ
      U = get_or (counts_of l) b 0 + 1

      ring-long' : length R' ≡ ring_len
      ring-long' = length-set R N b ∙ ring_long

      counts-long' : length (set K b U) ≡ bins
      counts-long' = length-set K b U ∙ counts-long

-- ---- the two halves of a push

halves-as : (t q : Bool) (c : ChannelFloor) (b : ℕ) → entered (roomed t c) b (one (q && eqb 0 b))
    ≡ record {
      ring = (push_as t ring_len c b).ring;
      counts = (push_as t ring_len c b).counts;
      next = (push_as t ring_len c b).next;
      filled = (push_as t ring_len c b).filled;
      lead = (push_as t ring_len c b).lead + one (q && eqb 0 b);
    }
unfolding entered roomed push_as
halves-as true q c b = refl
halves-as false q c b = refl

halves : (q : Bool) (c : ChannelFloor) (b : ℕ) → entered (roomed (eqb c.filled ring_len) c) b (one (q && eqb 0 b)) ≡ push_in ring_len q c b
unfolding push_in push
halves q c b = halves-as (eqb c.filled ring_len) q c b

module _ (l : List ℕ) (long : length l ≡ channel_len) where
  room-ring : (t : Bool) → length (roomed t (chan_of l)).ring ≡ ring_len
  unfolding roomed
  room-ring true = ring_long l long
  room-ring false = ring_long l long

  room-counts : (t : Bool) → length (roomed t (chan_of l)).counts ≡ bins
  unfolding roomed
  room-counts true = simp length-set (counts-long l long)
  room-counts false = counts-long l long

  -- a channel in which room was made, read back
  room_back : (t : Bool) → chan_of (chan_u (roomed t (chan_of l))) ≡ roomed t (chan_of l)
  room_back t = chan-back (roomed t (chan_of l)) (room-ring t) (room-counts t)

  lead_small : Sound ring_len bins (chan_of l) → get_or l at_lead 0 ≤ ring_len
  lead_small s =
      omega (arith, s.lead_within, s.recount 0 (omega arith), occ-le 0 (entries (chan_of l)), length-take (get_or l at_filled 0) (ring_of l), s.filled_within)

  lead-falls : (t : Bool) → (roomed t (chan_of l)).lead ≤ get_or l at_lead 0
  unfolding roomed
  lead-falls true = omega arith
  lead-falls false = omega arith

  room_small : (t : Bool) → Sound ring_len bins (chan_of l) → (b : ℕ) → b < bins → get_or (roomed t (chan_of l)).counts b 0 ≤ ring_len
  unfolding roomed
  room_small true s b h = go (ℕ_discrete b o)
    where
      o : ℕ
      o = oldest (chan_of l)

      w : CountsWithin ring_len bins (chan_of l)
      w = counts-within ring_len bins (chan_of l) s

      go : Dec (b ≡ o) → get_or (uncounted (counts_of l) o) b 0 ≤ ring_len
      go (yes e) =
          omega (
            arith,
            ap (λ (x : ℕ). get_or (uncounted (counts_of l) o) x 0) e,
            get_or-set_same (counts_of l) o (get_or (counts_of l) o 0 - 1) 0 (omega (arith, counts-long l long)),
            w.before o (omega arith),
          )
      go (no n) = omega (arith, get_or-set_other (counts_of l) o b (get_or (counts_of l) o 0 - 1) 0 n, w.before b h)
  room_small false s b h = (counts-within ring_len bins (chan_of l) s).before b h

  next-stays : (t : Bool) → (roomed t (chan_of l)).next ≡ get_or l at_next 0
  unfolding roomed
  next-stays true = refl
  next-stays false = refl

  pub roomy : (t : Bool) → Sound ring_len bins (chan_of l) → Roomy (chan_u (roomed t (chan_of l)))
  roomy t s =
      record {
        next_below = omega (arith, ap (λ (c : ChannelFloor). c.next) (room_back t), next-stays t, s.next_below);
        counts_small =
            λ b h.
            omega (arith, get_d_part at_counts bins (chan_u (roomed t (chan_of l))) b 0 h, ap (λ (c : ChannelFloor). get_or c.counts b 0) (room_back t), room_small t s b h);
        lead_small = omega (arith, ap (λ (c : ChannelFloor). c.lead) (room_back t), lead-falls t, lead_small s);
      }

  -- one half after the other
  pub pushed : (m : List ℕ) (q : Bool) (b r : ℕ) → m ≡ chan_u (roomed (eqb (get_or l at_filled 0) ring_len) (chan_of l)) → r ≡ one (q && eqb 0 b)
      → chan_u (entered (chan_of m) b r) ≡ chan_u (push_in ring_len q (chan_of l) b)
  pushed m q b r e f =
      ap₂ (λ (x : List ℕ) (y : ℕ). chan_u (entered (chan_of x) b y)) e f
      ∙ ap (λ (c : ChannelFloor). chan_u (entered c b (one (q && eqb 0 b)))) (room_back (eqb (get_or l at_filled 0) ring_len))
      ∙ ap chan_u (halves q (chan_of l) b)
