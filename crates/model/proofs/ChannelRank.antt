-- What a sound channel's counts say of its entries, and the cases of the quartile. Assumes nothing.
use mathlib.Core.Path.{◌≡◌, refl, sym, ap, ap₂, ◌∙◌}
use mathlib.Core.Bool.{true}
use mathlib.Core.List.{List}
use Prim.Native.Nat.{ℕ, zero, suc, ◌+◌, ◌-◌, ◌/◌, ◌<◌, ◌≤◌}
use native.Mathlib.Omega.{arith}
use lib.Dec.{eqb, ltb}
use lib.ListN.{length, get_or}
use lib.Seq.{length-take-le, get_or-take}
use lib.Ieee.{of_bits, le}
use borrow.Author.Tests.{ltb-true, ltb-false, eq-eqb, ne_eqb, eqb-true, eqb-false}
use Rattle.laws.specs.Lists.{occ}
use Rattle.laws.proofs.Lists.{get_d_part}
use Rattle.laws.proofs.Tests.{by-test}
use Rattle.model.specs.Layout.{hist_min, bins, ring_len, at_counts}
use Rattle.model.specs.Ring.{ChannelFloor, entries, centre_of, smallest, without, quartile_of, quartile, raw_floor, usable_floor, skip_of}
use Rattle.model.specs.Stores.{chan_of}
use Rattle.model.specs.Sound.{Sound}
use Rattle.model.proofs.Rank.{under, under-zero, under_more, under_all, zeros-le, smallest-is, smallest-rises, smallest-without}
use Rattle.model.proofs.BinOrder.{higher-centre}

pub length-entries : {R K : ℕ} (c : ChannelFloor) → Sound R K c → length (entries c) ≡ c.filled
length-entries c s = length-take-le c.filled c.ring (omega (arith, s.ring_is_long, s.filled_within))

-- all entries are below K
pub under_top : {R K : ℕ} (c : ChannelFloor) → Sound R K c → under K (entries c) ≡ c.filled
under_top {R} {K} c s =
    under_all K (entries c)
    (λ i h.
    let e = length-entries c s in
    omega (arith, get_or-take c.filled c.ring i 0 (omega arith), s.bins_below i (omega (arith, s.filled_within))))
    ∙ length-entries c s

-- a count as it stands in the store
pub count_at : (l : List ℕ) (b : ℕ) → Sound ring_len bins (chan_of l) → b < bins → get_or l (at_counts + b) 0 ≡ occ b (entries (chan_of l))
count_at l b s h = sym (get_d_part at_counts bins l b 0 h) ∙ s.recount b h

-- ---- the scan of the counts, before bin b: so many entries were passed, fewer than the rank

pub record Scan (l : List ℕ) (rank passed b : ℕ) : Type 0 where
  pub most : b ≤ bins
  pub sum : passed ≡ under b l
  pub short : passed < rank

pub scan_begins : (l : List ℕ) (rank : ℕ) → 0 < rank → Scan l rank 0 0
scan_begins l rank h = record { most = omega arith; sum = sym (under-zero l); short = h }

-- the scan ends inside: after the last bin all entries are passed, and those are as many as the highest rank
pub scan-inside : {R : ℕ} {c : ChannelFloor} {rank passed b : ℕ} → Sound R bins c → Scan (entries c) rank passed b → rank ≤ c.filled → b < bins
scan-inside {c = c} {b = b} k s h =
    by-test (ltb b bins) (λ t. ltb-true b bins t)
    (λ t.
    let e : b ≡ bins = omega (arith, s.most, ltb-false b bins t) in
    absurd (omega (arith, s.sum, s.short, ap (λ (x : ℕ). under x (entries c)) e, under_top c k)))

pub scan-turns : {l : List ℕ} {rank passed b : ℕ} (x : ℕ) → Scan l rank passed b → x ≡ occ b l → b < bins → passed + x < rank → Scan l rank (passed + x) (b + 1)
scan-turns {l} {b = b} x s e h k = record { most = omega arith; sum = omega (arith, s.sum, under_more b l); short = k }

pub scan-finds : {l : List ℕ} {rank passed b : ℕ} (x : ℕ) → Scan l rank passed b → x ≡ occ b l → rank ≤ passed + x → b ≡ smallest rank l
scan-finds {l} {rank} {passed} {b} x s e h =
    sym (smallest-is b rank l (omega (arith, s.short)) (omega (arith, s.sum, s.short)) (omega (arith, s.sum, under_more b l)))

-- ---- the quartile, where w = filled was read: with nothing left, and with something

pub skip-within : {R K : ℕ} (c : ChannelFloor) (s : ℕ) → Sound R K c → 0 < K → s ≤ get_or c.counts 0 0 → s ≤ c.filled
skip-within c s k p h = omega (arith, k.recount 0 p, zeros-le (entries c), length-entries c k)

pub nothing_left : (c : ChannelFloor) (s w : ℕ) → w ≡ c.filled → w - s ≡ 0 → hist_min ≡ quartile s c
unfolding quartile
nothing_left c s w e h = rw (ap (λ (k : ℕ). k - s) (sym e) ∙ h)

of_some : (r : ℕ) (l : List ℕ) → 0 < r → centre_of (smallest ((r + 3) / 4) l) ≡ quartile_of r l
of_some zero l h = absurd (omega arith)
of_some (suc r) l h = refl

pub some_left : {R K : ℕ} (c : ChannelFloor) (s w : ℕ) → Sound R K c → 0 < K → s ≤ get_or c.counts 0 0 → w ≡ c.filled → 0 < w - s
    → centre_of (smallest (s + (w - s + 3) / 4) (entries c)) ≡ quartile s c
unfolding quartile
some_left c s w k p h e n =
    ap centre_of
    (sym
    (smallest-without s ((w - s + 3) / 4) (entries c) (omega (arith, k.recount 0 p)) (omega arith) (omega (arith, length-entries c k))))
    ∙ of_some (w - s) (without s (entries c)) n
    ∙ ap (λ (f : ℕ). quartile_of (f - s) (without s (entries c))) e

-- ---- the usable floor: with nothing to skip, and with something

none-raw : (c : ChannelFloor) → skip_of c ≡ 0 → raw_floor c ≡ usable_floor c
unfolding raw_floor usable_floor
none-raw c e = ap (λ (s : ℕ). quartile s c) (sym e)

pub no_lead : (c : ChannelFloor) → c.lead ≡ 0 → raw_floor c ≡ usable_floor c
no_lead c e = none-raw c (by-test (eqb c.lead c.filled) (λ t. rw t) (λ t. rw t e))

pub all-lead : (c : ChannelFloor) → c.lead ≡ c.filled → raw_floor c ≡ usable_floor c
all-lead c e = none-raw c (rw (eq-eqb c.lead c.filled e))

pub some-lead : (c : ChannelFloor) → (c.lead ≡ c.filled → ⊥) → quartile c.lead c ≡ usable_floor c
unfolding usable_floor
some-lead c h = rw (ne_eqb c.lead c.filled h)

-- ---- document 01: "Usable is at least raw"

raw-itself : (c : ChannelFloor) → le (raw_floor c) (raw_floor c) ≡ true
unfolding raw_floor quartile le of_bits
raw-itself c = of-itself (c.filled - 0) (without 0 (entries c))
  where
    of-itself : (r : ℕ) (l : List ℕ) → le (quartile_of r l) (quartile_of r l) ≡ true
    of-itself zero l = refl
    of-itself (suc r) l = higher-centre (smallest ((suc r + 3) / 4) l) (smallest ((suc r + 3) / 4) l) (omega arith)

pub usable-not-below-raw : {R K : ℕ} (c : ChannelFloor) → Sound R K c → 0 < K → le (raw_floor c) (usable_floor c) ≡ true
usable-not-below-raw c s p =
    by-test (eqb c.lead c.filled)
    (λ t. ap (le (raw_floor c)) (sym (all-lead c (eqb-true c.lead c.filled t))) ∙ raw-itself c)
    (λ t.
    let l = entries c in
    let z = skip-within c c.lead s p s.lead_within in
    let below : c.lead < c.filled = omega (arith, z, eqb-false c.lead c.filled t) in
    let raw = some_left c 0 c.filled s p (omega arith) refl (omega arith) in
    let usable = some_left c c.lead c.filled s p s.lead_within refl (omega arith) ∙ some-lead c (eqb-false c.lead c.filled t) in
    ap₂ le (sym (raw ∙ (unfold raw_floor in refl))) (sym usable)
    ∙ higher-centre (smallest (0 + (c.filled - 0 + 3) / 4) l) (smallest (c.lead + (c.filled - c.lead + 3) / 4) l)
    (smallest-rises _ _ l (omega arith) (omega arith) (omega (arith, length-entries c s))))
