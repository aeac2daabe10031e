-- R-7: on a sound channel the scan of the counts ends inside, and counts stay within the size of the ring. Assumes nothing.
use mathlib.Core.Path.{◌≡◌, sym, ap}
use mathlib.Core.Logic.{◌⊎◌, ⊎_elim}
use Prim.Native.Nat.{ℕ, zero, suc, ◌≤◌, ◌<◌}
use native.Mathlib.Numerals.{add-one}
use native.Mathlib.Omega.{arith}
use lib.Dec.{eqb}
use lib.ListN.{get_or}
use lib.Seq.{get_or-take}
use borrow.Author.Tests.{eqb-false}
use Rattle.laws.specs.Lists.{occ}
use Rattle.laws.proofs.Counting.{occ-le, occ-entry}
use Rattle.laws.proofs.Tests.{by-test}
use Rattle.model.specs.Ring.{ChannelFloor, entries, oldest, push_in, skip_of}
use Rattle.model.specs.Sound.{Sound}
use Rattle.model.specs.DeadBranches.{passed_before, rank_of, ScanEnds, CountsStay}
use Rattle.model.proofs.Rank.{under, under-zero, under_more, reached}
use Rattle.model.proofs.ChannelRank.{length-entries, under_top, skip-within}
use Rattle.model.proofs.SoundRings.{sound-push}

-- ---- (1) the scan ends inside

-- what was passed before bin b are the entries below it
passed-under : {R K : ℕ} (c : ChannelFloor) → Sound R K c → (b : ℕ) → b ≤ K → passed_before c.counts b ≡ under b (entries c)
passed-under c s zero h = sym (under-zero (entries c))
passed-under c s (suc b) h =
    rw (← add-one b) (omega (arith, passed-under c s b (omega arith), s.recount b (omega arith), under_more b (entries c)))

-- a sound channel with an entry has a bin
pub some-bin : {R K : ℕ} (c : ChannelFloor) → Sound R K c → 0 < K
some-bin c s = omega (arith, s.bins_below c.next s.next_below)

-- a skip is within bin 0, and leaves something
pub skip-zeros : {R K : ℕ} (c : ChannelFloor) → Sound R K c → (s : ℕ) → (s ≡ 0) ⊎ (s ≡ skip_of c) → s ≤ get_or c.counts 0 0
skip-zeros c k s =
    ⊎_elim (λ e. omega arith)
    (λ e. by-test (eqb c.lead c.filled) (λ t. omega (arith, rw t at e)) (λ t. omega (arith, rw t at e, k.lead_within)))

skip-leaves : {R K : ℕ} (c : ChannelFloor) → Sound R K c → 0 < c.filled → (s : ℕ) → (s ≡ 0) ⊎ (s ≡ skip_of c) → s < c.filled
skip-leaves c k p s =
    ⊎_elim (λ e. omega arith)
    (λ e.
    by-test (eqb c.lead c.filled) (λ t. omega (arith, rw t at e))
    (λ t.
    let ne = eqb-false c.lead c.filled t in
    omega (arith, rw t at e, skip-within c c.lead k (some-bin c k) k.lead_within)))

pub scan-ends : ScanEnds
scan-ends R K c k p s w =
    let rank = rank_of s c in
    let l : s < c.filled = skip-leaves c k p s w in
    let r = reached rank (entries c) (omega arith) K (omega (arith, under_top c k)) in
    let e = passed-under c k r.0 (omega (arith, r.1)) in
    (r.0, r.1, record { before = omega (arith, r.2); with = omega (arith, r.3, k.recount r.0 r.1, under_more r.0 (entries c)) })

-- ---- (2) the counts

counts_small : {R K : ℕ} (c : ChannelFloor) → Sound R K c → (x : ℕ) → x < K → get_or c.counts x 0 ≤ R
counts_small c s x h = omega (arith, s.recount x h, occ-le x (entries c), length-entries c s, s.filled_within)

pub counts-within : CountsStay
counts-within R K c s =
    record {
      before = counts_small c s;
      after = λ q b h. counts_small (push_in R q c b) (sound-push q c b s h);
      lowered =
          λ f.
          let e : get_or (entries c) c.next 0 ≡ oldest c = get_or-take c.filled c.ring c.next 0 (omega (arith, s.next_below)) in
          omega (
            arith,
            s.recount (oldest c) (s.bins_below c.next s.next_below),
            ap (λ (x : ℕ). occ x (entries c)) e,
            occ-entry (entries c) c.next (omega (arith, length-entries c s, s.next_below)),
          );
    }
