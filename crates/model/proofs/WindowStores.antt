-- The windows of one length in their part of the gate's f64 store: a part of the right length is its windows', and back.
-- Assumes nothing.
use mathlib.Core.Path.{◌≡◌, refl, sym, ap, ap₂, ◌∙◌}
use mathlib.Core.List.{List, [], ◌++◌}
use Prim.Native.Nat.{ℕ, ◌+◌, ◌*◌, ◌<◌, ◌≤◌}
use native.Mathlib.Nat.{zero-add}
use native.Mathlib.Omega.{arith}
use lib.ListN.{length, take, drop, length-append, length-drop}
use lib.Seq.{take_all, take-append-le, drop-append-le}
use lib.Ieee.{Float}
use Rattle.laws.specs.Lists.{part, tab, joined}
use Rattle.laws.proofs.Lists.{row, length_part, part-mid}
use Rattle.laws.proofs.Tabs.{length-tab, get_d-tab, tab-ext, tab-get_d, length-joined}
use Rattle.laws.proofs.Joined.{joined-parts, part-joined, parts_meet, part-skip, part-last}
use Rattle.model.specs.Windows.{PowerLooks, ring_of}
use Rattle.model.specs.GateStores.{look_size, look_f, look_of}

-- n parts of width w from the start on
rows : {A : Type 0} (w n : ℕ) (l : List A) → joined (tab n (λ k. part (w * k) w l)) ≡ part 0 (w * n) l
rows {A} w n l =
    ap joined (tab-ext n (λ k. part (w * k) w l) (λ k. part (0 + w * k) w l) (λ k h. ap (λ (a : ℕ). part a w l) (sym (zero-add (w * k)))))
    ∙ joined-parts 0 w n l

-- a part of the first of two lists
pub part-front : {A : Type 0} (p q : List A) (a w : ℕ) → a + w ≤ length p → part a w (p ++ q) ≡ part a w p
part-front p q a w h =
    ap (take w) (drop-append-le a p q (omega arith)) ∙ take-append-le w (drop a p) q (omega (arith, length-drop a p))

-- the rings as they stand in the part: channel after channel
pub rings-flat : (n m : ℕ) (l : List Float) → joined (tab n (λ k. part (2 * m * k) (2 * m) l)) ≡ part 0 (2 * m * n) l
rings-flat n m l = rows (2 * m) n l

pub look-forth : (n m c t : ℕ) (l : List Float) → length l ≡ look_size n m → look_f (look_of n m c t l) ≡ l
look-forth n m c t l e =
    ap₂ (λ (r s : List Float). r ++ s) (rings-flat n m l) (parts_meet (2 * m * n) n (2 * m * n + n) n l refl)
    ∙ parts_meet 0 (2 * m * n) (2 * m * n) (n + n) l (zero-add (2 * m * n))
    ∙ take_all (2 * m * n + (n + n)) l (omega arith)

-- the windows of n channels, each list as long as it should be
pub record Shaped (n : ℕ) (s : PowerLooks) : Type 0 where
  pub rings_many : length s.rings ≡ n
  pub ring_long : (k : ℕ) → k < n → length (ring_of s k) ≡ 2 * s.m
  pub recent_long : length s.recent ≡ n
  pub previous_long : length s.previous ≡ n

module _ (n : ℕ) (s : PowerLooks) (sh : Shaped n s) where
  rings-tab : tab n (ring_of s) ≡ s.rings
  rings-tab = tab-get_d s.rings [] n sh.rings_many

  pub rings_long : length (joined s.rings) ≡ 2 * s.m * n
  rings_long = ap (λ (r : List (List Float)). length (joined r)) (sym rings-tab) ∙ length-joined (2 * s.m) n (ring_of s) sh.ring_long

  pub look-long : length (look_f s) ≡ look_size n s.m
  look-long =
      omega (
        arith,
        length-append (joined s.rings) (s.recent ++ s.previous),
        length-append s.recent s.previous,
        rings_long,
        sh.recent_long,
        sh.previous_long,
      )

  -- ring k as it stands among the rings
  pub ring-part : (k : ℕ) → k < n → part (2 * s.m * k) (2 * s.m) (joined s.rings) ≡ ring_of s k
  ring-part k h =
      ap (λ (r : List (List Float)). part (2 * s.m * k) (2 * s.m) (joined r)) (sym rings-tab)
      ∙ part-joined (2 * s.m) n k (ring_of s) sh.ring_long h

  -- each of the three groups, read
  pub get-ring : (k : ℕ) → k < n → part (2 * s.m * k) (2 * s.m) (look_f s) ≡ ring_of s k
  get-ring k h =
      part-front (joined s.rings) (s.recent ++ s.previous) (2 * s.m * k) (2 * s.m) (omega (arith, rings_long, row (2 * s.m) k n h))
      ∙ ring-part k h

  pub get-recent : part (2 * s.m * n) n (look_f s) ≡ s.recent
  get-recent = part-mid (joined s.rings) s.recent s.previous (2 * s.m * n) n rings_long sh.recent_long

  pub get-previous : part (2 * s.m * n + n) n (look_f s) ≡ s.previous
  get-previous =
      part-skip (joined s.rings) (s.recent ++ s.previous) (2 * s.m * n) n (2 * s.m * n + n) n rings_long refl
      ∙ part-last s.recent s.previous n n sh.recent_long sh.previous_long

  pub look-back : look_of n s.m s.cursor s.filled (look_f s) ≡ s
  look-back = λ i.
      record {
        m = s.m;
        cursor = s.cursor;
        filled = s.filled;
        rings = (tab-ext n (λ k. part (2 * s.m * k) (2 * s.m) (look_f s)) (ring_of s) get-ring ∙ rings-tab) i;
        recent = get-recent i;
        previous = get-previous i;
      }

-- the windows that are read from a part of the right length
pub read-shaped : (n m c t : ℕ) (l : List Float) → length l ≡ look_size n m → Shaped n (look_of n m c t l)
read-shaped n m c t l e =
    record {
      rings_many = length-tab n (λ k. part (2 * m * k) (2 * m) l);
      ring_long = λ k h.
          ap length (get_d-tab n (λ i. part (2 * m * i) (2 * m) l) k [] h)
          ∙ length_part (2 * m * k) (2 * m) l (omega (arith, row (2 * m) k n h));
      recent_long = length_part (2 * m * n) n l (omega arith);
      previous_long = length_part (2 * m * n + n) n l (omega arith);
    }
