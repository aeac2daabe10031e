-- Document 01, "Windows, ladder, gate": the windows of one length over all channels.
use Rattle.std.specs.Prelude.{Bool, false, not, ◌&&◌, ◌||◌, List, [], ◌∷◌, ℕ, zero, suc, ◌+◌, ◌-◌, ◌*◌, ◌%◌, min, eqb, get_or, set, take, drop, replicate, pos, Float}
use Rattle.std.specs.Float.{binary64}
use Rattle.std.specs.Float.Ieee.{add, sub, mul, lt, le, of_int}
use Rattle.laws.specs.Lists.{tab}
use Rattle.model.specs.Numbers.{f0}
use Rattle.model.specs.Readings.{above}

-- for a length m: a ring of 2m samples a channel, sums recent and previous, one cursor and filled
pub record PowerLooks : Type 0 where
  pub m : ℕ
  pub cursor : ℕ
  pub filled : ℕ
  pub rings : List (List Float)
  pub recent : List Float
  pub previous : List Float

-- ---- the cursor

-- c advances modulo 2m
abbrev pub turned : ℕ → ℕ → ℕ
turned m c = (c + 1) % (2 * m)

-- filled grows to at most 2m
abbrev pub grown : ℕ → ℕ → ℕ
grown m f = min (f + 1) (2 * m)

-- middle is at (c + m) mod 2m
abbrev pub middle_of : ℕ → ℕ → ℕ
middle_of m c = (c + m) % (2 * m)

-- ---- push, advance, rebase

abbrev pub ring_of : PowerLooks → ℕ → List Float
ring_of l k = get_or l.rings k []

abbrev pub old_at : PowerLooks → ℕ → Float
old_at l k = get_or (ring_of l k) l.cursor f0

abbrev pub middle_at : PowerLooks → ℕ → Float
middle_at l k = get_or (ring_of l k) (middle_of l.m l.cursor) f0

-- each of n channels takes its sample: previous gains (middle - old), recent gains (sample - middle), old becomes the sample
unfoldable pub push_look : ℕ → (ℕ → Float) → PowerLooks → PowerLooks
push_look n sample l =
    record {
      m = l.m;
      cursor = l.cursor;
      filled = l.filled;
      rings = tab n (λ k. set (ring_of l k) l.cursor (sample k));
      recent = tab n (λ k. add binary64 (get_or l.recent k f0) (sub binary64 (sample k) (middle_at l k)));
      previous = tab n (λ k. add binary64 (get_or l.previous k f0) (sub binary64 (middle_at l k) (old_at l k)));
    }

-- after all channels
unfoldable pub advance_look : PowerLooks → PowerLooks
advance_look l =
    record {
      m = l.m;
      cursor = turned l.m l.cursor;
      filled = grown l.m l.filled;
      rings = l.rings;
      recent = l.recent;
      previous = l.previous;
    }

-- left to right from a
unfoldable pub total : Float → List Float → Float
total a [] = a
total a (x ∷ xs) = total (add binary64 a x) xs

-- previous becomes the sum of places 0..m-1 and recent that of m..2m-1, left to right from zero ..
unfoldable pub rebase_look : ℕ → PowerLooks → PowerLooks
rebase_look n l =
    record {
      m = l.m;
      cursor = l.cursor;
      filled = l.filled;
      rings = l.rings;
      recent = tab n (λ k. total f0 (drop l.m (ring_of l k)));
      previous = tab n (λ k. total f0 (take l.m (ring_of l k)));
    }

-- .. at c = 0
abbrev pub settle_at : ℕ → ℕ → PowerLooks → PowerLooks
settle_at zero n l = rebase_look n l
settle_at (suc c) n l = l

unfoldable pub step_look : ℕ → (ℕ → Float) → PowerLooks → PowerLooks
step_look n sample l = let a = advance_look (push_look n sample l) in settle_at a.cursor n a

unfoldable pub fresh_look : ℕ → ℕ → PowerLooks
fresh_look n k =
    record {
      m = k;
      cursor = 0;
      filled = 0;
      rings = replicate n (replicate (2 * k) f0);
      recent = replicate n f0;
      previous = replicate n f0;
    }

-- ---- the rise of one length

-- channel j is another than k and has a strictly larger recent
abbrev pub stronger : List Float → ℕ → ℕ → Bool
stronger recent k j = not (eqb j k) && lt (get_or recent k f0) (get_or recent j f0)

-- distance 1 or 2 below k, wrapping
abbrev pub beneath : ℕ → ℕ → ℕ → ℕ
beneath n k d = (k + 2 * n - d) % n

-- a channel at distance 1 or 2 (wrapping, other than k) has strictly larger recent
unfoldable pub beside_stronger : ℕ → List Float → ℕ → Bool
beside_stronger n recent k =
    stronger recent k (beneath n k 2) || stronger recent k (beneath n k 1) || stronger recent k (above n k 1) || stronger recent k (above n k 2)

-- filled = 2m, recent and previous both at least threshold × m, and no such channel
unfoldable pub look_rises : ℕ → Float → ℕ → PowerLooks → Bool
look_rises n threshold k l =
    let level = mul binary64 threshold (of_int binary64 (pos l.m)) in
    eqb l.filled (2 * l.m)
    && le level (get_or l.recent k f0)
    && le level (get_or l.previous k f0)
    && not (beside_stronger n l.recent k)

-- for some length
abbrev pub any_rises : ℕ → Float → ℕ → List PowerLooks → Bool
any_rises n threshold k [] = false
any_rises n threshold k (l ∷ ls) = look_rises n threshold k l || any_rises n threshold k ls
