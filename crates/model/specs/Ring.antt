-- Document 01, "Ring and quartile", without what R-7 takes out: counts have no bounds, and there is no answer after the last bin.
use Rattle.std.specs.Prelude.{Bool, true, false, cond, ◌&&◌, List, [], ◌∷◌, ℕ, zero, suc, ◌+◌, ◌-◌, ◌*◌, ◌/◌, ◌%◌, min, eqb, leb, get_or, set, take, pos, Float}
use Rattle.std.specs.Float.{nan, inf, fin, binary64}
use Rattle.std.specs.Float.Ieee.{up, down, add, mul, div, of_int}
use Rattle.laws.specs.Lists.{one}
use Rattle.model.specs.Numbers.{half}
use Rattle.model.specs.Layout.{depth, hist_min, last_bin}

-- ---- bin and centre

-- the floor of z held to 0..top; NaN gives 0
unfoldable pub floor_held : ℕ → Float → ℕ
floor_held top nan = 0
floor_held top (inf true) = 0
floor_held top (inf false) = top
floor_held top (fin true m e) = 0
floor_held top (fin false m e) = min (m * up e / down e) top

-- the bin of p: y = p + depth rounded, z = y / 0.5, then the floor of z held to 0..last_bin
unfoldable pub bin_of : Float → ℕ
bin_of p = floor_held last_bin (div binary64 (add binary64 p depth) half)

-- the centre of bin b: hist_min + (b + 0.5) × 0.5
abbrev pub centre_of : ℕ → Float
centre_of b = add binary64 hist_min (mul binary64 (add binary64 (of_int binary64 (pos b)) half) half)

-- ---- the ring of a channel

-- a ring of the last ring_len bins, a count for each bin, next place, filled, and lead: entries of bin 0 taken before the block's first seed
-- push and still in the ring
pub record ChannelFloor : Type 0 where
  pub ring : List ℕ
  pub counts : List ℕ
  pub next : ℕ
  pub filled : ℕ
  pub lead : ℕ

-- bin b is counted, and counted no more (R-7: on a sound channel a count stays within 0 to ring_len, and one that falls is at least 1)
abbrev pub counted : List ℕ → ℕ → List ℕ
counted cs b = set cs b (get_or cs b 0 + 1)

abbrev pub uncounted : List ℕ → ℕ → List ℕ
uncounted cs b = set cs b (get_or cs b 0 - 1)

-- the bin at the next place: the oldest, once the ring is full
abbrev pub oldest : ChannelFloor → ℕ
oldest c = get_or c.ring c.next 0

-- A push of bin b into a ring of R places. A full ring evicts its oldest; if an evicted bin is 0 and lead is above 0, lead falls by 1
unfoldable pub push_as : Bool → ℕ → ChannelFloor → ℕ → ChannelFloor
push_as true R c b =
    record {
      ring = set c.ring c.next b;
      counts = counted (uncounted c.counts (oldest c)) b;
      next = (c.next + 1) % R;
      filled = c.filled;
      lead = c.lead - one (eqb 0 (oldest c));
    }
push_as false R c b =
    record {
      ring = set c.ring c.next b;
      counts = counted c.counts b;
      next = (c.next + 1) % R;
      filled = c.filled + 1;
      lead = c.lead;
    }

unfoldable pub push : ℕ → ChannelFloor → ℕ → ChannelFloor
push R c b = push_as (eqb c.filled R) R c b

-- a push as a slow hop makes it: where the bin is 0 and the block has no seed push (quiet), lead rises by 1
unfoldable pub push_in : ℕ → Bool → ChannelFloor → ℕ → ChannelFloor
push_in R quiet c b =
    record {
      ring = (push R c b).ring;
      counts = (push R c b).counts;
      next = (push R c b).next;
      filled = (push R c b).filled;
      lead = (push R c b).lead + one (quiet && eqb 0 b);
    }

-- ---- the quartile, by nearest rank

-- the entries of the ring: its filled places
abbrev pub entries : ChannelFloor → List ℕ
entries c = take c.filled c.ring

-- l with s entries of bin 0 left out
unfoldable pub without : ℕ → List ℕ → List ℕ
without zero l = l
without (suc s) [] = []
without (suc s) (x ∷ l) = cond (eqb x 0) (without s l) (x ∷ without (suc s) l)

unfoldable pub insert : ℕ → List ℕ → List ℕ
insert x [] = x ∷ []
insert x (y ∷ l) = cond (leb x y) (x ∷ y ∷ l) (y ∷ insert x l)

-- l in rising order
unfoldable pub sorted : List ℕ → List ℕ
sorted [] = []
sorted (x ∷ l) = insert x (sorted l)

-- the k-th smallest, k from 1 (R-7: a look-up past the end would give 0, which no sound store reaches)
unfoldable pub smallest : ℕ → List ℕ → ℕ
smallest k l = get_or (sorted l) (k - 1) 0

-- hist_min if r = 0, else the centre of the ceil(r/4)-th smallest of l
abbrev pub quartile_of : ℕ → List ℕ → Float
quartile_of zero l = hist_min
quartile_of (suc r) l = centre_of (smallest ((suc r + 3) / 4) l)

-- with skip s, of r = filled - s entries, after s entries of bin 0 are left out
unfoldable pub quartile : ℕ → ChannelFloor → Float
quartile s c = quartile_of (c.filled - s) (without s (entries c))

-- raw floor: skip 0
unfoldable pub raw_floor : ChannelFloor → Float
raw_floor c = quartile 0 c

-- usable floor: skip lead, or skip 0 if lead = filled
abbrev pub skip_of : ChannelFloor → ℕ
skip_of c = cond (eqb c.lead c.filled) 0 c.lead

unfoldable pub usable_floor : ChannelFloor → Float
usable_floor c = quartile (skip_of c) c

-- entries taken since the block's leading silence
abbrev pub since : ChannelFloor → ℕ
since c = c.filled - c.lead
