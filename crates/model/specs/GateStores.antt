-- Document 01, "Stores", the gate's half: how a gate lies in its two lent stores, and when they are sound.
use Rattle.std.specs.Prelude.{Bool, true, not, cond, ◌&&◌, ◌||◌, List, [], ◌∷◌, ◌++◌, map, ℕ, zero, suc, ◌+◌, ◌-◌, ◌*◌, eqb, ltb, leb, length, get_or, replicate, Float}
use Rattle.laws.specs.Lists.{part, tab, joined}
use Rattle.laws.specs.Tests.{all_below, within}
use Rattle.model.specs.Windows.{PowerLooks}
use Rattle.model.specs.Gate.{Gate}

-- ---- written

-- a triple (m, cursor, filled)
abbrev pub triple : PowerLooks → List ℕ
triple l = l.m ∷ l.cursor ∷ l.filled ∷ []

-- u16, 30 entries: n, started, on + 800, off + 800, early + 800 or 65535, number of lengths, eight triples, unused zero
abbrev pub gate_u16s : Gate → List ℕ
gate_u16s g =
    g.n ∷ g.started ∷ g.on ∷ g.off ∷ g.early ∷ length g.looks
    ∷ (joined (map triple g.looks) ++ replicate (24 - 3 * length g.looks) 0)

-- for each length ring 2mn (channel after channel), recent n, previous n
abbrev pub look_f : PowerLooks → List Float
look_f l = joined l.rings ++ (l.recent ++ l.previous)

-- f64: smoothed n, then the lengths; R-3: then, of n each, the rise floors last used and their thresholds
abbrev pub gate_floats : Gate → List Float
gate_floats g = g.smooth ++ (joined (map look_f g.looks) ++ (g.used ++ g.threshold))

-- ---- read

-- the m, cursor and filled of length j
abbrev pub m_at : List ℕ → ℕ → ℕ
m_at u j = get_or u (6 + 3 * j) 0

abbrev pub cursor_at : List ℕ → ℕ → ℕ
cursor_at u j = get_or u (6 + 3 * j + 1) 0

abbrev pub filled_at : List ℕ → ℕ → ℕ
filled_at u j = get_or u (6 + 3 * j + 2) 0

-- the floats of one length
abbrev pub look_size : ℕ → ℕ → ℕ
look_size n m = 2 * m * n + n + n

-- where length j begins
abbrev pub look_start : ℕ → (ℕ → ℕ) → ℕ → ℕ
look_start n m zero = n
look_start n m (suc j) = look_start n m j + look_size n (m j)

abbrev pub look_of : ℕ → ℕ → ℕ → ℕ → List Float → PowerLooks
look_of n k c t l =
    record {
      m = k;
      cursor = c;
      filled = t;
      rings = tab n (λ i. part (2 * k * i) (2 * k) l);
      recent = part (2 * k * n) n l;
      previous = part (2 * k * n + n) n l;
    }

-- where the pairs of R-3 begin: behind the last length
abbrev pub pair_start : List ℕ → ℕ
pair_start u = look_start (get_or u 0 0) (m_at u) (get_or u 5 0)

unfoldable pub gate_of : List ℕ → List Float → Gate
gate_of u f =
    let n = get_or u 0 0 in
    record {
      n = n;
      started = get_or u 1 0;
      on = get_or u 2 0;
      off = get_or u 3 0;
      early = get_or u 4 0;
      looks = tab (get_or u 5 0) (λ j. look_of n (m_at u j) (cursor_at u j) (filled_at u j) (part (look_start n (m_at u) j) (look_size n (m_at u j)) f));
      smooth = part 0 n f;
      used = part (pair_start u) n f;
      threshold = part (pair_start u + n) n f;
    }

-- the f64 store of n channels and so many lengths, with the two groups of R-3
abbrev pub floats : ℕ → (ℕ → ℕ) → ℕ → ℕ
floats n m count = look_start n m count + 2 * n

abbrev pub gate_f_len : List ℕ → ℕ
gate_f_len u = floats (get_or u 0 0) (m_at u) (get_or u 5 0)

-- ---- sound

-- a level as making takes it
abbrev pub sound_level : ℕ → Bool
sound_level x = leb x 1600

-- m from 1 to 375, cursor < 2m, filled <= 2m, and equal while filled < 2m
abbrev pub sound_triple : ℕ → ℕ → ℕ → Bool
sound_triple m c f = within 1 375 m && ltb c (2 * m) && leb f (2 * m) && cond (ltb f (2 * m)) (eqb c f) true

-- lengths distinct: none equals an earlier one
abbrev pub new_length : (ℕ → ℕ) → ℕ → Bool
new_length m j = all_below j (λ i. not (eqb (m i) (m j)))

-- unused triples zero
unfoldable pub sound_triples : List ℕ → Bool
sound_triples u =
    all_below 8
    (λ j.
    cond (ltb j (get_or u 5 0)) (sound_triple (m_at u j) (cursor_at u j) (filled_at u j) && new_length (m_at u) j)
    (eqb (m_at u j) 0 && eqb (cursor_at u j) 0 && eqb (filled_at u j) 0))

abbrev pub sound_head : ℕ → ℕ → ℕ → ℕ → ℕ → ℕ → Bool
sound_head n started on off early count =
    within 1 512 n && leb started 1 && sound_level on && sound_level off && (eqb early 65535 || sound_level early) && within 1 8 count

unfoldable pub sound_gate : List ℕ → Bool
sound_gate u = sound_head (get_or u 0 0) (get_or u 1 0) (get_or u 2 0) (get_or u 3 0) (get_or u 4 0) (get_or u 5 0) && sound_triples u
