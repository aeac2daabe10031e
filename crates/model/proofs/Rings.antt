-- The history of one channel, for a ring of R places and K bins: what its newest j entries are, and how much of the lead is left
-- after j pushes. Nothing here computes a list that long. Assumes nothing.
use mathlib.Core.Path.{◌≡◌, refl, sym, ap, ◌∙◌, subst}
use mathlib.Core.List.{List, [], ◌∷◌, ◌++◌}
use mathlib.Core.Bool.{Bool, true, false, ◌&&◌}
use Prim.Native.Nat.{ℕ, suc, ◌+◌, ◌-◌, ◌≤◌, ◌<◌, ◌%◌, min}
use native.Mathlib.Nat.{mod-lt, mod-eq_of_lt}
use native.Mathlib.Numerals.{add-one}
use native.Mathlib.Decide.{ℕ_discrete, dec_lt}
use native.Mathlib.Omega.{arith}
use lib.ListN.{length, get_or, set, take, drop, length-set, length-append, length-drop, drop_of_length-le}
use lib.Seq.{get_or-set_same, get_or-set_other, ext_get_or, take-append-le, take_all}
use lib.Dec.{T, eqb, eqb_refl, eqb→eq}
use borrow.Author.Tests.{eqb-true, eqb-false}
use Rattle.laws.specs.Lists.{one, occ}
use Rattle.model.specs.Ring.{ChannelFloor, counted, uncounted, oldest, entries, push_as, push, push_in}
use Rattle.model.specs.Sound.{Sound}
use Rattle.laws.proofs.Counting.{occ-append}
use Rattle.model.proofs.Queue.{newest, older, newest-all, newest-step, win, win-part, win-full, win-pushed, kept, length-win, occ-win}

-- the window, oldest first
abbrev pub W : ChannelFloor → List ℕ
W c = win c.next c.filled c.ring

-- the same, over the window
unfoldable pub Tallied : ℕ → List ℕ → List ℕ → Type 0
Tallied K cs w = (x : ℕ) → x < K → get_or cs x 0 ≡ occ x w

one-refl : (x : ℕ) → one (eqb x x) ≡ 1
one-refl x = go (eqb x x) (eqb_refl x)
  where
    go : (t : Bool) → T t → one t ≡ 1
    go true h = refl
    go false h = absurd h

one-ne : (x y : ℕ) → (x ≡ y → ⊥) → one (eqb x y) ≡ 0
one-ne x y n = go (eqb x y) (λ (h : T (eqb x y)). n (eqb→eq x y h))
  where
    go : (t : Bool) → (T t → ⊥) → one t ≡ 0
    go true h = absurd (h tt)
    go false h = refl

tally-counted : (K : ℕ) (cs w : List ℕ) (b : ℕ) → length cs ≡ K → b < K → Tallied K cs w → Tallied K (counted cs b) (w ++ (b ∷ []))
unfolding Tallied
tally-counted K cs w b l h c x k = go (ℕ_discrete x b)
  where
    at_b : get_or (counted cs b) b 0 ≡ occ b (w ++ (b ∷ []))
    at_b = omega (arith, get_or-set_same cs b (get_or cs b 0 + 1) 0 (omega arith), c b h, occ-append b w (b ∷ []), one-refl b)

    go : Dec (x ≡ b) → get_or (counted cs b) x 0 ≡ occ x (w ++ (b ∷ []))
    go (yes e) = subst (λ (y : ℕ). get_or (counted cs b) y 0 ≡ occ y (w ++ (b ∷ []))) (sym e) at_b
    go (no n) = omega (arith, get_or-set_other cs b x (get_or cs b 0 + 1) 0 n, c x k, occ-append x w (b ∷ []), one-ne x b n)

tally-uncounted : (K : ℕ) (cs w : List ℕ) (b : ℕ) → length cs ≡ K → b < K → Tallied K cs (b ∷ w) → Tallied K (uncounted cs b) w
unfolding Tallied
tally-uncounted K cs w b l h c x k = go (ℕ_discrete x b)
  where
    at_b : get_or (uncounted cs b) b 0 ≡ occ b w
    at_b = omega (arith, get_or-set_same cs b (get_or cs b 0 - 1) 0 (omega arith), c b h, one-refl b)

    go : Dec (x ≡ b) → get_or (uncounted cs b) x 0 ≡ occ x w
    go (yes e) = subst (λ (y : ℕ). get_or (uncounted cs b) y 0 ≡ occ y w) (sym e) at_b
    go (no n) = omega (arith, get_or-set_other cs b x (get_or cs b 0 - 1) 0 n, c x k, one-ne x b n)

-- a bin put into a ring of bins
below_set : (R K : ℕ) (r : List ℕ) (n b : ℕ) → length r ≡ R → n < R → b < K → ((i : ℕ) → i < R → get_or r i 0 < K) → (i : ℕ) → i < R → get_or (set r n b) i 0 < K
below_set R K r n b l h k a i j = go (ℕ_discrete i n)
  where
    go : Dec (i ≡ n) → get_or (set r n b) i 0 < K
    go (yes e) = subst (λ (y : ℕ). get_or (set r n b) y 0 < K) (sym e) (omega (arith, get_or-set_same r n b 0 (omega arith)))
    go (no e) = omega (arith, get_or-set_other r n i b 0 e, a i j)

-- sound, over the window
pub record Good (R K : ℕ) (c : ChannelFloor) : Type 0 where
  pub ring_is_long : length c.ring ≡ R
  pub counts_length : length c.counts ≡ K
  pub next_below : c.next < R
  pub filled_within : c.filled ≤ R
  pub at_start : c.filled < R → c.next ≡ c.filled
  pub bins_below : (i : ℕ) → i < R → get_or c.ring i 0 < K
  pub tallied : Tallied K c.counts (W c)
  pub lead_within : c.lead ≤ occ 0 (W c)

module _ (R K : ℕ) where
  next_within : (c : ChannelFloor) → c.next < R → c.filled ≤ R → (c.filled < R → c.next ≡ c.filled) → c.next ≤ c.filled
  next_within c n f s = go (ℕ_discrete c.filled R)
    where
      go : Dec (c.filled ≡ R) → c.next ≤ c.filled
      go (yes e) = omega arith
      go (no e) = omega (arith, s (omega arith))

  -- the window has the entries of the ring
  window-entries : (c : ChannelFloor) → length c.ring ≡ R → c.next < R → c.filled ≤ R → (c.filled < R → c.next ≡ c.filled) → (x : ℕ)
      → occ x (W c) ≡ occ x (entries c)
  window-entries c l n f s x = occ-win x c.next c.filled c.ring (next_within c n f s) (omega arith)

  pub length-W : (c : ChannelFloor) → Good R K c → length (W c) ≡ c.filled
  length-W c g =
      length-win c.next c.filled c.ring (next_within c g.next_below g.filled_within g.at_start) (omega (arith, g.ring_is_long, g.filled_within))

  -- what one push of b makes of c, by the window without its newest entry
  record After (c : ChannelFloor) (b : ℕ) (d : ChannelFloor) : Type 0 where
    ring_is_long : length d.ring ≡ R
    counts_length : length d.counts ≡ K
    next_below : d.next < R
    filled_within : d.filled ≤ R
    at_start : d.filled < R → d.next ≡ d.filled
    bins_below : (i : ℕ) → i < R → get_or d.ring i 0 < K
    rest : List ℕ
    window : W d ≡ rest ++ (b ∷ [])
    tallied : Tallied K d.counts (rest ++ (b ∷ []))
    lead_within : d.lead ≤ occ 0 rest
    keeps : newest R (W c ++ (b ∷ [])) ≡ rest ++ (b ∷ [])
    fades : (j : ℕ) → c.lead ≤ occ 0 (older j (W c)) → d.lead ≤ occ 0 (older (suc j) (rest ++ (b ∷ [])))

  older-snoc : (j : ℕ) (w : List ℕ) (b : ℕ) → older (suc j) (w ++ (b ∷ [])) ≡ older j w
  older-snoc j w b =
      ap (λ (k : ℕ). take k (w ++ (b ∷ []))) (let e : length (w ++ (b ∷ [])) - suc j ≡ length w - j = omega (arith, length-append w (b ∷ [])) in e)
      ∙ take-append-le (length w - j) w (b ∷ []) (omega arith)

  after-part : (c : ChannelFloor) (b : ℕ) → Good R K c → b < K → c.filled < R → After c b (push_as false R c b)
  unfolding push_as
  after-part c b g h p =
      record {
        ring_is_long = length-set c.ring c.next b ∙ g.ring_is_long;
        counts_length = length-set c.counts b (get_or c.counts b 0 + 1) ∙ g.counts_length;
        next_below = mod-lt (c.next + 1) (omega arith);
        filled_within = omega arith;
        at_start = λ q. (let e : (c.next + 1) % R ≡ c.next + 1 = mod-eq_of_lt (omega (arith, g.at_start p)) in omega (arith, e, g.at_start p));
        bins_below = below_set R K c.ring c.next b g.ring_is_long g.next_below h g.bins_below;
        rest = W c;
        window =
            subst (λ (f : ℕ). win ((c.next + 1) % R) (f + 1) (set c.ring c.next b) ≡ win c.next f c.ring ++ (b ∷ [])) (g.at_start p)
            (subst (λ (k : ℕ). win ((c.next + 1) % R) k (set c.ring c.next b) ≡ win c.next c.next c.ring ++ (b ∷ [])) (sym (add-one c.next))
            (win-part R c.next c.ring g.ring_is_long g.next_below b));
        tallied = tally-counted K c.counts (W c) b g.counts_length h g.tallied;
        lead_within = g.lead_within;
        keeps = newest-all R (W c ++ (b ∷ [])) (omega (arith, length-append (W c) (b ∷ []), length-W c g));
        fades = λ j l. rw (older-snoc j (W c) b) l;
      }

  older-cons : (j e : ℕ) (w : List ℕ) (l : ℕ) → l ≤ occ 0 (older j (e ∷ w)) → l - one (eqb 0 e) ≤ occ 0 (older j w)
  older-cons j e w l h = go (dec_lt (length w) j)
    where
      go : Dec (length w < j) → l - one (eqb 0 e) ≤ occ 0 (older j w)
      go (yes k) =
          let z : suc (length w) - j ≡ 0 = omega arith in
          let h' : l ≤ 0 = subst (λ (i : ℕ). l ≤ occ 0 (take i (e ∷ w))) z h in
          omega arith
      go (no k) =
          let z : suc (length w) - j ≡ suc (length w - j) = omega arith in
          let h' : l ≤ one (eqb 0 e) + occ 0 (older j w) = subst (λ (i : ℕ). l ≤ occ 0 (take i (e ∷ w))) z h in
          omega arith

  after-full : (c : ChannelFloor) (b : ℕ) → Good R K c → b < K → c.filled ≡ R → After c b (push_as true R c b)
  unfolding push_as
  after-full c b g h p =
      record {
        ring_is_long = length-set c.ring c.next b ∙ g.ring_is_long;
        counts_length =
            length-set (uncounted c.counts (oldest c)) b (get_or (uncounted c.counts (oldest c)) b 0 + 1) ∙ low-length;
        next_below = mod-lt (c.next + 1) (omega arith);
        filled_within = g.filled_within;
        at_start = λ q. absurd (omega arith);
        bins_below = below_set R K c.ring c.next b g.ring_is_long g.next_below h g.bins_below;
        rest = X;
        window =
            ap (λ (f : ℕ). win ((c.next + 1) % R) f (set c.ring c.next b)) p ∙ win-pushed R c.next c.ring g.ring_is_long g.next_below b;
        tallied =
            tally-counted K (uncounted c.counts (oldest c)) X b low-length h
            (tally-uncounted K c.counts X (oldest c) g.counts_length (g.bins_below c.next g.next_below) (subst (λ (w : List ℕ). Tallied K c.counts w) before g.tallied));
        lead_within = (let l : c.lead ≤ occ 0 (oldest c ∷ X) = subst (λ (w : List ℕ). c.lead ≤ occ 0 w) before g.lead_within in omega arith);
        keeps =
            ap (λ (w : List ℕ). newest R (w ++ (b ∷ []))) before
            ∙ ap (λ (k : ℕ). drop k (oldest c ∷ (X ++ (b ∷ []))))
            (let e : suc (length (X ++ (b ∷ []))) - R ≡ 1 = omega (arith, length-append X (b ∷ []), X-length) in e);
        fades = λ j l. rw (older-snoc j X b) (older-cons j (oldest c) X c.lead (subst (λ (w : List ℕ). c.lead ≤ occ 0 (older j w)) before l));
      }
    where
      X : List ℕ
      X = kept R c.next c.ring g.ring_is_long g.next_below b

      before : W c ≡ oldest c ∷ X
      before = ap (λ (f : ℕ). win c.next f c.ring) p ∙ win-full R c.next c.ring g.ring_is_long g.next_below b 0

      low-length : length (uncounted c.counts (oldest c)) ≡ K
      low-length = length-set c.counts (oldest c) (get_or c.counts (oldest c) 0 - 1) ∙ g.counts_length

      X-length : suc (length X) ≡ R
      X-length = omega (arith, ap length before, length-W c g)

  after : (c : ChannelFloor) (b : ℕ) → Good R K c → b < K → After c b (push R c b)
  unfolding push
  after c b g h = go (eqb c.filled R) refl
    where
      go : (t : Bool) → eqb c.filled R ≡ t → After c b (push_as t R c b)
      go true e = after-full c b g h (eqb-true c.filled R e)
      go false e = after-part c b g h (let n : c.filled ≡ R → ⊥ = eqb-false c.filled R e in omega (arith, g.filled_within))

  -- ---- the channel's laws

  pub good-in : (q : Bool) (c : ChannelFloor) (b : ℕ) → Good R K c → b < K → Good R K (push_in R q c b)
  unfolding push_in
  good-in q c b g h =
      let a : After c b (push R c b) = after c b g h in
      record {
        ring_is_long = a.ring_is_long;
        counts_length = a.counts_length;
        next_below = a.next_below;
        filled_within = a.filled_within;
        at_start = a.at_start;
        bins_below = a.bins_below;
        tallied = subst (λ (w : List ℕ). Tallied K (push R c b).counts w) (sym a.window) a.tallied;
        lead_within = subst (λ (w : List ℕ). (push R c b).lead + one (q && eqb 0 b) ≤ occ 0 w) (sym a.window)
            (omega (arith, a.lead_within, occ-append 0 a.rest (b ∷ []), and-le q (eqb 0 b)));
      }
    where
      and-le : (p t : Bool) → one (p && t) ≤ one t
      and-le true t = omega arith
      and-le false t = omega arith

  -- the window is the newest R
  pub W-in : (q : Bool) (c : ChannelFloor) (b : ℕ) → Good R K c → b < K → W (push_in R q c b) ≡ newest R (W c ++ (b ∷ []))
  unfolding push_in
  W-in q c b g h = let a : After c b (push R c b) = after c b g h in a.window ∙ sym a.keeps

  -- the lead, where it does not rise, is within what is left of the older entries
  pub fade-in : (j : ℕ) (c : ChannelFloor) (b : ℕ) → Good R K c → b < K → c.lead ≤ occ 0 (older j (W c))
      → (push_in R false c b).lead ≤ occ 0 (older (suc j) (W (push_in R false c b)))
  unfolding push_in
  fade-in j c b g h l =
      let a : After c b (push R c b) = after c b g h in
      rw a.window (omega (arith, a.fades j l))

  -- how far a channel has come, j pushes after a start: sound, its lead within the older entries, and filled as far as that
  pub record Fading (j : ℕ) (c : ChannelFloor) : Type 0 where
    pub good : Good R K c
    pub fade : c.lead ≤ occ 0 (older j (W c))
    pub full : min j R ≤ c.filled

  pub fading-start : (c : ChannelFloor) → Good R K c → Fading 0 c
  fading-start c g =
      record {
        good = g;
        fade = subst (λ (w : List ℕ). c.lead ≤ occ 0 w) (sym (take_all (length (W c) - 0) (W c) (omega arith))) g.lead_within;
        full = omega arith;
      }

  pub filled_in : (q : Bool) (c : ChannelFloor) (b : ℕ) → Good R K c → b < K → (push_in R q c b).filled ≡ min (c.filled + 1) R
  filled_in q c b g h =
      let e : length (W (push_in R q c b)) ≡ length (newest R (W c ++ (b ∷ []))) = ap length (W-in q c b g h) in
      omega (
        arith,
        e,
        length-W (push_in R q c b) (good-in q c b g h),
        length-drop (length (W c ++ (b ∷ [])) - R) (W c ++ (b ∷ [])),
        length-append (W c) (b ∷ []),
        length-W c g,
      )

  pub fading-in : (j : ℕ) (c : ChannelFloor) (b : ℕ) → Fading j c → b < K → Fading (suc j) (push_in R false c b)
  fading-in j c b f h =
      record {
        good = good-in false c b f.good h;
        fade = fade-in j c b f.good h f.fade;
        full = omega (arith, filled_in false c b f.good h, f.full);
      }

  -- two channels whose newest j are equal, before and after
  pub near-in : (j : ℕ) (q p : Bool) (c d : ChannelFloor) (b : ℕ) → Good R K c → Good R K d → b < K → newest j (W c) ≡ newest j (W d)
      → newest (suc j) (W (push_in R q c b)) ≡ newest (suc j) (W (push_in R p d b))
  near-in j q p c d b g k h e =
      ap (newest (suc j)) (W-in q c b g h)
      ∙ newest-step R j (W c) b
      ∙ ap (λ (w : List ℕ). newest R (w ++ (b ∷ []))) e
      ∙ sym (newest-step R j (W d) b)
      ∙ sym (ap (newest (suc j)) (W-in p d b k h))

  pub near-start : (c d : ChannelFloor) → newest 0 (W c) ≡ newest 0 (W d)
  near-start c d = none (W c) ∙ sym (none (W d))
    where
      none : (w : List ℕ) → newest 0 w ≡ []
      none w = drop_of_length-le w {i = length w - 0} (omega arith)

  -- after R pushes nothing of the start is left
  module _ (j : ℕ) (far : R ≤ j) where
    pub lead-gone : (c : ChannelFloor) → Fading j c → c.lead ≡ 0
    lead-gone c f =
        let z : length (W c) - j ≡ 0 = omega (arith, length-W c f.good, f.good.filled_within) in
        let h : c.lead ≤ 0 = subst (λ (k : ℕ). c.lead ≤ occ 0 (take k (W c))) z f.fade in
        omega arith

    pub filled-up : (c : ChannelFloor) → Fading j c → c.filled ≡ R
    filled-up c f = omega (arith, f.full, f.good.filled_within)

    pub windows-equal : (c d : ChannelFloor) → Fading j c → Fading j d → newest j (W c) ≡ newest j (W d) → W c ≡ W d
    windows-equal c d f g e =
        sym (newest-all j (W c) (omega (arith, length-W c f.good, f.good.filled_within)))
        ∙ e
        ∙ newest-all j (W d) (omega (arith, length-W d g.good, g.good.filled_within))

    pub counts-equal : (c d : ChannelFloor) → Fading j c → Fading j d → newest j (W c) ≡ newest j (W d) → c.counts ≡ d.counts
    unfolding Tallied
    counts-equal c d f g e =
        ext_get_or 0 c.counts d.counts (f.good.counts_length ∙ sym g.good.counts_length)
        (λ x h.
        (let h' : x < K = omega (arith, f.good.counts_length) in
        f.good.tallied x h' ∙ ap (occ x) (windows-equal c d f g e) ∙ sym (g.good.tallied x h')))

    -- each bin is as often in the one ring as in the other
    pub entries-equal : (c d : ChannelFloor) → Fading j c → Fading j d → newest j (W c) ≡ newest j (W d) → (x : ℕ) → occ x (entries c) ≡ occ x (entries d)
    entries-equal c d f g e x = sym (of c f.good) ∙ ap (occ x) (windows-equal c d f g e) ∙ of d g.good
      where
        of : (c : ChannelFloor) → Good R K c → occ x (W c) ≡ occ x (entries c)
        of c g = window-entries c g.ring_is_long g.next_below g.filled_within g.at_start x

-- ---- the document's soundness, and the window's

pub sound-good : (R K : ℕ) → 0 < K → (c : ChannelFloor) → Sound R K c → Good R K c
unfolding Tallied
sound-good R K some c s =
    record {
      ring_is_long = s.ring_is_long;
      counts_length = s.counts_length;
      next_below = s.next_below;
      filled_within = s.filled_within;
      at_start = s.at_start;
      bins_below = s.bins_below;
      tallied = λ x h. s.recount x h ∙ sym (window-entries R K c s.ring_is_long s.next_below s.filled_within s.at_start x);
      lead_within = omega (arith, s.lead_within, s.recount 0 some, window-entries R K c s.ring_is_long s.next_below s.filled_within s.at_start 0);
    }

pub good-sound : (R K : ℕ) → 0 < K → (c : ChannelFloor) → Good R K c → Sound R K c
unfolding Tallied
good-sound R K some c s =
    record {
      ring_is_long = s.ring_is_long;
      counts_length = s.counts_length;
      next_below = s.next_below;
      filled_within = s.filled_within;
      at_start = s.at_start;
      bins_below = s.bins_below;
      recount = λ x h. s.tallied x h ∙ window-entries R K c s.ring_is_long s.next_below s.filled_within s.at_start x;
      lead_within = omega (arith, s.lead_within, s.tallied 0 some, window-entries R K c s.ring_is_long s.next_below s.filled_within s.at_start 0);
    }
