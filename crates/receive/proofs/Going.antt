-- A run in its course: what is done so far and the calls of the hops that are left come to the calls of the whole run. Assumes nothing.
use mathlib.Core.Path.{◌≡◌, refl, sym, ap, ap₂, subst, ◌∙◌}
use mathlib.Core.Bool.{false}
use mathlib.Core.List.{List, [], ◌∷◌, ◌++◌, append_assoc, append-nil}
use Prim.Native.Nat.{ℕ, zero, suc, ◌+◌, ◌*◌, ◌%◌, ◌<◌, ◌≤◌}
use native.Mathlib.Nat.{zero-mul}
use native.Mathlib.Omega.{arith}
use lib.ListN.{length, get_or, take, drop as after, length-append}
use lib.Seq.{drop-cons, drop-drop, drop-length, take_all, length-take-le, take_at, drop_at}
use lib.Ieee.{Float}
use Rattle.laws.specs.Lists.{part, splice}
use Rattle.laws.proofs.Lists.{length_part, length-splice}
use Rattle.model.specs.Layout.{decimation_hops}
use Rattle.model.specs.Demand3.{Stores, left_by}
use Rattle.run_model.specs.Runs.{Run, RunHop, hops_from, hops_of, calls_of, rises_by, drops_by, garbled_run, run_refusal, alone, run_leaves, received}
use Rattle.run_model.specs.Hops.{Fit, Long, garbled_hop, HopFits, Stepped}
use Rattle.run_model.proofs.Taken.{fit_of}
use Rattle.run_model.proofs.Beside.{rises-more, drops-more}
use Rattle.run_model.proofs.Runs.{hop-fits, hop-phase, first-clear, rest-clear}
use Rattle.run_model.proofs.Claims.{passes, run_long}
use Rattle.run_refusals.proofs.Refuses.{known, next-at, next_fits}

-- the hops from i on, which begin at `at` in the slices
abbrev pub rest : ℕ → Run → ℕ → ℕ → List RunHop
rest n r i at = hops_from n (after i r.hold) (after at r.db) (after at r.power) (after at r.rise) (after at r.drop)

abbrev pub total : ℕ → Run → ℕ
total n r = length r.hold * n

pub record Longs (n : ℕ) (r : Run) : Type 0 where
  pub db : length r.db ≡ total n r
  pub power : length r.power ≡ total n r
  pub rise : length r.rise ≡ total n r
  pub drop : length r.drop ≡ total n r

-- of a mark slice: its first places are written, the others are as they were
pub record Written (n : ℕ) (r : Run) (at : ℕ) (was now all left : List ℕ) : Type 0 where
  pub marks : all ≡ take at now ++ left
  pub others : after at now ≡ after at was
  pub long : length now ≡ total n r

pub record Going (n : ℕ) (s : Stores) (r : Run) (i at : ℕ) (u : List ℕ) (f : List Float) (g : List ℕ) (k : List Float) (rise drop : List ℕ) : Type 0 where
  pub few : i ≤ length r.hold
  pub place : at ≡ i * n
  pub fit : Fit n (alone u f g k)
  pub clear : garbled_run n (get_or u 1 0) (rest n r i at) ≡ false
  pub stores : left_by s (calls_of (hops_of n r)) ≡ left_by (alone u f g k) (calls_of (rest n r i at))
  pub rises : Written n r at r.rise rise (rises_by s (calls_of (hops_of n r))) (rises_by (alone u f g k) (calls_of (rest n r i at)))
  pub drops : Written n r at r.drop drop (drops_by s (calls_of (hops_of n r))) (drops_by (alone u f g k) (calls_of (rest n r i at)))

-- ---- at the start

pub longs : (n : ℕ) (bu : List ℕ) (bf : List Float) (gu : List ℕ) (gf : List Float) (r : Run) → n ≡ get_or gu 0 0 → run_refusal bu bf gu gf r ≡ 0 → Longs n r
longs n bu bf gu gf r e z =
    let q = run_long (get_or gu 0 0) r (passes (alone bu bf gu gf) r z).long in
    let t = ap (λ (m : ℕ). total m r) (sym e) in
    record { db = q.0 ∙ t; power = q.1 ∙ t; rise = q.2 ∙ t; drop = q.3 ∙ t }

pub gate-thirty : (bu : List ℕ) (bf : List Float) (gu : List ℕ) (gf : List Float) (r : Run) → run_refusal bu bf gu gf r ≡ 0 → length gu ≡ 30
gate-thirty bu bf gu gf r z = (known bu bf gu gf (passes (alone bu bf gu gf) r z).pair).thirty

pub begins : (n : ℕ) (bu : List ℕ) (bf : List Float) (gu : List ℕ) (gf : List Float) (r : Run) → n ≡ get_or gu 0 0 → run_refusal bu bf gu gf r ≡ 0
    → Going n (alone bu bf gu gf) r 0 0 bu bf gu gf r.rise r.drop
begins n bu bf gu gf r e z =
    let p = passes (alone bu bf gu gf) r z in
    let l = longs n bu bf gu gf r e z in
    record {
      few = omega arith;
      place = sym (zero-mul n);
      fit = subst (λ (m : ℕ). Fit m (alone bu bf gu gf)) (sym e) (fit_of (alone bu bf gu gf) p.pair);
      clear = ap (λ (m : ℕ). garbled_run m (get_or bu 1 0) (hops_of m r)) e ∙ p.clear;
      stores = refl;
      rises = record { marks = refl; others = refl; long = l.rise };
      drops = record { marks = refl; others = refl; long = l.drop };
    }

-- ---- one hop on

-- the next hop, as the slices now hold it
abbrev pub hop_at : ℕ → Run → ℕ → ℕ → List ℕ → List ℕ → RunHop
hop_at n r i at rise drop =
    record { hold = get_or r.hold i 0; db = part at n r.db; power = part at n r.power; rise = part at n rise; drop = part at n drop }

next-hold : (l : List ℕ) (i : ℕ) → i < length l → after i l ≡ get_or l i 0 ∷ after (i + 1) l
next-hold l i h = drop-cons l i 0 h ∙ ap (λ (j : ℕ). get_or l i 0 ∷ after j l) (let e : suc i ≡ i + 1 = omega arith in e)

rest_more : (n : ℕ) (r : Run) (i at : ℕ) → i < length r.hold → rest n r i at ≡ hop_at n r i at r.rise r.drop ∷ rest n r (i + 1) (at + n)
rest_more n r i at h =
    ap (λ (l : List ℕ). hops_from n l (after at r.db) (after at r.power) (after at r.rise) (after at r.drop)) (next-hold r.hold i h)
    ∙ (λ j. hop_at n r i at r.rise r.drop
    ∷ hops_from n (after (i + 1) r.hold) (drop-drop n at r.db j) (drop-drop n at r.power j) (drop-drop n at r.rise j) (drop-drop n at r.drop j))

-- n more places of a mark slice written
written : (n : ℕ) (r : Run) (at : ℕ) (was now p : List ℕ) → length now ≡ total n r → at + n ≤ length now → length p ≡ n → after at now ≡ after at was
    → {all left : List ℕ} → all ≡ take at now ++ (p ++ left) → Written n r (at + n) was (splice at n now p) all left
written n r at was now p long fits e others {all} {left} marks =
    let a = take at now ++ p in
    let is = sym (append_assoc (take at now) p (after n (after at now))) in
    let a-long : length a ≡ at + n = length-append (take at now) p ∙ ap₂ ◌+◌ (length-take-le at now (omega arith)) e in
    record {
      marks = marks ∙ sym (append_assoc (take at now) p _) ∙ ap (λ (l : List ℕ). l ++ left) (sym (ap (take (at + n)) is ∙ take_at a _ (at + n) a-long));
      others =
          ap (after (at + n)) is ∙ drop_at a _ (at + n) a-long
          ∙ ap (after n) others
          ∙ drop-drop n at was;
      long = length-splice at n now p fits e ∙ long;
    }

module _ (n : ℕ) (s : Stores) (r : Run) (i at : ℕ) (u : List ℕ) (f : List Float) (g : List ℕ) (k : List Float) (rise drop : List ℕ)
    (L : Longs n r) (G : Going n s r i at u f g k rise drop) (more : i < length r.hold) where
  abbrev t : Stores
  t = alone u f g k

  abbrev h : RunHop
  h = hop_at n r i at rise drop

  abbrev later : List RunHop
  later = rest n r (i + 1) (at + n)

  -- its places lie within the slices
  pub within : (len : ℕ) → len ≡ total n r → at + n ≤ len
  within len e = next_fits n (length r.hold) i at len e G.place more

  -- what is left is this hop and the others
  left_is : rest n r i at ≡ h ∷ later
  left_is =
      rest_more n r i at more
      ∙ (λ j. hop_at' (ap (take n) (sym G.rises.others) j) (ap (take n) (sym G.drops.others) j) ∷ later)
    where
      hop_at' : List ℕ → List ℕ → RunHop
      hop_at' a b = record { hold = get_or r.hold i 0; db = part at n r.db; power = part at n r.power; rise = a; drop = b }

  clear-here : garbled_run n (get_or u 1 0) (h ∷ later) ≡ false
  clear-here = ap (garbled_run n (get_or u 1 0)) (sym left_is) ∙ G.clear

  long : Long n h
  long =
      record {
        db = length_part at n r.db (within (length r.db) L.db);
        power = length_part at n r.power (within (length r.power) L.power);
        rise = length_part at n rise (within (length rise) G.rises.long);
        drop = length_part at n drop (within (length drop) G.drops.long);
      }

  hop-clear : garbled_hop n t h ≡ false
  hop-clear = first-clear n t h later clear-here

  -- none of its calls is refused
  pub hop-taken : HopFits t h
  hop-taken =
      let e = G.fit.gate_n in
      record {
        fit = subst (λ (m : ℕ). Fit m t) (sym e) G.fit;
        long = subst (λ (m : ℕ). Long m h) (sym e) long;
        clear = ap (λ (m : ℕ). garbled_hop m t h) e ∙ hop-clear;
      }

  -- after it
  module _ (u' : List ℕ) (f' : List Float) (g' : List ℕ) (k' : List Float) (p q : List ℕ) (S : Stepped t h u' f' g' k' p q)
      (p_long : length p ≡ n) (q_long : length q ≡ n) where
    abbrev t' : Stores
    t' = alone u' f' g' k'

    phase' : get_or u' 1 0 ≡ (get_or u 1 0 + 1) % decimation_hops
    phase' = ap (λ (x : Stores). get_or x.bu 1 0) S.stores ∙ hop-phase n t G.fit h long hop-clear

    pub goes_on : Going n s r (i + 1) (at + n) u' f' g' k' (splice at n rise p) (splice at n drop q)
    goes_on =
        record {
          few = omega arith;
          place = next-at n i at G.place;
          fit = subst (Fit n) (sym S.stores) (hop-fits n t G.fit h long hop-clear);
          clear = ap (λ (x : ℕ). garbled_run n x later) phase' ∙ rest-clear n t h later clear-here;
          stores =
              G.stores
              ∙ ap (λ (l : List RunHop). left_by t (calls_of l)) left_is
              ∙ ap (λ (x : Stores). left_by x (calls_of later)) (sym S.stores);
          rises =
              written n r at r.rise rise p G.rises.long (within (length rise) G.rises.long) p_long G.rises.others
              (G.rises.marks
              ∙ ap (λ (l : List RunHop). take at rise ++ rises_by t (calls_of l)) left_is
              ∙ ap (λ (l : List ℕ). take at rise ++ l) (rises-more t h later ∙ ap₂ ◌++◌ (sym S.rises) (ap (λ (x : Stores). rises_by x (calls_of later)) (sym S.stores))));
          drops =
              written n r at r.drop drop q G.drops.long (within (length drop) G.drops.long) q_long G.drops.others
              (G.drops.marks
              ∙ ap (λ (l : List RunHop). take at drop ++ drops_by t (calls_of l)) left_is
              ∙ ap (λ (l : List ℕ). take at drop ++ l) (drops-more t h later ∙ ap₂ ◌++◌ (sym S.drops) (ap (λ (x : Stores). drops_by x (calls_of later)) (sym S.stores))));
        }

  -- the same by widths that are n and a place for the marks that is the values' place, as the code works them out
  module _ (w : ℕ) (e : w ≡ n) (m : ℕ) (d : m ≡ at) (v : ℕ) (o : v ≡ n) where
    abbrev hop_by : RunHop
    hop_by = record { hold = get_or r.hold i 0; db = part at w r.db; power = part at w r.power; rise = part m v rise; drop = part m v drop }

    same : h ≡ hop_by
    same = λ j.
        record {
          hold = get_or r.hold i 0;
          db = part at (sym e j) r.db;
          power = part at (sym e j) r.power;
          rise = part (sym d j) (sym o j) rise;
          drop = part (sym d j) (sym o j) drop;
        }

    pub hop-taken-by : HopFits t hop_by
    hop-taken-by = subst (HopFits t) same hop-taken

    same-marks : (l p : List ℕ) → splice at n l p ≡ splice m v l p
    same-marks l p = λ j. splice (sym d j) (sym o j) l p

    marks-long : (l p : List ℕ) → length l ≡ total n r → length p ≡ length (part m v l) → length p ≡ n
    marks-long l p ll pl = pl ∙ (λ j. length (part (d j) (o j) l)) ∙ length_part at n l (within (length l) ll)

    pub goes-on-by : (u' : List ℕ) (f' : List Float) (g' : List ℕ) (k' : List Float) (p q : List ℕ) → Stepped t hop_by u' f' g' k' p q
        → length p ≡ length (part m v rise) → length q ≡ length (part m v drop)
        → Going n s r (i + 1) (at + n) u' f' g' k' (splice m v rise p) (splice m v drop q)
    goes-on-by u' f' g' k' p q S p_long q_long =
        let G' = goes_on u' f' g' k' p q (subst (λ (x : RunHop). Stepped t x u' f' g' k' p q) (sym same) S) (marks-long rise p G.rises.long p_long) (marks-long drop q G.drops.long q_long) in
        subst (λ (x : List ℕ). Going n s r (i + 1) (at + n) u' f' g' k' x (splice m v drop q)) (same-marks rise p)
        (subst (λ (x : List ℕ). Going n s r (i + 1) (at + n) u' f' g' k' (splice at n rise p) x) (same-marks drop q) G')

-- ---- at the end

module _ (n : ℕ) (s : Stores) (r : Run) (i at : ℕ) (u : List ℕ) (f : List Float) (g : List ℕ) (k : List Float) (rise drop : List ℕ)
    (G : Going n s r i at u f g k rise drop) (end : i ≡ length r.hold) where
  nothing : rest n r i at ≡ []
  nothing =
      ap (λ (l : List ℕ). hops_from n l (after at r.db) (after at r.power) (after at r.rise) (after at r.drop))
      (ap (λ (j : ℕ). after j r.hold) end ∙ drop-length r.hold)

  -- all places are written
  whole : (now : List ℕ) → length now ≡ total n r → take at now ≡ now
  whole now e = take_all at now (omega (arith, G.place, ap (λ (j : ℕ). j * n) end))

  pub ends : (n ≡ get_or s.gu 0 0) → (x : ℕ) → x ≡ 0 → (0, u, f, g, k, rise, drop) ≡ run_leaves x s r
  ends e x z =
      (λ j. (0, (done j).bu, (done j).bf, (done j).gu, (done j).gf, rises j, drops j))
      ∙ ap (λ (m : ℕ). let t = left_by s (calls_of (hops_of m r)) in (0, t.bu, t.bf, t.gu, t.gf, rises_by s (calls_of (hops_of m r)), drops_by s (calls_of (hops_of m r)))) e
      ∙ ap (λ (y : ℕ). run_leaves y s r) (sym z)
    where
      done : alone u f g k ≡ left_by s (calls_of (hops_of n r))
      done = sym (G.stores ∙ ap (λ (l : List RunHop). left_by (alone u f g k) (calls_of l)) nothing)

      rises : rise ≡ rises_by s (calls_of (hops_of n r))
      rises =
          sym (G.rises.marks ∙ ap (λ (l : List RunHop). take at rise ++ rises_by (alone u f g k) (calls_of l)) nothing ∙ append-nil (take at rise) ∙ whole rise G.rises.long)

      drops : drop ≡ drops_by s (calls_of (hops_of n r))
      drops =
          sym (G.drops.marks ∙ ap (λ (l : List RunHop). take at drop ++ drops_by (alone u f g k) (calls_of l)) nothing ∙ append-nil (take at drop) ∙ whole drop G.drops.long)

-- ---- one that is refused

unchanged : (x : ℕ) (s : Stores) (r : Run) → (x ≡ 0 → ⊥) → (x, s.bu, s.bf, s.gu, s.gf, r.rise, r.drop) ≡ run_leaves x s r
unchanged zero s r w = absurd (w refl)
unchanged (suc x) s r w = refl

pub refused : (bu : List ℕ) (bf : List Float) (gu : List ℕ) (gf : List Float) (r : Run) (x : ℕ) → x ≡ run_refusal bu bf gu gf r → (x ≡ 0 → ⊥)
    → (x, bu, bf, gu, gf, r.rise, r.drop) ≡ received bu bf gu gf r
unfolding received
refused bu bf gu gf r x e w = unchanged x (alone bu bf gu gf) r w ∙ ap (λ (y : ℕ). run_leaves y (alone bu bf gu gf) r) e
