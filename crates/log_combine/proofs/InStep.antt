-- Both logs in step. Assumes nothing.
use Rattle.std.specs.Prelude.{Some, Ok}
use mathlib.Core.Path.{◌≡◌, refl, sym, ap, subst, ◌∙◌}
use mathlib.Core.Bool.{Bool, cond, ◌||◌}
use mathlib.Core.List.{List, ◌++◌, append-nil}
use Prim.Native.Nat.{ℕ, ◌+◌, ◌-◌, ◌*◌, ◌/◌, ◌<◌, ◌≤◌}
use native.Mathlib.Omega.{arith}
use Rattle.std.proofs.Common.{get_or-drop}
use lib.ListN.{length, get_or, drop, length-drop, length-append, drop_of_length-le, get_or-append}
use lib.Seq.{get_or-append-add, drop-append_seam}
use borrow.Author.Tests.{le-ltb}
use Rattle.laws.specs.Lists.{tab, joined}
use Rattle.laws.specs.Tests.{differ, tally}
use Rattle.laws.proofs.Tabs.{length-tab, get_d-tab, tab-ext, tab-get_d, joined-next}
use Rattle.low_first.specs.LowFirst.{low_two}
use Rattle.laws.specs.Bits.{width}
use Rattle.log_model.specs.Format.{hop_of, before, changed, hop_at}
use Rattle.log_model.specs.Read.{read_hop}
use Rattle.log_model.specs.Whole.{Reading, Below, Hops}
use Rattle.laws.proofs.Tallies.{tally-ext}
use Rattle.log_model.proofs.Lengths.{hop-within, hop-fits, log-parts, length_at}
use Rattle.log_model.proofs.NoOther.{hop-ext}
use Rattle.log_model.proofs.RoundTrip.{read_one, first-before, next-before}
use Rattle.combine_model.specs.Choose.{is_second, chosen_at, selected}
use Rattle.combine_model.specs.Combined.{hop_count, db_of, power_of, db_chosen, power_chosen, combined_log, Paired}
use Rattle.refusals.specs.Readings.{some_or}
use Rattle.log_combine.specs.Passes.{second_half, Lent, Ready}
use Rattle.combine_model.proofs.Chosen.{selected-at, length-selected}
use Rattle.combine_model.proofs.Taken.{hops-of, log_is}
use Rattle.combine_model.proofs.Theorems.{count-tells, takes}
use Rattle.log_hops.specs.Put.{put}
use Rattle.log_hops.proofs.Puts.{put_next, put_front}

-- a list of two halves, one written after the other
pub two-halves : (n : ℕ) (p q l m k : List ℕ) → length p ≡ n → length q ≡ n → length l ≡ n + n → m ≡ put 0 p l → k ≡ put n q m → k ≡ p ++ q
two-halves n p q l m k e f g h i =
    i ∙ put_next 0 n n p q l m e (omega arith) h (omega arith) ∙ put_front (p ++ q) l
    ∙ ap (λ (r : List ℕ). (p ++ q) ++ r) (drop_of_length-le l (let z : length l ≤ length (p ++ q) = omega (arith, length-append p q) in z))
    ∙ append-nil (p ++ q)

-- what a step back leaves is the second half, written over the first
pub stepped : (n : ℕ) (l m : List ℕ) → length l ≡ n + n → m ≡ drop n l ++ drop n l → m ≡ put 0 (second_half n l) m
stepped n l m h e =
    let p : List ℕ = second_half n l in
    let half : drop n l ≡ p =
    sym
    (tab-ext n (λ k. get_or l (n + k) 0) (λ k. get_or (drop n l) k 0) (λ k _. sym (get_or-drop n l k 0))
    ∙ tab-get_d (drop n l) 0 n (omega (arith, length-drop n l))) in
    let s : m ≡ p ++ p = e ∙ ap (λ (r : List ℕ). r ++ r) half in
    s ∙ ap (λ (r : List ℕ). p ++ r) (sym (drop-append_seam p p) ∙ ap (drop (length p)) (sym s)) ∙ sym (put_front p m)

-- ---- one log: hop j is next, and the slices hold the hop before it

abbrev pub hop_on : ℕ → ℕ → List ℕ → List ℕ
hop_on n j l = tab n (λ k. get_or l (n * j + k) 0)

abbrev pub before_on : ℕ → ℕ → List ℕ → List ℕ
before_on n j l = tab n (λ k. before n l (n * j + k))

abbrev pub place_of : List ℕ → ℕ → ℕ
place_of log j = 2 + length (joined (tab j (hop_at (low_two log 0) (db_of log) (power_of log))))

pub record Stands (log : List ℕ) (n j at : ℕ) (db power : List ℕ) : Type 0 where
  pub at_is : at ≡ place_of log j
  pub db_is : db ≡ before_on n j (db_of log)
  pub power_is : power ≡ before_on n j (power_of log)

module _ (log : List ℕ) (n h : ℕ) (bound : Below 256 log) (e : hop_count log ≡ Ok h) (same : low_two log 0 ≡ n) where
  hops : Hops (low_two log 0) (db_of log) (power_of log)
  hops = hops-of log bound (count-tells log h e).0

  pub stands-first : (db power : List ℕ) → db ≡ tab n (λ _. 0) → power ≡ tab n (λ _. 0) → Stands log n 0 2 db power
  stands-first db power f g =
      record {
        at_is = refl;
        db_is = f ∙ ap (λ (m : ℕ). tab m (λ _. 0)) (sym same) ∙ first-before (low_two log 0) (db_of log) (power_of log) hops (db_of log) ∙ ap (λ (m : ℕ). before_on m 0 (db_of log)) same;
        power_is = g ∙ ap (λ (m : ℕ). tab m (λ _. 0)) (sym same) ∙ first-before (low_two log 0) (db_of log) (power_of log) hops (power_of log) ∙ ap (λ (m : ℕ). before_on m 0 (power_of log)) same;
      }

  pub reads : (j at : ℕ) (db power : List ℕ) → j < h → Stands log n j at db power
      → read_hop log at db power ≡ (Ok (Some (place_of log (j + 1))), hop_on n j (db_of log), hop_on n j (power_of log))
  reads j at db power l s =
      let m : ℕ = low_two log 0 in
      let D : List ℕ = db_of log in
      let P : List ℕ = power_of log in
      let z : j < length D / m = subst (λ (k : ℕ). j < k) (count-tells log h e).1 l in
      (λ i. read_hop (log_is log bound (count-tells log h e).0 i) (s.at_is i) ((s.db_is ∙ ap (λ (k : ℕ). before_on k j D) (sym same)) i) ((s.power_is ∙ ap (λ (k : ℕ). before_on k j P) (sym same)) i))
      ∙ read_one m D P hops j z
      ∙ ap (λ (k : ℕ). (Ok (Some (place_of log (j + 1))), hop_on k j D, hop_on k j P)) same

  pub stands-next : (j at : ℕ) (db power : List ℕ) → j < h → Stands log n j at db power → (x : ℕ) (d p : List ℕ)
      → x ≡ some_or at (read_hop log at db power).0 → d ≡ (read_hop log at db power).1 → p ≡ (read_hop log at db power).2 → Stands log n (j + 1) x d p
  stands-next j at db power l s x d p f g k =
      let r = reads j at db power l s in
      let nb : (q : List ℕ) → hop_on n j q ≡ before_on n (j + 1) q = λ q. subst (λ (m : ℕ). hop_on m j q ≡ before_on m (j + 1) q) same (next-before (low_two log 0) (db_of log) (power_of log) hops j q) in
      record {
        at_is = f ∙ ap (λ (y : Reading). some_or at y.0) r;
        db_is = g ∙ ap (λ (y : Reading). y.1) r ∙ nb (db_of log);
        power_is = k ∙ ap (λ (y : Reading). y.2) r ∙ nb (power_of log);
      }

-- ---- the selection of one hop

module _ (n : ℕ) (P Q D E : List ℕ) where
  -- of hop j
  pub chosen-now : (j k : ℕ) → k < n → n * j + k < length D → chosen_at (hop_on n j P) (hop_on n j Q) (hop_on n j D) (hop_on n j E) k ≡ get_or (selected P Q D E) (n * j + k) 0
  chosen-now j k l m =
      (λ i. cond (is_second (at P i) (at Q i)) (at E i) (at D i)) ∙ sym (selected-at P Q D E (n * j + k) m)
    where
      at : (l : List ℕ) → get_or (hop_on n j l) k 0 ≡ get_or l (n * j + k) 0
      at r = get_d-tab n (λ k. get_or r (n * j + k) 0) k 0 l

-- ---- the selection of both: hop j of S and T behind the hop before it

pub record Shown (n : ℕ) (S T : List ℕ) (j : ℕ) (db power : List ℕ) : Type 0 where
  pub db_now : (k : ℕ) → k < n → get_or db (n + k) 0 ≡ get_or S (n * j + k) 0
  pub power_now : (k : ℕ) → k < n → get_or power (n + k) 0 ≡ get_or T (n * j + k) 0
  pub db_was : (k : ℕ) → k < n → before n db (n + k) ≡ before n S (n * j + k)
  pub power_was : (k : ℕ) → k < n → before n power (n + k) ≡ before n T (n * j + k)

two-tabs : (m n : ℕ) (f g : ℕ → ℕ) → m ≡ n → length (tab m f ++ tab m g) ≡ n + n
two-tabs m n f g e = length-append (tab m f) (tab m g) ∙ omega (arith, e, length-tab m f, length-tab m g)

module _ (n : ℕ) (f g : ℕ → ℕ) (k : ℕ) (l : k < n) where
  second-half : get_or (tab n f ++ tab n g) (n + k) 0 ≡ g k
  second-half =
      ap (λ (m : ℕ). get_or (tab n f ++ tab n g) (m + k) 0) (sym (length-tab n f)) ∙ get_or-append-add (tab n f) (tab n g) k 0 ∙ get_d-tab n g k 0 l

  first-half : before n (tab n f ++ tab n g) (n + k) ≡ f k
  first-half =
      ap (λ (b : Bool). cond b 0 (get_or (tab n f ++ tab n g) (n + k - n) 0)) (le-ltb (n + k) n (omega arith))
      ∙ ap (λ (i : ℕ). get_or (tab n f ++ tab n g) i 0) (let z : n + k - n ≡ k = omega arith in z)
      ∙ get_or-append (tab n f) (tab n g) 0 k (omega (arith, length-tab n f))
      ∙ get_d-tab n f k 0 l

module _ (n : ℕ) (S T : List ℕ) (j : ℕ) (db power : List ℕ) (s : Shown n S T j db power) where
  pub shown-changed : (k : ℕ) → k < n → changed n db power (n + k) ≡ changed n S T (n * j + k)
  shown-changed k l i = differ (s.db_now k l i) (s.db_was k l i) || differ (s.power_now k l i) (s.power_was k l i)

  pub shown-hop : hop_of n (λ k. changed n db power (n + k)) (λ k. get_or db (n + k) 0) (λ k. get_or power (n + k) 0) ≡ hop_at n S T j
  unfolding hop_at
  shown-hop = hop-ext n _ _ _ _ _ _ shown-changed s.db_now s.power_now

  pub shown-tally : tally n (λ k. changed n db power (n + k)) ≡ tally n (λ k. changed n S T (n * j + k))
  shown-tally = tally-ext n (λ k. changed n db power (n + k)) (λ k. changed n S T (n * j + k)) shown-changed

-- one turn of both
module _ (a b : List ℕ) (h : ℕ) (f : Below 256 a) (g : Below 256 b) (w : Paired a b h) (j : ℕ) (l : j < h) (x y : ℕ) (d p e q : List ℕ)
    (s : Stands a (low_two a 0) j x d p) (t : Stands b (low_two a 0) j y e q) where
  abbrev n : ℕ
  n = low_two a 0

  within : (k : ℕ) → k < n → n * j + k < length (db_of a)
  within k m =
      let c = count-tells a h w.count_a in
      let z : j < length (db_of a) / n = subst (λ (i : ℕ). j < i) c.1 l in
      omega (arith, hop-within n (length (db_of a)) j (hops-of a f c.0).whole z)

  alike : length (power_of a) ≡ length (db_of a)
  alike = (hops-of a f (count-tells a h w.count_a).0).alike

  pub shown : (db power : List ℕ) → second_half n db ≡ before_on n j (db_chosen a b) → second_half n power ≡ before_on n j (power_chosen a b)
      → (d' p' e' q' db' power' : List ℕ)
      → (d' ≡ (read_hop a x d p).1) × (p' ≡ (read_hop a x d p).2) → (e' ≡ (read_hop b y e q).1) × (q' ≡ (read_hop b y e q).2)
      → db' ≡ second_half (length d) db ++ tab (length d) (chosen_at p' q' d' e')
      → power' ≡ second_half (length d) power ++ tab (length d) (chosen_at p' q' p' q')
      → Shown n (db_chosen a b) (power_chosen a b) j db' power'
  unfolding db_chosen power_chosen
  shown db power was was' d' p' e' q' db' power' u v y1 z1 =
      let ra = reads a n h f w.count_a refl j x d p l s in
      let rb = reads b n h g w.count_b (sym w.same_n) j y e q l t in
      let wide : length d ≡ n = ap length s.db_is ∙ length-tab n _ in
      let D : List ℕ = db_of a in
      let P : List ℕ = power_of a in
      let E : List ℕ = db_of b in
      let Q : List ℕ = power_of b in
      let d2 : d' ≡ hop_on n j D = u.0 ∙ ap (λ (r : Reading). r.1) ra in
      let p2 : p' ≡ hop_on n j P = u.1 ∙ ap (λ (r : Reading). r.2) ra in
      let e2 : e' ≡ hop_on n j E = v.0 ∙ ap (λ (r : Reading). r.1) rb in
      let q2 : q' ≡ hop_on n j Q = v.1 ∙ ap (λ (r : Reading). r.2) rb in
      let db2 : db' ≡ before_on n j (db_chosen a b) ++ tab n (chosen_at (hop_on n j P) (hop_on n j Q) (hop_on n j D) (hop_on n j E))
      = y1 ∙ (λ i. second_half (wide i) db ++ tab (wide i) (chosen_at (p2 i) (q2 i) (d2 i) (e2 i))) ∙ ap (λ (r : List ℕ). r ++ tab n (chosen_at (hop_on n j P) (hop_on n j Q) (hop_on n j D) (hop_on n j E))) was in
      let pw2 : power' ≡ before_on n j (power_chosen a b) ++ tab n (chosen_at (hop_on n j P) (hop_on n j Q) (hop_on n j P) (hop_on n j Q))
      = z1 ∙ (λ i. second_half (wide i) power ++ tab (wide i) (chosen_at (p2 i) (q2 i) (p2 i) (q2 i))) ∙ ap (λ (r : List ℕ). r ++ tab n (chosen_at (hop_on n j P) (hop_on n j Q) (hop_on n j P) (hop_on n j Q))) was' in
      record {
        db_now = λ k m. ap (λ (r : List ℕ). get_or r (n + k) 0) db2 ∙ second-half n _ _ k m ∙ chosen-now n P Q D E j k m (within k m);
        power_now = λ k m. ap (λ (r : List ℕ). get_or r (n + k) 0) pw2 ∙ second-half n _ _ k m ∙ chosen-now n P Q P Q j k m (omega (arith, within k m, alike));
        db_was = λ k m. ap (λ (r : List ℕ). before n r (n + k)) db2 ∙ first-half n _ _ k m;
        power_was = λ k m. ap (λ (r : List ℕ). before n r (n + k)) pw2 ∙ first-half n _ _ k m;
      }

-- ---- a pass over both: j hops are behind it

abbrev pub chosen_hop : List ℕ → List ℕ → ℕ → List ℕ
chosen_hop a b = hop_at (low_two a 0) (db_chosen a b) (power_chosen a b)

pub record Walk (a b : List ℕ) (h x y len j : ℕ) (d p e q db power : List ℕ) : Type 0 where
  pub upto : j ≤ h
  pub first : Stands a (low_two a 0) j x d p
  pub second : Stands b (low_two a 0) j y e q
  pub db_long : length db ≡ low_two a 0 + low_two a 0
  pub power_long : length power ≡ low_two a 0 + low_two a 0
  pub db_was : second_half (low_two a 0) db ≡ before_on (low_two a 0) j (db_chosen a b)
  pub power_was : second_half (low_two a 0) power ≡ before_on (low_two a 0) j (power_chosen a b)
  pub len_is : len ≡ 2 + length (joined (tab j (chosen_hop a b)))

-- the slices of a log are n long
pub stands-long : (log : List ℕ) (n j at : ℕ) (db power : List ℕ) → Stands log n j at db power → (length db ≡ n) × (length power ≡ n)
stands-long log n j at db power s = (ap length s.db_is ∙ length-tab n _, ap length s.power_is ∙ length-tab n _)

pub zeros-are : (n : ℕ) (l : List ℕ) → l ≡ tab n (λ _. 0) → length l ≡ n
zeros-are n l e = ap length e ∙ length-tab n (λ _. 0)

-- and so is their second half zero
zeros-half : (n : ℕ) (l : List ℕ) → l ≡ tab (n + n) (λ _. 0) → second_half n l ≡ tab n (λ _. 0)
zeros-half n l e =
    tab-ext n (λ k. get_or l (n + k) 0) (λ _. 0) (λ k h. ap (λ (r : List ℕ). get_or r (n + k) 0) e ∙ get_d-tab (n + n) (λ _. 0) (n + k) 0 (omega arith))

module _ (a b : List ℕ) (h : ℕ) (f : Below 256 a) (g : Below 256 b) (w : Paired a b h) where
  pub walk_begins : (d p e q db power : List ℕ) → Ready a b h d p e q db power → Walk a b h 2 2 2 0 d p e q db power
  walk_begins d p e q db power r =
      let n : ℕ = low_two a 0 in
      let S : List ℕ = db_chosen a b in
      let T : List ℕ = power_chosen a b in
      let t = takes a b h f g w in
      record {
        upto = omega arith;
        first = stands-first a (low_two a 0) h f w.count_a refl d p r.lent.d_zero r.lent.p_zero;
        second = stands-first b (low_two a 0) h g w.count_b (sym w.same_n) e q r.lent.e_zero r.lent.q_zero;
        db_long = zeros-are (n + n) db r.lent.db_zero;
        power_long = zeros-are (n + n) power r.lent.power_zero;
        db_was = zeros-half n db r.lent.db_zero ∙ first-before n S T t S;
        power_was = zeros-half n power r.lent.power_zero ∙ first-before n S T t T;
        len_is = refl;
      }

  -- as many hops are chosen
  pub hops-chosen : length (db_chosen a b) / low_two a 0 ≡ h
  unfolding db_chosen
  hops-chosen = ap (λ (l : ℕ). l / low_two a 0) (length-selected (power_of a) (power_of b) (db_of a) (db_of b)) ∙ sym (count-tells a h w.count_a).1

  pub few-channels : low_two a 0 ≤ 512
  few-channels = (hops-of a f (count-tells a h w.count_a).0).most

  pub combined-parts : length (combined_log a b) ≡ 2 + length (joined (tab h (chosen_hop a b)))
  unfolding combined_log
  combined-parts = log-parts (low_two a 0) (db_chosen a b) (power_chosen a b) ∙ ap (λ (i : ℕ). 2 + length (joined (tab i (chosen_hop a b)))) hops-chosen

  -- hop j lies in the result
  pub combined-within : (j : ℕ) → j < h
      → 2 + length (joined (tab j (chosen_hop a b))) + (width (low_two a 0) + 12 * tally (low_two a 0) (λ k. changed (low_two a 0) (db_chosen a b) (power_chosen a b) (low_two a 0 * j + k))) ≤ length (combined_log a b)
  unfolding combined_log
  combined-within j l = hop-fits (low_two a 0) (db_chosen a b) (power_chosen a b) j (length (combined_log a b)) (omega arith) (subst (λ (i : ℕ). j < i) (sym hops-chosen) l)

  module _ (x y len j : ℕ) (d p e q db power : List ℕ) (v : Walk a b h x y len j d p e q db power) where
    pub walk-lends : Lent (length d) p e q × ((length db ≡ length d + length d) × (length power ≡ length d + length d))
    walk-lends =
        let s = stands-long a (low_two a 0) j x d p v.first in
        let t = stands-long b (low_two a 0) j y e q v.second in
        (record { p_long = s.1 ∙ sym s.0; e_long = t.0 ∙ sym s.0; q_long = t.1 ∙ sym s.0 }, (omega (arith, v.db_long, s.0), omega (arith, v.power_long, s.0)))

    module _ (l : j < h) (x' y' : ℕ) (d' p' e' q' db' power' : List ℕ)
        (places : (x' ≡ some_or x (read_hop a x d p).0) × (y' ≡ some_or y (read_hop b y e q).0))
        (ones : (d' ≡ (read_hop a x d p).1) × (p' ≡ (read_hop a x d p).2))
        (twos : (e' ≡ (read_hop b y e q).1) × (q' ≡ (read_hop b y e q).2))
        (dbs : db' ≡ second_half (length d) db ++ tab (length d) (chosen_at p' q' d' e'))
        (powers : power' ≡ second_half (length d) power ++ tab (length d) (chosen_at p' q' p' q')) where
      pub walk-shows : Shown (low_two a 0) (db_chosen a b) (power_chosen a b) j db' power'
      walk-shows = shown a b h f g w j l x y d p e q v.first v.second db power v.db_was v.power_was d' p' e' q' db' power' ones twos dbs powers

      pub walk-next : (len' : ℕ) → len' ≡ len + (width (low_two a 0) + 12 * tally (low_two a 0) (λ k. changed (low_two a 0) db' power' (low_two a 0 + k)))
          → Walk a b h x' y' len' (j + 1) d' p' e' q' db' power'
      walk-next len' i =
          let n : ℕ = low_two a 0 in
          let S : List ℕ = db_chosen a b in
          let T : List ℕ = power_chosen a b in
          let s = stands-long a n j x d p v.first in
          let t = takes a b h f g w in
          record {
            upto = omega arith;
            first = stands-next a n h f w.count_a refl j x d p l v.first x' d' p' places.0 ones.0 ones.1;
            second = stands-next b n h g w.count_b (sym w.same_n) j y e q l v.second y' e' q' places.1 twos.0 twos.1;
            db_long = ap length dbs ∙ two-tabs (length d) n (λ k. get_or db (length d + k) 0) (chosen_at p' q' d' e') s.0;
            power_long = ap length powers ∙ two-tabs (length d) n (λ k. get_or power (length d + k) 0) (chosen_at p' q' p' q') s.0;
            db_was = tab-ext n (λ k. get_or db' (n + k) 0) (λ k. get_or S (n * j + k) 0) walk-shows.db_now ∙ next-before n S T t j S;
            power_was = tab-ext n (λ k. get_or power' (n + k) 0) (λ k. get_or T (n * j + k) 0) walk-shows.power_now ∙ next-before n S T t j T;
            len_is =
                omega (
                  arith,
                  i,
                  v.len_is,
                  shown-tally n (db_chosen a b) (power_chosen a b) j db' power' walk-shows,
                  length_at n (db_chosen a b) (power_chosen a b) j,
                  ap length (joined-next j (chosen_hop a b)),
                  length-append (joined (tab j (chosen_hop a b))) (chosen_hop a b j),
                );
          }
