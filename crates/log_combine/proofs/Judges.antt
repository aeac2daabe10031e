-- The first pass over both logs: what is known after some hops, and what it may say when it stops. Assumes nothing.
use Rattle.std.specs.Prelude.{Option, Some, None, Ok, Err}
use mathlib.Core.Path.{◌≡◌, refl, sym, ap, ap₂, subst, ◌∙◌}
use mathlib.Core.Bool.{Bool, true, false, cond, ◌&&◌}
use mathlib.Core.List.{List, ◌++◌}
use Prim.Native.Nat.{ℕ, ◌+◌, ◌-◌, ◌*◌, ◌<◌, ◌≤◌}
use native.Mathlib.Omega.{arith}
use lib.Dec.{eqb, ltb, leb}
use lib.ListN.{length}
use borrow.Author.Tests.{eq-eqb, eqb-true, lt-ltb, ltb-true, ltb-false, leb-true, leb-false}
use Rattle.laws.specs.Lists.{tab}
use Rattle.laws.specs.Bits.{width}
use Rattle.laws.specs.Tests.{tally}
use Rattle.laws.proofs.Tests.{by-test, clash, and_l, and_r, and-true}
use Rattle.low_first.specs.LowFirst.{low_two}
use Rattle.refusals.specs.Readings.{some_or}
use Rattle.log_model.specs.Format.{changed}
use Rattle.log_model.specs.Read.{start_refusal, read_hop}
use Rattle.log_model.specs.Whole.{Reading, Below}
use Rattle.log_model.proofs.Answers.{Started, started, starts, read-end}
use Rattle.log_model.proofs.Lengths.{log-parts}
use Rattle.combine_model.specs.Choose.{chosen_at}
use Rattle.combine_model.specs.Combined.{hop_count, db_of, power_of, db_chosen, power_chosen, combined_log, Paired}
use Rattle.combine_model.proofs.Taken.{began, log_is}
use Rattle.combine_model.proofs.Theorems.{count-tells}
use Rattle.log_combine.specs.Passes.{second_half, Slices, Judged}
use Rattle.log_combine.proofs.Counts.{Counting, begins, onto, next-counts, end-counts}
use Rattle.log_combine.proofs.InStep.{Stands, place_of, reads, Walk, walk_begins, walk-shows, walk-next, shown-tally, combined-parts, combined-within}

-- ---- one log

-- a place that moved: a hop was read
pub moved : (log : List ℕ) (at : ℕ) (db power : List ℕ) (x : ℕ) (d p : List ℕ)
    → x ≡ some_or at (read_hop log at db power).0 → d ≡ (read_hop log at db power).1 → p ≡ (read_hop log at db power).2 → at < x
    → read_hop log at db power ≡ (Ok (Some x), d, p)
moved log at db power x d p e f g l = go (read_hop log at db power) refl
  where
    go : (r : Reading) → read_hop log at db power ≡ r → read_hop log at db power ≡ (Ok (Some x), d, p)
    go (Ok (Some y), d', p') k =
        k
        ∙ (λ i. (Ok (Some ((sym (e ∙ ap (λ (r : Reading). some_or at r.0) k)) i)), (sym (f ∙ ap (λ (r : Reading). r.1) k)) i, (sym (g ∙ ap (λ (r : Reading). r.2) k)) i))
    go (Ok None, d', p') k = absurd (let z : x ≡ at = e ∙ ap (λ (r : Reading). some_or at r.0) k in omega arith)
    go (Err n, d', p') k = absurd (let z : x ≡ at = e ∙ ap (λ (r : Reading). some_or at r.0) k in omega arith)

module _ (log : List ℕ) (n h : ℕ) (bound : Below 256 log) (e : hop_count log ≡ Ok h) (same : low_two log 0 ≡ n) where
  -- after its last hop a log stands at its end
  pub stands-end : (j at : ℕ) (db power : List ℕ) → Stands log n j at db power → j ≡ h → at ≡ length log
  stands-end j at db power s z =
      s.at_is ∙ ap (place_of log) (z ∙ (count-tells log h e).1)
      ∙ sym (ap length (log_is log bound (count-tells log h e).0) ∙ log-parts (low_two log 0) (db_of log) (power_of log))

  -- before its end it stands before a hop
  pub stands-before : (j at : ℕ) (db power : List ℕ) → Stands log n j at db power → j ≤ h → at < length log → j < h
  stands-before j at db power s u l =
      by-test (ltb j h) (ltb-true j h) (λ t. absurd (let z : h ≤ j = ltb-false j h t in omega (arith, stands-end j at db power s (omega arith), l)))

  -- and the hop that it stands before takes bytes of it
  pub stands-moves : (j at : ℕ) (db power : List ℕ) → Stands log n j at db power → j < h → (at < some_or at (read_hop log at db power).0) × (at < length log)
  stands-moves j at db power s l =
      let r = reads log n h bound e same j at db power l s in
      let o = onto log at db power _ _ _ r in
      (subst (λ (x : ℕ). at < x) (sym (ap (λ (y : Reading). some_or at y.0) r)) o.0, omega (arith, o.0, o.1))

-- ---- what the code's tests tell

-- both stand before their ends
pub before-tells : (x a y b : ℕ) → (ltb x a && ltb y b) ≡ true → (x < a) × (y < b)
before-tells x a y b t = (ltb-true x a (and_l (ltb x a) (ltb y b) t), ltb-true y b (and_r (ltb x a) (ltb y b) t))

-- both moved, and there is room
pub goes-tells : (x a y b more left : ℕ) → (ltb x a && (ltb y b && leb more left)) ≡ true → (x < a) × ((y < b) × (more ≤ left))
goes-tells x a y b more left t =
    let u = and_r (ltb x a) (ltb y b && leb more left) t in
    (ltb-true x a (and_l (ltb x a) (ltb y b && leb more left) t), (ltb-true y b (and_l (ltb y b) (leb more left) u), leb-true more left (and_r (ltb y b) (leb more left) u)))

-- ---- both: some hops are behind the pass

pub record Judging (a b : List ℕ) (x y len hops : ℕ) (d p e q db power : List ℕ) : Type 0 where
  pub count_a : Counting a d p x hops
  pub count_b : Counting b e q y hops
  pub to_a : x ≤ length a
  pub to_b : y ≤ length b
  pub walk : (h : ℕ) → Paired a b h → Walk a b h x y len hops d p e q db power

module _ (a b : List ℕ) (f : Below 256 a) (g : Below 256 b) (sa : start_refusal a 2 (low_two a 0) (low_two a 0) ≡ 0) (sb : start_refusal b 2 (low_two a 0) (low_two a 0) ≡ 0) where
  abbrev n : ℕ
  n = low_two a 0

  pub started-a : Started a 2 n n n
  started-a = started a 2 n n sa

  pub started-b : Started b 2 (low_two b 0) n n
  started-b = started b 2 n n sb

  pub same_n : n ≡ low_two b 0
  same_n = started-b.dbs_long

  pub judging-begins : (d p e q db power : List ℕ) → Slices n d p e q db power → Judging a b 2 2 2 0 d p e q db power
  judging-begins d p e q db power s =
      record {
        count_a = begins a d p s.d_zero s.p_zero;
        count_b = begins b e q (s.e_zero ∙ ap (λ (m : ℕ). tab m (λ _. 0)) same_n) (s.q_zero ∙ ap (λ (m : ℕ). tab m (λ _. 0)) same_n);
        to_a = started-a.header;
        to_b = started-b.header;
        walk = λ h w. walk_begins a b h f g w d p e q db power record { pair = w; lent = s };
      }

  module _ (x y len hops : ℕ) (d p e q db power : List ℕ) (v : Judging a b x y len hops d p e q db power) where
    -- a turn of both, while both stand before their ends
    module _ (before : (ltb x (length a) && ltb y (length b)) ≡ true) (x' y' : ℕ) (d' p' e' q' db' power' : List ℕ)
        (places : (x' ≡ some_or x (read_hop a x d p).0) × (y' ≡ some_or y (read_hop b y e q).0))
        (ones : (d' ≡ (read_hop a x d p).1) × (p' ≡ (read_hop a x d p).2))
        (twos : (e' ≡ (read_hop b y e q).1) × (q' ≡ (read_hop b y e q).2))
        (dbs : db' ≡ second_half (length d) db ++ tab (length d) (chosen_at p' q' d' e'))
        (powers : power' ≡ second_half (length d) power ++ tab (length d) (chosen_at p' q' p' q'))
        (more : ℕ) (more-is : more ≡ width n + 12 * tally n (λ k. changed n db' power' (n + k))) where
      next-hop : (h : ℕ) → Paired a b h → hops < h
      next-hop h w = let u = v.walk h w in stands-before a n h f w.count_a refl hops x d p u.first u.upto (before-tells x (length a) y (length b) before).0

      pub judging-next : (left : ℕ) → (ltb x x' && (ltb y y' && leb more left)) ≡ true → Judging a b x' y' (len + more) (hops + 1) d' p' e' q' db' power'
      judging-next left t =
          let s = goes-tells x x' y y' more left t in
          let m = moved a x d p x' d' p' places.0 ones.0 ones.1 s.0 in
          let k = moved b y e q y' e' q' places.1 twos.0 twos.1 s.1.0 in
          record {
            count_a = next-counts a d p x hops v.count_a x' d' p' m;
            count_b = next-counts b e q y hops v.count_b y' e' q' k;
            to_a = (onto a x d p x' d' p' m).1;
            to_b = (onto b y e q y' e' q' k).1;
            walk = λ h w. walk-next a b h f g w x y len hops d p e q db power (v.walk h w) (next-hop h w) x' y' d' p' e' q' db' power' places ones twos dbs powers (len + more) (ap (λ (i : ℕ). len + i) more-is);
          }

      -- two logs that pass move on, so only room can be missing
      pub judging-stops : (room : ℕ) → len ≤ room → (ltb x x' && (ltb y y' && leb more (room - len))) ≡ false → Judged a b room None
      judging-stops room i t h w =
          let u = v.walk h w in
          let l = next-hop h w in
          let ma = stands-moves a n h f w.count_a refl hops x d p u.first l in
          let mb = stands-moves b n h g w.count_b (sym w.same_n) hops y e q u.second l in
          let ta : ltb x x' ≡ true = lt-ltb x x' (omega (arith, ma.0, places.0)) in
          let tb : ltb y y' ≡ true = lt-ltb y y' (omega (arith, mb.0, places.1)) in
          let tm : leb more (room - len) ≡ false = sym (ap₂ (λ (s r : Bool). s && (r && leb more (room - len))) ta tb) ∙ t in
          let z : room - len < more = leb-false more (room - len) tm in
          omega (
            arith,
            z,
            i,
            more-is,
            u.len_is,
            combined-within a b h f g w hops l,
            shown-tally n (db_chosen a b) (power_chosen a b) hops db' power' (walk-shows a b h f g w x y len hops d p e q db power u l x' y' d' p' e' q' db' power' places ones twos dbs powers),
          )

    -- no turn is left
    module _ (room : ℕ) (fits : len ≤ room) (dl : length d ≡ n) (pl : length p ≡ n) (el : length e ≡ n) (ql : length q ≡ n) where
      ended-a : x ≡ length a → Ok hops ≡ hop_count a
      ended-a z =
          end-counts a d p x hops v.count_a d p
          (sym (read-end a x d p
          (starts a x n (length d) (length p) refl record { header = started-a.header; some = started-a.some; most = started-a.most; dbs_long = dl; powers_long = pl; from = omega (arith, v.count_a.few); to = v.to_a })
          z))

      ended-b : y ≡ length b → Ok hops ≡ hop_count b
      ended-b z =
          end-counts b e q y hops v.count_b e q
          (sym (read-end b y e q
          (starts b y n (length e) (length q) (sym same_n) record { header = started-b.header; some = started-a.some; most = started-a.most; dbs_long = el; powers_long = ql; from = omega (arith, v.count_b.few); to = v.to_b })
          z))

      both-ended : x ≡ length a → y ≡ length b → Judged a b room (Some hops)
      both-ended s t =
          let w : Paired a b hops = record { count_a = sym (ended-a s); count_b = sym (ended-b t); same_n = same_n } in
          (w, omega (arith, combined-parts a b hops f g w, (v.walk hops w).len_is, fits))

      pub judging-ends : (ltb x (length a) && ltb y (length b)) ≡ false → (r : Option ℕ) → r ≡ cond (eqb x (length a) && eqb y (length b)) (Some hops) None → Judged a b room r
      judging-ends t r i =
          by-test ends
          (λ u.
          subst (Judged a b room) (sym (i ∙ ap (λ (s : Bool). cond s (Some hops) None) u))
          (both-ended (eqb-true x (length a) (and_l (eqb x (length a)) (eqb y (length b)) u)) (eqb-true y (length b) (and_r (eqb x (length a)) (eqb y (length b)) u))))
          (λ u. subst (Judged a b room) (sym (i ∙ ap (λ (s : Bool). cond s (Some hops) None) u)) (λ h w. refuted u h w))
        where
          ends : Bool
          ends = eqb x (length a) && eqb y (length b)

          refuted : ends ≡ false → (h : ℕ) → Paired a b h → room < length (combined_log a b)
          refuted u h w =
              let k = v.walk h w in
              by-test (ltb hops h)
              (λ s.
              let l = ltb-true hops h s in
              let ma = stands-moves a n h f w.count_a refl hops x d p k.first l in
              let mb = stands-moves b n h g w.count_b (sym w.same_n) hops y e q k.second l in
              clash (sym (and-true (ltb x (length a)) (ltb y (length b)) (lt-ltb x (length a) ma.1) (lt-ltb y (length b) mb.1)) ∙ t))
              (λ s.
              let z : hops ≡ h = omega (arith, ltb-false hops h s, k.upto) in
              clash
              (sym (and-true (eqb x (length a)) (eqb y (length b)) (eq-eqb x (length a) (stands-end a n h f w.count_a refl hops x d p k.first z))
              (eq-eqb y (length b) (stands-end b n h g w.count_b (sym w.same_n) hops y e q k.second z)))
              ∙ u))

-- ---- before the first turn

module _ (a b : List ℕ) (f : Below 256 a) (g : Below 256 b) (room : ℕ) where
  pub no_room : room < 2 → Judged a b room None
  no_room l h w = omega (arith, l, combined-parts a b h f g w)

  pub no-first : (r : ℕ) → r ≡ start_refusal a 2 (low_two a 0) (low_two a 0) → (r ≡ 0 → ⊥) → Judged a b room None
  no-first r e k h w = absurd (k (e ∙ starts a 2 (low_two a 0) (low_two a 0) (low_two a 0) refl (began a (count-tells a h w.count_a).0)))

  pub no_second : (r : ℕ) → r ≡ start_refusal b 2 (low_two a 0) (low_two a 0) → (r ≡ 0 → ⊥) → Judged a b room None
  no_second r e k h w =
      absurd
      (k (e ∙ starts b 2 (low_two a 0) (low_two a 0) (low_two a 0) (sym w.same_n) (subst (λ (m : ℕ). Started b 2 m m m) (sym w.same_n) (began b (count-tells b h w.count_b).0))))
