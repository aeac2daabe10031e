-- Reading back a written log yields the same hops, bit for bit, and then "end". Assumes nothing.
use Rattle.std.specs.Prelude.{Some, None, Ok}
use mathlib.Core.Path.{◌≡◌, sym, ap, ap₂, ◌∙◌}
use mathlib.Core.Bool.{Bool, cond, ◌||◌}
use mathlib.Core.List.{List, ◌++◌, append_assoc}
use Prim.Native.Nat.{ℕ, zero, suc, ◌+◌, ◌-◌, ◌*◌, ◌/◌, ◌<◌, ◌≤◌}
use native.Mathlib.Nat.{add-zero, zero-add, mul-zero, mul-suc, mul-le-mul_right}
use native.Mathlib.Numerals.{add-one}
use native.Mathlib.Omega.{arith}
use lib.ListN.{length, get_or, drop, length-append, take-append-drop, drop_of_length-le, get_or-append}
use lib.Seq.{drop-drop}
use borrow.Author.Tests.{lt-ltb, le-ltb}
use Rattle.laws.specs.Lists.{part, tab, tab_from, joined}
use Rattle.laws.specs.Tests.{differ}
use Rattle.laws.proofs.Lists.{length_part, get_d_part}
use Rattle.laws.proofs.Tabs.{length-tab, get_d-tab, tab-ext, tab-get_d, joined-next}
use Rattle.laws.proofs.Runs.{joined-split, joined-room, joined-upto}
use Rattle.laws.specs.Bits.{width}
use Rattle.low_first.specs.LowFirst.{low_bytes, low_two}
use Rattle.low_first.proofs.Bytes.{length-low, low-at, two-there}
use Rattle.log_model.specs.Format.{before, changed, hop_at, log_of}
use Rattle.log_model.specs.Read.{start_refusal, read_in, read_hop}
use Rattle.log_model.specs.Whole.{Reading, onward, read_on, read_log, Hops, ReadsBack}
use Rattle.log_model.proofs.Answers.{starts, read-end, read-in}
use Rattle.log_model.proofs.Hops.{read-there}
use Rattle.log_model.proofs.Lengths.{length_at, length-hops, log-parts, hops-whole, hop-within}

module _ (n : ℕ) (db power : List ℕ) (hops : Hops n db power) where
  abbrev pub h : ℕ
  h = length db / n

  abbrev pub H : ℕ → List ℕ
  H = hop_at n db power

  abbrev pub log : List ℕ
  log = log_of n db power

  -- where hop j begins, and what stands before it
  abbrev pub place : ℕ → ℕ
  place j = 2 + length (joined (tab j H))

  abbrev pre : ℕ → List ℕ
  pre j = low_bytes 2 n ++ joined (tab j H)

  abbrev post : ℕ → List ℕ
  post j = joined (tab_from 1 (h - (j + 1)) (λ i. H (j + i)))

  pub whole : n * h ≡ length db
  whole = hops-whole n (length db) hops.whole

  hop-in : (j : ℕ) → j < h → log ≡ pre j ++ (H j ++ post j)
  unfolding log_of
  hop-in j l =
      ap (λ (r : List ℕ). low_bytes 2 n ++ r)
      (ap (λ (k : ℕ). joined (tab k H)) (let z : h ≡ j + suc (h - (j + 1)) = omega arith in z)
      ∙ joined-split H j (suc (h - (j + 1)))
      ∙ ap (λ (k : ℕ). joined (tab j H) ++ (H k ++ post j)) (add-zero j))
      ∙ sym (append_assoc (low_bytes 2 n) (joined (tab j H)) (H j ++ post j))

  pre-long : (j : ℕ) → length (pre j) ≡ place j
  pre-long j = length-append (low_bytes 2 n) (joined (tab j H)) ∙ ap (λ (w : ℕ). w + length (joined (tab j H))) (length-low 2 n)

  pub header : low_two log 0 ≡ n
  unfolding log_of
  header =
      two-there log 0 n (omega (arith, hops.most))
      (λ i l.
      ap (λ (k : ℕ). get_or log k 0) (zero-add i)
      ∙ get_or-append (low_bytes 2 n) (joined (tab h H)) 0 i (omega (arith, length-low 2 n))
      ∙ low-at 2 n i l)

  -- a hop of the slices, and the one before it
  abbrev pub hop_on : ℕ → List ℕ → List ℕ
  hop_on j l = tab n (λ k. get_or l (n * j + k) 0)

  abbrev pub before_on : ℕ → List ℕ → List ℕ
  before_on j l = tab n (λ k. before n l (n * j + k))

  begun : (j : ℕ) → j ≤ h → start_refusal log (place j) (length (before_on j db)) (length (before_on j power)) ≡ 0
  begun j l =
      starts log (place j) n (length (before_on j db)) (length (before_on j power)) header
      record {
        header = omega (arith, log-parts n db power);
        some = hops.some;
        most = hops.most;
        dbs_long = length-tab n _;
        powers_long = length-tab n _;
        from = omega arith;
        to = omega (arith, log-parts n db power, joined-upto H j h l);
      }

  pub read_one : (j : ℕ) → j < h → read_hop log (place j) (before_on j db) (before_on j power) ≡ (Ok (Some (place (j + 1))), hop_on j db, hop_on j power)
  unfolding hop_at
  read_one j l =
      sym (read-in log (place j) (before_on j db) (before_on j power) (begun j (omega arith)) (λ q. omega (arith, log-parts n db power, joined-room H j h l, length_at n db power j, hops.some)))
      ∙ ap (λ (m : ℕ). read_in log (place j) m (before_on j db) (before_on j power)) header
      ∙ ap (λ (r : List ℕ). read_in r (place j) n (before_on j db) (before_on j power)) (hop-in j l)
      ∙ read-there n (place j) (pre j) (post j) (λ k. changed n db power (n * j + k)) (λ k. get_or db (n * j + k) 0) (λ k. get_or power (n * j + k) 0) (pre-long j) (before_on j db) (before_on j power)
      (λ k m.
      ap₂ (λ (a b : ℕ). differ (get_or db (n * j + k) 0) a || differ (get_or power (n * j + k) 0) b)
      (sym (get_d-tab n (λ k. before n db (n * j + k)) k 0 m)) (sym (get_d-tab n (λ k. before n power (n * j + k)) k 0 m)))
      (λ k m. hops.dbs (n * j + k) (omega (arith, hop-within n (length db) j hops.whole l)))
      (λ k m. hops.powers (n * j + k) (omega (arith, hops.alike, hop-within n (length db) j hops.whole l)))
      ∙ ap (λ (a : ℕ). (Ok (Some a), hop_on j db, hop_on j power))
      (let z : place j + length (H j) ≡ place (j + 1) = omega (arith, ap length (joined-next j H), length-append (joined (tab j H)) (H j)) in z)

  pub first-before : (l : List ℕ) → tab n (λ _. 0) ≡ before_on 0 l
  first-before l =
      tab-ext n (λ _. 0) (λ k. before n l (n * 0 + k))
      (λ k m. sym (ap (λ (b : Bool). cond b 0 (get_or l (n * 0 + k - n) 0)) (lt-ltb (n * 0 + k) n (omega (arith, mul-zero n)))))

  pub next-before : (j : ℕ) (l : List ℕ) → hop_on j l ≡ before_on (j + 1) l
  next-before j l =
      tab-ext n (λ k. get_or l (n * j + k) 0) (λ k. before n l (n * (j + 1) + k))
      (λ k m.
      let e : n * (j + 1) ≡ n * j + n = ap (λ (i : ℕ). n * i) (add-one j) ∙ mul-suc n j in
      ap (λ (i : ℕ). get_or l i 0) (let z : n * j + k ≡ n * (j + 1) + k - n = omega arith in z)
      ∙ sym (ap (λ (b : Bool). cond b 0 (get_or l (n * (j + 1) + k - n) 0)) (le-ltb (n * (j + 1) + k) n (omega arith))))

  hop-on : (j : ℕ) (l : List ℕ) → n * j + n ≤ length l → hop_on j l ++ drop (n * (j + 1)) l ≡ drop (n * j) l
  hop-on j l m =
      ap₂ (λ (a b : List ℕ). a ++ b)
      (tab-ext n (λ k. get_or l (n * j + k) 0) (λ k. get_or (part (n * j) n l) k 0) (λ k i. sym (get_d_part (n * j) n l k 0 i)) ∙ tab-get_d (part (n * j) n l) 0 n (length_part (n * j) n l m))
      (ap (λ (i : ℕ). drop i l) (ap (λ (i : ℕ). n * i) (add-one j) ∙ mul-suc n j) ∙ sym (drop-drop n (n * j) l))
      ∙ take-append-drop n (drop (n * j) l)

  -- from hop j on, m more and the end
  read-rest : (m j x : ℕ) → j + m ≡ h → read_on (suc (m + x)) log (place j) (before_on j db) (before_on j power) ≡ (Ok None, drop (n * j) db, drop (n * j) power)
  unfolding read_on
  read-rest zero j x e =
      let f : j ≡ h = sym (add-zero j) ∙ e in
      let g : n * j ≡ length db = ap (λ (i : ℕ). n * i) f ∙ whole in
      let a : length db ≤ n * j = omega arith in
      let b : length power ≤ n * j = omega (arith, hops.alike) in
      ap (λ (r : Reading). onward r (read_on (zero + x) log))
      (sym (read-end log (place j) (before_on j db) (before_on j power) (begun j (omega arith)) (ap place f ∙ sym (log-parts n db power))))
      ∙ ap₂ (λ (a b : List ℕ). (Ok None, a, b)) (sym (drop_of_length-le db a)) (sym (drop_of_length-le power b))
  read-rest (suc m) j x e =
      let l : j < h = omega arith in
      let w = hop-within n (length db) j hops.whole l in
      ap (λ (r : Reading). onward r (read_on (suc m + x) log)) (read_one j l)
      ∙ ap (λ (r : Reading). (r.0, hop_on j db ++ r.1, hop_on j power ++ r.2))
      (ap (λ (i : ℕ). read_on i log (place (j + 1)) (hop_on j db) (hop_on j power)) (let z : suc m + x ≡ suc (m + x) = omega arith in z)
      ∙ ap₂ (λ (a b : List ℕ). read_on (suc (m + x)) log (place (j + 1)) a b) (next-before j db) (next-before j power)
      ∙ read-rest m (j + 1) x (omega arith))
      ∙ ap₂ (λ (a b : List ℕ). (Ok None, a, b)) (hop-on j db w) (hop-on j power (omega (arith, hops.alike)))

  -- as many answers as the log has bytes are enough
  enough : h + 1 ≤ length log
  enough =
      let one_byte : 1 ≤ width n = omega (arith, hops.some) in
      omega (arith, log-parts n db power, length-hops n db power h, mul-le-mul_right h one_byte)

  read_all : read_log log ≡ (Ok None, db, power)
  read_all =
      ap (λ (m : ℕ). read_on (suc (length log)) log 2 (tab m (λ _. 0)) (tab m (λ _. 0))) header
      ∙ ap (λ (i : ℕ). read_on (suc i) log 2 (tab n (λ _. 0)) (tab n (λ _. 0))) (let z : length log ≡ h + (length log - h) = omega (arith, enough) in z)
      ∙ ap₂ (λ (a b : List ℕ). read_on (suc (h + (length log - h))) log 2 a b) (first-before db) (first-before power)
      ∙ read-rest h 0 (length log - h) (zero-add h)
      ∙ ap₂ (λ (a b : List ℕ). (Ok None, a, b)) (ap (λ (i : ℕ). drop i db) (mul-zero n)) (ap (λ (i : ℕ). drop i power) (mul-zero n))

pub reads-back : ReadsBack
reads-back n db power hops = read_all n db power hops
