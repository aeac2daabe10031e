-- Laws on a fresh gate in its stores, made length after length, and on what making answers. Assumes nothing.
use mathlib.Core.Path.{◌≡◌, refl, sym, ap, ap₂, ◌∙◌}
use mathlib.Core.Bool.{Bool, true, false, not, ◌&&◌, ◌||◌}
use mathlib.Core.List.{List, [], ◌∷◌, ◌++◌, append_assoc, append-nil, map}
use Prim.Native.Nat.{ℕ, suc, ◌+◌, ◌-◌, ◌*◌, ◌<◌, ◌≤◌}
use native.Mathlib.Nat.{add_assoc, add_comm}
use native.Mathlib.Omega.{arith}
use lib.ListN.{length, get_or, take, set, replicate, length-append, length-map, length-replicate, replicate-append-replicate}
use lib.Ieee.{Float, nan, binary64, div, of_bits}
use lib.IntN.{ℤ}
use lib.Seq.{set_at}
use borrow.Author.Tests.{not-false}
use Rattle.laws.specs.Lists.{part, splice, joined}
use Rattle.laws.proofs.Lists.{splice-mid, length_part}
use Rattle.laws.specs.Tests.{within, differ, first}
use Rattle.laws.proofs.Tests.{by-test, passed, same_of, or_l, or_r, within_of}
use Rattle.model.specs.Numbers.{f0}
use Rattle.model.specs.Windows.{fresh_look}
use Rattle.model.specs.Gate.{Gate, among, distinct, fresh_gate}
use Rattle.model.specs.GateStores.{triple, gate_u16s, look_f, gate_floats, look_size}
use Rattle.model.specs.GateCalls.{good_lengths, stored, good_level, absent, floats_for, gate_make_refusal, settings_of, gate_leaves, gate_new_call}
use Rattle.bank_making.proofs.Makes.{joined-replicate}
use Rattle.gate_lengths.specs.Makes.{floats_before, length_put, fresh_triple, fresh_u, with_lengths, fresh_f}
use Rattle.gate_lengths.proofs.Distinct.{first_of, first_more, first-le, floats-cons}

-- ---- the u16 store

triples-long : (ms : List ℕ) → length (joined (map fresh_triple ms)) ≡ 3 * length ms
triples-long [] = refl
triples-long (m ∷ ms) = omega (arith, triples-long ms)

triples-snoc : (ms : List ℕ) (m : ℕ) → joined (map fresh_triple (ms ++ (m ∷ []))) ≡ joined (map fresh_triple ms) ++ fresh_triple m
triples-snoc [] m = refl
triples-snoc (x ∷ ms) m = ap (λ (r : List ℕ). x ∷ 0 ∷ 0 ∷ r) (triples-snoc ms m)

pub fresh-count : (n on off early : ℕ) (ms : List ℕ) → get_or (fresh_u n on off early ms) 5 0 ≡ length ms
unfolding fresh_u
fresh-count n on off early ms = refl

one-longer : (ms : List ℕ) (m : ℕ) → length (ms ++ (m ∷ [])) ≡ length ms + 1
one-longer ms m = length-append ms (m ∷ [])

-- the triples and the zeros after them, with the next triple's m written
next-triple : (ms : List ℕ) (m : ℕ) → length ms < 8
    → set (joined (map fresh_triple ms) ++ replicate (24 - 3 * length ms) 0) (3 * length ms) m
    ≡ joined (map fresh_triple (ms ++ (m ∷ []))) ++ replicate (24 - 3 * length (ms ++ (m ∷ []))) 0
next-triple ms m h =
    let P = joined (map fresh_triple ms) in
    let R = 24 - 3 * length (ms ++ (m ∷ [])) in
    ap (λ (k : ℕ). set (P ++ replicate k 0) (3 * length ms) m) (let e : 24 - 3 * length ms ≡ suc (suc (suc R)) = omega (arith, one-longer ms m) in e)
    ∙ set_at P 0 (0 ∷ 0 ∷ replicate R 0) m (3 * length ms) (triples-long ms)
    ∙ sym (append_assoc P (fresh_triple m) (replicate R 0))
    ∙ ap (λ (r : List ℕ). r ++ replicate R 0) (sym (triples-snoc ms m))

put_next : (n on off early : ℕ) (ms u : List ℕ) (m : ℕ) → length ms < 8 → u ≡ fresh_u n on off early ms
    → set (set u (6 + 3 * get_or u 5 0) m) 5 (get_or u 5 0 + 1) ≡ fresh_u n on off early (ms ++ (m ∷ []))
unfolding fresh_u
put_next n on off early ms u m h e =
    ap (λ (w : List ℕ). set (set w (6 + 3 * get_or w 5 0) m) 5 (get_or w 5 0 + 1)) e
    ∙ ap (λ (k : ℕ). set (set (n ∷ 0 ∷ on ∷ off ∷ early ∷ length ms ∷ (joined (map fresh_triple ms) ++ replicate (24 - 3 * length ms) 0)) k m) 5 (length ms + 1))
    (let z : 6 + 3 * length ms ≡ suc (suc (suc (suc (suc (suc (3 * length ms)))))) = omega arith in z)
    ∙ ap₂ (λ (k : ℕ) (r : List ℕ). n ∷ 0 ∷ on ∷ off ∷ early ∷ k ∷ r) (sym (one-longer ms m)) (next-triple ms m h)

pub put-seen : (u l : List ℕ) (i : ℕ) → among (get_or l i 0) (take i l) ≡ true → u ≡ length_put u l i
unfolding length_put
put-seen u l i t = rw t

pub put-new : (u l : List ℕ) (i k : ℕ) → among (get_or l i 0) (take i l) ≡ false → k ≡ get_or u 5 0
    → set (set u (6 + 3 * k) (get_or l i 0)) 5 (get_or u 5 0 + 1) ≡ length_put u l i
unfolding length_put
put-new u l i k t e = rw t (ap (λ (j : ℕ). set (set u (6 + 3 * j) (get_or l i 0)) 5 (get_or u 5 0 + 1)) e)

-- a turn of the loop over the lengths
pub put-turn : (w u l : List ℕ) (i : ℕ) → i < length l → length l ≤ 8 → u ≡ with_lengths w (first_of l i) → length_put u l i ≡ with_lengths w (first_of l (i + 1))
unfolding length_put
put-turn w u l i h k e =
    by-test (among (get_or l i 0) (take i l))
    (λ t. rw t (e ∙ ap (with_lengths w) (sym (rw t at (first_more l i h) ∙ append-nil (first_of l i)))))
    (λ t.
    rw t
    (put_next (get_or w 0 0) (get_or w 2 0) (get_or w 3 0) (get_or w 4 0) (first_of l i) u (get_or l i 0) (omega (arith, first-le l i (omega arith))) e
    ∙ ap (with_lengths w) (sym (rw t at (first_more l i h)))))

-- before the loop: zeros with the settings written
pub settings-put : (n on off early : ℕ) (l : List ℕ) → l ≡ replicate 30 0 → set (set (set (set l 0 n) 2 on) 3 off) 4 early ≡ fresh_u n on off early []
unfolding fresh_u
settings-put n on off early l e = ap (λ (r : List ℕ). set (set (set (set r 0 n) 2 on) 3 off) 4 early) e

-- a store with no lengths has its settings where they are read
pub settings-read : (n on off early : ℕ) (u ms : List ℕ) → u ≡ fresh_u n on off early [] → with_lengths u ms ≡ fresh_u n on off early ms
unfolding fresh_u
settings-read n on off early u ms e = ap (λ (w : List ℕ). with_lengths w ms) e

fresh-triples : (n : ℕ) (ms : List ℕ) → joined (map triple (map (fresh_look n) ms)) ≡ joined (map fresh_triple ms)
unfolding fresh_look
fresh-triples n [] = refl
fresh-triples n (m ∷ ms) = ap (λ (r : List ℕ). m ∷ 0 ∷ 0 ∷ r) (fresh-triples n ms)

pub fresh-u : (n : ℕ) (on off early : ℤ) (l : List ℕ)
    → fresh_u n (stored on) (stored off) (stored early) (distinct [] l) ≡ gate_u16s (fresh_gate (settings_of n on off early l))
unfolding fresh_u fresh_gate settings_of
fresh-u n on off early l =
    sym
    (ap₂ (λ (k : ℕ) (r : List ℕ). n ∷ 0 ∷ stored on ∷ stored off ∷ stored early ∷ k ∷ (r ++ replicate (24 - 3 * k) 0))
    (length-map (distinct [] l) (fresh_look n))
    (fresh-triples n (distinct [] l)))

-- ---- the f64 store

fresh-look : (n m : ℕ) → look_f (fresh_look n m) ≡ replicate (look_size n m) f0
unfolding fresh_look
fresh-look n m =
    ap₂ (λ (r s : List Float). r ++ s) (joined-replicate (2 * m) n f0) (replicate-append-replicate n n f0)
    ∙ replicate-append-replicate (2 * m * n) (n + n) f0
    ∙ ap (λ (k : ℕ). replicate k f0) (sym (add_assoc (2 * m * n) n n))

-- equal entries may change places
turned : {A : Type 0} (a b : ℕ) (v : A) (r : List A) → replicate a v ++ (replicate b v ++ r) ≡ replicate b v ++ (replicate a v ++ r)
turned {A} a b v r =
    sym (append_assoc (replicate a v) (replicate b v) r)
    ∙ ap (λ (l : List A). l ++ r)
    (replicate-append-replicate a b v ∙ ap (λ (k : ℕ). replicate k v) (add_comm a b) ∙ sym (replicate-append-replicate b a v))
    ∙ append_assoc (replicate b v) (replicate a v) r

fresh-looks : (n : ℕ) (ms : List ℕ) → replicate n f0 ++ joined (map look_f (map (fresh_look n) ms)) ≡ replicate (floats_before n ms) f0
fresh-looks n [] = append-nil (replicate n f0)
fresh-looks n (m ∷ ms) =
    let J = joined (map look_f (map (fresh_look n) ms)) in
    ap (λ (r : List Float). replicate n f0 ++ (r ++ J)) (fresh-look n m)
    ∙ turned n (look_size n m) f0 J
    ∙ ap (λ (r : List Float). replicate (look_size n m) f0 ++ r) (fresh-looks n ms)
    ∙ replicate-append-replicate (look_size n m) (floats_before n ms) f0
    ∙ ap (λ (k : ℕ). replicate k f0) (add_comm (look_size n m) (floats_before n ms) ∙ sym (floats-cons n m ms))

pub fresh-f : (n : ℕ) (on off early : ℤ) (l : List ℕ) (k : ℕ) → k ≡ floats_for n (distinct [] l)
    → fresh_f (k - 2 * n) n ≡ gate_floats (fresh_gate (settings_of n on off early l))
unfolding fresh_gate settings_of
fresh-f n on off early l k e =
    let P = replicate n nan ++ replicate n f0 in
    ap (λ (j : ℕ). replicate j f0 ++ P) (let z : k - 2 * n ≡ floats_before n (distinct [] l) = omega arith in z)
    ∙ ap (λ (r : List Float). r ++ P) (sym (fresh-looks n (distinct [] l)))
    ∙ append_assoc (replicate n f0) (joined (map look_f (map (fresh_look n) (distinct [] l)))) P

-- zeros, and NaN over the first n of the last 2n
pub pairs-put : (L n : ℕ) (x : Float) (l : List Float) → 2 * n ≤ L → x ≡ nan → l ≡ replicate L f0
    → splice (L - 2 * n) n l (replicate n x) ≡ fresh_f (L - 2 * n) n
pairs-put L n x l h e q =
    let Z = replicate (L - 2 * n) f0 in
    ap₂ (λ (r : List Float) (y : Float). splice (L - 2 * n) n r (replicate n y))
    (q
    ∙ ap (λ (k : ℕ). replicate k f0) (let z : L ≡ (L - 2 * n) + (n + n) = omega arith in z)
    ∙ sym (replicate-append-replicate (L - 2 * n) (n + n) f0)
    ∙ ap (λ (r : List Float). Z ++ r) (sym (replicate-append-replicate n n f0)))
    e
    ∙ splice-mid Z (replicate n f0) (replicate n f0) (replicate n nan) (L - 2 * n) n (length-replicate (L - 2 * n) f0) (length-replicate n f0)

-- 0.0 / 0.0
pub no_number : div binary64 f0 f0 ≡ nan
unfolding div of_bits
no_number = refl

-- the same, as the fills leave it
pub pairs_put : (l : List Float) (n : ℕ) (x y : List Float) → 2 * n ≤ length l → x ≡ replicate (length l) f0
    → let L = length l in
    y ≡ replicate (length (part (L - 2 * n) (L - n - (L - 2 * n)) x)) (div binary64 f0 f0)
    → splice (L - 2 * n) (L - n - (L - 2 * n)) x y ≡ fresh_f (L - 2 * n) n
pairs_put l n x y h d e =
    let L = length l in
    let k : length x ≡ L = ap length d ∙ length-replicate L f0 in
    let w : L - n - (L - 2 * n) ≡ n = omega arith in
    let y' : y ≡ replicate n (div binary64 f0 f0) =
    e ∙ ap (λ (j : ℕ). replicate j (div binary64 f0 f0)) (ap (λ (j : ℕ). length (part (L - 2 * n) j x)) w ∙ length_part (L - 2 * n) n x (omega arith)) in
    ap (λ (j : ℕ). splice (L - 2 * n) j x y) w
    ∙ ap (splice (L - 2 * n) n x) y'
    ∙ pairs-put L n (div binary64 f0 f0) x h no_number d

-- ---- the answer

abbrev pub good_levels : ℤ → ℤ → ℤ → Bool
good_levels on off early = good_level on && good_level off && (absent early || good_level early)

-- what is known where making refuses nothing
pub record Fits (u f n : ℕ) (l : List ℕ) : Type 0 where
  pub high : n ≤ 512
  pub good : good_lengths l ≡ true
  pub long : u ≡ 30
  pub long_f : f ≡ floats_for n (distinct [] l)

pub fit : (u f n : ℕ) (on off early : ℤ) (l : List ℕ) → gate_make_refusal u f n on off early l ≡ 0 → Fits u f n l
unfolding gate_make_refusal
fit u f n on off early l e =
    let F = floats_for n (distinct [] l) in
    let size = first (differ u 30 || differ f F) 2 0 in
    let levels = first (not (good_levels on off early)) 4 size in
    let a = passed (not (within 1 512 n)) 1 (first (not (good_lengths l)) 3 levels) (omega arith) e in
    let b = passed (not (good_lengths l)) 3 levels (omega arith) a.1 in
    let c = passed (not (good_levels on off early)) 4 size (omega arith) b.1 in
    let d = passed (differ u 30 || differ f F) 2 0 (omega arith) c.1 in
    record {
      high = (within_of 1 512 n (not-false (within 1 512 n) a.0)).1;
      good = not-false (good_lengths l) b.0;
      long = same_of u 30 (or_l (differ u 30) (differ f F) d.0);
      long_f = same_of f F (or_r (differ u 30) (differ f F) d.0);
    }

module _ (u : List ℕ) (f : List Float) (n : ℕ) (on off early : ℤ) (l : List ℕ) where
  abbrev made : Gate
  made = fresh_gate (settings_of n on off early l)

  pub new-made : 0 ≡ gate_make_refusal (length u) (length f) n on off early l → (0, gate_u16s made, gate_floats made) ≡ gate_new_call u f n on off early l
  unfolding gate_new_call
  new-made e = ap (λ (k : ℕ). gate_leaves k made u f) e
