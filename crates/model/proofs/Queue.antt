-- Lists as queues: the newest j entries and the older ones, and the window of a ring, oldest entry first.
-- Assumes nothing.
use mathlib.Core.Path.{◌≡◌, sym, ap, ◌∙◌}
use mathlib.Core.List.{List, [], ◌∷◌, ◌++◌, append_assoc, append-nil}
use Prim.Native.Nat.{ℕ, suc, ◌+◌, ◌-◌, ◌≤◌, ◌<◌, ◌%◌, min}
use native.Mathlib.Nat.{mod-eq_of_lt, mod_self}
use native.Mathlib.Numerals.{add-one}
use native.Mathlib.Decide.{dec_lt}
use native.Mathlib.Omega.{arith}
use lib.ListN.{length, get_or, set, take, drop, length-append, length-take, length-drop, length-set, take-append-drop, drop_of_length-le}
use lib.Seq.{take_all, take-suc-set, drop-cons, drop-set-lt, drop-append-le, drop-drop, take-take}
use Rattle.laws.specs.Lists.{occ}
use Rattle.laws.proofs.Counting.{occ-append}

-- ---- the newest j entries of a queue, and the others

abbrev pub newest : {A : Type 0} → ℕ → List A → List A
newest j w = drop (length w - j) w

abbrev pub older : ℕ → List ℕ → List ℕ
older j w = take (length w - j) w

pub newest-all : {A : Type 0} (j : ℕ) (w : List A) → length w ≤ j → newest j w ≡ w
newest-all j w h = ap (λ (k : ℕ). drop k w) (let e : length w - j ≡ 0 = omega arith in e)

pub newest-snoc : {A : Type 0} (j : ℕ) (w : List A) (b : A) → newest (suc j) (w ++ (b ∷ [])) ≡ newest j w ++ (b ∷ [])
newest-snoc j w b =
    ap (λ (k : ℕ). drop k (w ++ (b ∷ []))) (let e : length (w ++ (b ∷ [])) - suc j ≡ length w - j = omega (arith, length-append w (b ∷ [])) in e)
    ∙ drop-append-le (length w - j) w (b ∷ []) (omega arith)

pub newest-newest : {A : Type 0} (a b : ℕ) (w : List A) → newest a (newest b w) ≡ newest (min a b) w
newest-newest a b w =
    drop-drop (length (newest b w) - a) (length w - b) w
    ∙ ap (λ (k : ℕ). drop k w)
    (let e : (length w - b) + (length (newest b w) - a) ≡ length w - min a b = omega (arith, length-drop (length w - b) w) in e)

-- a window of R: the newest j of it after one more entry hang on the newest j before it
pub newest-step : {A : Type 0} (R j : ℕ) (w : List A) (b : A) → newest (suc j) (newest R (w ++ (b ∷ []))) ≡ newest R (newest j w ++ (b ∷ []))
newest-step R j w b =
    newest-newest (suc j) R (w ++ (b ∷ []))
    ∙ ap (λ (k : ℕ). newest k (w ++ (b ∷ []))) (let e : min (suc j) R ≡ min R (suc j) = omega arith in e)
    ∙ sym (newest-newest R (suc j) (w ++ (b ∷ [])))
    ∙ ap (newest R) (newest-snoc j w b)

-- ---- a ring: its next place n, f places filled, oldest entry first

abbrev pub win : {A : Type 0} → ℕ → ℕ → List A → List A
win n f r = drop n (take f r) ++ take n r

pub win_start : {A : Type 0} (n : ℕ) (r : List A) → n ≤ length r → win n n r ≡ take n r
win_start n r h = rw (drop_of_length-le (take n r) {i = n} (omega (arith, length-take n r)))

pub win-zero : {A : Type 0} (f : ℕ) (r : List A) → win 0 f r ≡ take f r
win-zero f r = append-nil (take f r)

pub length-win : {A : Type 0} (n f : ℕ) (r : List A) → n ≤ f → f ≤ length r → length (win n f r) ≡ f
length-win n f r h k =
    omega (arith, length-append (drop n (take f r)) (take n r), length-drop n (take f r), length-take f r, length-take n r)

-- the window has the same entries as the filled places
pub occ-win : (x n f : ℕ) (r : List ℕ) → n ≤ f → f ≤ length r → occ x (win n f r) ≡ occ x (take f r)
occ-win x n f r h k =
    let t : take n r ≡ take n (take f r) = sym (take-take n f r h) in
    omega
    (arith, occ-append x (drop n (take f r)) (take n r), ap (occ x) t, occ-append x (take n (take f r)) (drop n (take f r)), ap (occ x) (take-append-drop n (take f r)))

module _ {A : Type 0} (R n : ℕ) (r : List A) (len : length r ≡ R) (lt : n < R) (b : A) where
  -- the next place: the one after, or the first
  next-on : suc n < R → (n + 1) % R ≡ suc n
  next-on h = rw add-one (mod-eq_of_lt h)

  next-end : suc n ≡ R → (n + 1) % R ≡ 0
  next-end h = rw (add-one, h) (mod_self R)

  front : take (suc n) (set r n b) ≡ take n r ++ (b ∷ [])
  front = take-suc-set r n b (omega arith)

  -- a push into a ring that is not full
  pub win-part : win ((n + 1) % R) (suc n) (set r n b) ≡ win n n r ++ (b ∷ [])
  win-part = go (dec_lt (suc n) R)
    where
      before : win n n r ≡ take n r
      before = win_start n r (omega arith)

      go : Dec (suc n < R) → win ((n + 1) % R) (suc n) (set r n b) ≡ win n n r ++ (b ∷ [])
      go (yes h) = rw (next-on h, win_start (suc n) (set r n b) (omega (arith, length-set r n b)), before) front
      go (no h) = rw (next-end (omega arith), win-zero (suc n) (set r n b), before) front

  -- a push into a full ring: the oldest entry goes
  pub kept : List A
  kept = drop (suc n) r ++ take n r

  pub win-full : (d : A) → win n R r ≡ get_or r n d ∷ kept
  unfolding kept
  win-full d = rw (take_all R r (omega arith), drop-cons r n d (omega arith))

  pub win-pushed : win ((n + 1) % R) R (set r n b) ≡ kept ++ (b ∷ [])
  unfolding kept
  win-pushed = go (dec_lt (suc n) R)
    where
      go : Dec (suc n < R) → win ((n + 1) % R) R (set r n b) ≡ (drop (suc n) r ++ take n r) ++ (b ∷ [])
      go (yes h) =
          rw (next-on h, take_all R (set r n b) (omega (arith, length-set r n b)), drop-set-lt (suc n) r n b (omega arith), front)
          (sym (append_assoc (drop (suc n) r) (take n r) (b ∷ [])))
      go (no h) =
          let e : suc n ≡ R = omega arith in
          rw (next-end e, win-zero R (set r n b), ← e, front, drop_of_length-le r {i = suc n} (omega arith))
