-- Two lists of numbers in order place by place: as long, and no number of the first above the second's at its place. Assumes nothing.
use mathlib.Core.Path.{◌≡◌, refl}
use mathlib.Core.List.{List, ◌∷◌}
use Prim.Native.Nat.{ℕ, suc, ◌<◌, ◌≤◌}
use native.Mathlib.Nat.{le_refl}
use native.Mathlib.Decide.{ℕ_discrete}
use native.Mathlib.Omega.{arith}
use lib.ListN.{length, get_or, set, take, length-set, length-take}
use lib.Seq.{get_or-take, get_or-set_same, get_or-set_other}

pub record Lower (l m : List ℕ) : Type 0 where
  pub long : length l ≡ length m
  pub at : (i : ℕ) → i < length l → get_or l i 0 ≤ get_or m i 0

pub lower-same : (l : List ℕ) → Lower l l
lower-same l = record { long = refl; at = λ i h. le_refl (get_or l i 0) }

pub lower-tail : {x y : ℕ} {l m : List ℕ} → Lower (x ∷ l) (y ∷ m) → Lower l m
lower-tail o = record { long = omega (arith, o.long); at = λ i h. o.at (suc i) (omega arith) }

pub lower-take : (r : ℕ) (l m : List ℕ) → Lower l m → Lower (take r l) (take r m)
lower-take r l m o =
    record {
      long = omega (arith, length-take r l, length-take r m, o.long);
      at =
          λ i h.
          (let e = length-take r l in
          omega (arith, get_or-take r l i 0 (omega arith), get_or-take r m i 0 (omega arith), o.at i (omega arith)));
    }

pub lower-set : (n a b : ℕ) (l m : List ℕ) → Lower l m → a ≤ b → Lower (set l n a) (set m n b)
lower-set n a b l m o h =
    record { long = omega (arith, length-set l n a, length-set m n b, o.long); at = λ i k. go i (omega (arith, length-set l n a)) (ℕ_discrete i n) }
  where
    go : (i : ℕ) → i < length l → Dec (i ≡ n) → get_or (set l n a) i 0 ≤ get_or (set m n b) i 0
    go i k (yes e) = rw e (omega (arith, get_or-set_same l n a 0 (omega arith), get_or-set_same m n b 0 (omega (arith, o.long))))
    go i k (no e) = omega (arith, get_or-set_other l n i a 0 e, get_or-set_other m n i b 0 e, o.at i k)
