-- Laws on the four tallies: an entry counted in one of them, and their sum. Assumes nothing.
use mathlib.Core.Path.{◌≡◌, refl, sym, ap, ◌∙◌}
use mathlib.Core.Bool.{Bool}
use mathlib.Core.List.{List}
use Prim.Native.Nat.{ℕ, zero, suc, ◌+◌, ◌*◌, ◌<◌, ◌≤◌}
use native.Mathlib.Nat.{add-zero, zero-add}
use native.Mathlib.Omega.{arith}
use lib.Dec.{eqb}
use lib.ListN.{length, get_or, take, set, replicate, length-replicate, length-set, get_or-replicate}
use lib.Seq.{length-take-le, get_or-set_same, get_or-set_other}
use borrow.Author.Tests.{eqb-true, eqb-false, eq-eqb, ne_eqb}
use Rattle.laws.specs.Lists.{one}
use Rattle.laws.proofs.Counting.{occ-le, occ-step}
use Rattle.laws.proofs.Tests.{by-test}
use Rattle.model.specs.Layout.{bins}
use Rattle.bank_sound.specs.Tallies.{lane_sum, Tallied}

-- one place of a list raised by one
pub raised : (t : List ℕ) (p q : ℕ) → p < length t → get_or (set t p (get_or t p 0 + 1)) q 0 ≡ get_or t q 0 + one (eqb q p)
raised t p q h =
    by-test (eqb q p)
    (λ e.
    let d : q ≡ p = eqb-true q p e in
    rw d (get_or-set_same t p (get_or t p 0 + 1) 0 h ∙ sym (ap (λ (v : Bool). get_or t p 0 + one v) (eq-eqb p p refl))))
    (λ e.
    get_or-set_other t p q (get_or t p 0 + 1) 0 (eqb-false q p e) ∙ sym (ap (λ (v : Bool). get_or t q 0 + one v) e ∙ add-zero (get_or t q 0)))

-- of the four places of a bin one is raised, if it is the entry's bin
abbrev raises : ℕ → ℕ → ℕ
raises p b = one (eqb b p) + one (eqb (bins + b) p) + one (eqb (2 * bins + b) p) + one (eqb (3 * bins + b) p)

not_at : (p q : ℕ) → (q ≡ p → ⊥) → one (eqb q p) ≡ 0
not_at p q h = ap one (ne_eqb q p h)

at : (p q : ℕ) → q ≡ p → one (eqb q p) ≡ 1
at p q e = ap one (eq-eqb q p e)

module _ (x b : ℕ) (lx : x < bins) (lb : b < bins) where
  raises-other : (j : ℕ) → (b ≡ x → ⊥) → raises (j * bins + x) b ≡ 0
  raises-other j d =
      omega (
        arith,
        not_at (j * bins + x) b (λ e. d (omega arith)),
        not_at (j * bins + x) (bins + b) (λ e. d (omega arith)),
        not_at (j * bins + x) (2 * bins + b) (λ e. d (omega arith)),
        not_at (j * bins + x) (3 * bins + b) (λ e. d (omega arith)),
      )

  raises-own : (j : ℕ) → j < 4 → b ≡ x → raises (j * bins + x) b ≡ 1
  raises-own zero h e =
      omega (arith, at (0 * bins + x) b (omega arith), not_at (0 * bins + x) (bins + b) (λ d. omega arith), not_at (0 * bins + x) (2 * bins + b) (λ d. omega arith), not_at (0 * bins + x) (3 * bins + b) (λ d. omega arith))
  raises-own (suc zero) h e =
      omega (arith, not_at (1 * bins + x) b (λ d. omega arith), at (1 * bins + x) (bins + b) (omega arith), not_at (1 * bins + x) (2 * bins + b) (λ d. omega arith), not_at (1 * bins + x) (3 * bins + b) (λ d. omega arith))
  raises-own (suc (suc zero)) h e =
      omega (arith, not_at (2 * bins + x) b (λ d. omega arith), not_at (2 * bins + x) (bins + b) (λ d. omega arith), at (2 * bins + x) (2 * bins + b) (omega arith), not_at (2 * bins + x) (3 * bins + b) (λ d. omega arith))
  raises-own (suc (suc (suc zero))) h e =
      omega (arith, not_at (3 * bins + x) b (λ d. omega arith), not_at (3 * bins + x) (bins + b) (λ d. omega arith), not_at (3 * bins + x) (2 * bins + b) (λ d. omega arith), at (3 * bins + x) (3 * bins + b) (omega arith))
  raises-own (suc (suc (suc (suc j)))) h e = absurd (omega arith)

  raises-one : (j : ℕ) → j < 4 → raises (j * bins + x) b ≡ one (eqb b x)
  raises-one j h =
      by-test (eqb b x) (λ e. raises-own j h (eqb-true b x e) ∙ sym (ap one e)) (λ e. raises-other j (eqb-false b x e) ∙ sym (ap one e))

-- one more entry, counted in the j-th tally
pub tallied-more : (l t : List ℕ) (i j : ℕ) → j < 4 → i < length l → get_or l i 0 < bins → Tallied i l t
    → Tallied (i + 1) l (set t (j * bins + get_or l i 0) (get_or t (j * bins + get_or l i 0) 0 + 1))
tallied-more l t i j h k g r =
    let x = get_or l i 0 in
    let p = j * bins + x in
    let w : p < length t = omega (arith, r.long) in
    record {
      long = simp length-set r.long;
      sums = λ b m. omega (arith, raised t p b w, raised t p (bins + b) w, raised t p (2 * bins + b) w, raised t p (3 * bins + b) w, raises-one x b g m j h, r.sums b m, occ-step b l i k);
    }

-- no cell is above the entries counted
cell-le : (t : List ℕ) (x j : ℕ) → j < 4 → get_or t (j * bins + x) 0 ≤ lane_sum t x
cell-le t x zero h = omega (arith, ap (λ (k : ℕ). get_or t k 0) (zero-add x))
cell-le t x (suc zero) h = omega arith
cell-le t x (suc (suc zero)) h = omega arith
cell-le t x (suc (suc (suc zero))) h = omega arith
cell-le t x (suc (suc (suc (suc j)))) h = absurd (omega arith)

pub sum-le : (l t : List ℕ) (i b : ℕ) → i ≤ length l → Tallied i l t → b < bins → lane_sum t b ≤ i
sum-le l t i b h r k = omega (arith, r.sums b k, occ-le b (take i l), length-take-le i l h)

pub tallied-le : (l t : List ℕ) (i x j : ℕ) → i ≤ length l → Tallied i l t → x < bins → j < 4 → get_or t (j * bins + x) 0 ≤ i
tallied-le l t i x j h r g k = omega (arith, cell-le t x j k, sum-le l t i x h r g)

-- tallies of nothing
pub tallied-none : (l : List ℕ) → Tallied 0 l (replicate {A = ℕ} (4 * bins) 0)
tallied-none l =
    record {
      long = length-replicate {A = ℕ} (4 * bins) 0;
      sums = λ b h. omega (arith, get_or-replicate {A = ℕ} (4 * bins) b 0 0 (omega arith), get_or-replicate {A = ℕ} (4 * bins) (bins + b) 0 0 (omega arith), get_or-replicate {A = ℕ} (4 * bins) (2 * bins + b) 0 0 (omega arith), get_or-replicate {A = ℕ} (4 * bins) (3 * bins + b) 0 0 (omega arith));
    }
