-- The quartile hangs on how often each bin occurs, not on the order of the ring. Assumes nothing.
use mathlib.Core.Path.{◌≡◌, refl, sym, ap, ◌∙◌}
use mathlib.Core.List.{List}
use Prim.Native.Nat.{ℕ, zero, suc, ◌+◌, ◌/◌, ◌≤◌, ◌<◌}
use native.Mathlib.Numerals.{add-one}
use native.Mathlib.Omega.{arith}
use Rattle.laws.specs.Lists.{occ}
use Rattle.model.specs.Ring.{smallest, centre_of, quartile_of}
use Rattle.model.proofs.Rank.{under, under-zero, under_more, reached, smallest-is}

module _ (l m : List ℕ) (same : (x : ℕ) → occ x l ≡ occ x m) where
  under_same : (b : ℕ) → under b l ≡ under b m
  under_same zero = under-zero l ∙ sym (under-zero m)
  under_same (suc b) = rw (← add-one b) (omega (arith, under_more b l, under_more b m, under_same b, same b))

  smallest-same : (k B : ℕ) → 0 < k → k ≤ under B l → smallest k l ≡ smallest k m
  smallest-same k B p h =
      let r = reached k l p B h in
      smallest-is r.0 k l p r.2 r.3
      ∙ sym (smallest-is r.0 k m p (omega (arith, r.2, under_same r.0)) (omega (arith, r.3, under_same (r.0 + 1))))

  pub quartile-same : (r B : ℕ) → r ≤ under B l → quartile_of r l ≡ quartile_of r m
  quartile-same zero B h = refl
  quartile-same (suc r) B h = ap centre_of (smallest-same ((suc r + 3) / 4) B (omega arith) (omega arith))
