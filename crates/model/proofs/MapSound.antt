-- What a sound map has past n. Assumes nothing.
use mathlib.Core.Path.{◌≡◌, refl, sym}
use mathlib.Core.Bool.{Bool, true, false, not, ◌&&◌, ◌||◌}
use mathlib.Core.List.{List}
use Prim.Native.Nat.{ℕ, ◌*◌, ◌<◌, ◌≤◌}
use lib.Dec.{ltb}
use borrow.Author.Tests.{le-ltb, ltb-false}
use Rattle.laws.proofs.Tests.{by-test, clash, and_l, and_r, and-true, all-at, all_true}
use Rattle.laws.specs.Bits.{width}
use Rattle.model.specs.Map.{rise_flag, drop_flag, mask_bit, none_past, sound_map}

-- nothing past n, at one bit
or_right : (p q : Bool) → p ≡ false → (p || not q) ≡ true → q ≡ false
or_right true q p r = clash p
or_right false true p r = sym r
or_right false false p r = refl

pub past-none : (n : ℕ) (p : ℕ → Bool) (k : ℕ) → none_past n p ≡ true → n ≤ k → k < 8 * width n → p k ≡ false
past-none n p k h g l = or_right (ltb k n) (p k) (le-ltb k n g) (all-at (λ k. ltb k n || not (p k)) (8 * width n) k h l)

pub none_is_past : (n : ℕ) (p : ℕ → Bool) → ((k : ℕ) → n ≤ k → k < 8 * width n → p k ≡ false) → none_past n p ≡ true
none_is_past n p h =
    all_true (λ k. ltb k n || not (p k)) (8 * width n)
    (λ k l. by-test (ltb k n) (λ t. rw t) (λ t. let z : p k ≡ false = h k (ltb-false k n t) l in rw (t, z)))

-- what a sound map has past n
module _ (n : ℕ) (m : List ℕ) where
  pub no-rise-past : sound_map n m ≡ true → (k : ℕ) → n ≤ k → k < 8 * width n → rise_flag n m k ≡ false
  unfolding sound_map
  no-rise-past s k g l =
      past-none n (rise_flag n m) k
      (and_l (none_past n (rise_flag n m)) (none_past n (drop_flag n m)) (and_l (none_past n (rise_flag n m) && none_past n (drop_flag n m)) (none_past n (mask_bit n m)) s)) g l

  pub no-drop-past : sound_map n m ≡ true → (k : ℕ) → n ≤ k → k < 8 * width n → drop_flag n m k ≡ false
  unfolding sound_map
  no-drop-past s k g l =
      past-none n (drop_flag n m) k
      (and_r (none_past n (rise_flag n m)) (none_past n (drop_flag n m)) (and_l (none_past n (rise_flag n m) && none_past n (drop_flag n m)) (none_past n (mask_bit n m)) s)) g l

  pub no-mask-past : sound_map n m ≡ true → (k : ℕ) → n ≤ k → k < 8 * width n → mask_bit n m k ≡ false
  unfolding sound_map
  no-mask-past s k g l =
      past-none n (mask_bit n m) k (and_r (none_past n (rise_flag n m) && none_past n (drop_flag n m)) (none_past n (mask_bit n m)) s) g l

  -- and from that it is sound
  pub sound-by : ((k : ℕ) → n ≤ k → k < 8 * width n → rise_flag n m k ≡ false) → ((k : ℕ) → n ≤ k → k < 8 * width n → drop_flag n m k ≡ false)
      → ((k : ℕ) → n ≤ k → k < 8 * width n → mask_bit n m k ≡ false) → sound_map n m ≡ true
  unfolding sound_map
  sound-by r d k =
      and-true (none_past n (rise_flag n m) && none_past n (drop_flag n m)) (none_past n (mask_bit n m))
      (and-true (none_past n (rise_flag n m)) (none_past n (drop_flag n m)) (none_is_past n (rise_flag n m) r) (none_is_past n (drop_flag n m) d))
      (none_is_past n (mask_bit n m) k)
