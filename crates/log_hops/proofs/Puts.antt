-- Laws on bytes written over those of a list, one after another. Assumes nothing.
use mathlib.Core.Path.{◌≡◌, refl, sym, ap, ap₂, ◌∙◌}
use mathlib.Core.List.{List, [], ◌++◌}
use Prim.Native.Nat.{ℕ, ◌+◌, ◌≤◌}
use native.Mathlib.Omega.{arith}
use lib.ListN.{length, drop, length-append}
use borrow.Rule.Slice.PartMut.{put_mid}
use Rattle.laws.specs.Lists.{part, splice, tab}
use Rattle.laws.proofs.Lists.{length_part, length-splice, splice-none, splice-more}
use Rattle.laws.proofs.Fills.{Filled, done}
use Rattle.laws.proofs.Tabs.{length-tab}
use Rattle.log_hops.specs.Put.{put}

pub put-none : (at : ℕ) (l : List ℕ) → put at [] l ≡ l
unfolding put
put-none at l = splice-none at l

-- for a reader: the list is as long as it was
pub length-put : (at : ℕ) (p l : List ℕ) → at + length p ≤ length l → length (put at p l) ≡ length l
unfolding put
length-put at p l h = length-splice at (length p) l p h refl

-- the bytes p, and then q behind them
pub put-more : (at : ℕ) (p q l : List ℕ) → at + length p + length q ≤ length l → put (at + length p) q (put at p l) ≡ put at (p ++ q) l
unfolding put
put-more at p q l h = splice-more at (length p) (length q) l p q h refl ∙ ap (λ (w : ℕ). splice at w l (p ++ q)) (sym (length-append p q))

-- the same, where the place and the list are known by equations
pub put_next : (at a w : ℕ) (p q l m : List ℕ) → length p ≡ w → a ≡ at + w → m ≡ put at p l → at + w + length q ≤ length l
    → put a q m ≡ put at (p ++ q) l
put_next at a w p q l m e f g h =
    ap₂ (λ (i : ℕ) (r : List ℕ). put i q r) (let z : a ≡ at + length p = omega arith in z) g ∙ put-more at p q l (omega arith)

-- what a loop over a part of the list that writes entry by entry leaves
pub put-part : (at v w k : ℕ) (l m : List ℕ) (f : ℕ → ℕ) → v ≡ w → at + w ≤ length l → Filled (part at v l) f k m → v ≤ k
    → put_mid at v l m ≡ put at (tab w f) l
unfolding put
put-part at v w k l m f e h filled all =
    let long : length (part at v l) ≡ v = length_part at v l (omega arith) in
    ap (splice at v l) (done (part at v l) f k m filled (omega (arith, long)) ∙ ap (λ (n : ℕ). tab n f) (long ∙ e))
    ∙ ap (λ (n : ℕ). splice at n l (tab w f)) (e ∙ sym (length-tab w f))

-- from the list's front on
pub put_front : (p l : List ℕ) → put 0 p l ≡ p ++ drop (length p) l
unfolding put
put_front p l = refl
