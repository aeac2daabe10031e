-- One entry more is that of the back; after the last of them the front is the back. Assumes nothing.
use Rattle.std.proofs.Common.{◌≡◌, ◌<◌, ◌++◌, ◌∷◌, [], zero, suc, ℕ, List, length, take, drop, get_or, slice_set, refl, ap, ap₂, ◌∙◌, arith}
use mathlib.Core.List.{append-nil}
use native.Mathlib.Numerals.{add-one}
use lib.ListN.{drop_of_length-le}
use Rattle.std.proofs.Math.Seq.{take-length}
use Rattle.log_combine.proofs.step_back.Goals as goal

module _ {A : Type 0} where
  one_more : (k : ℕ) (b f : List A) (x : A) → k < length b → k < length f → x ≡ get_or b k x → slice_set (take k b ++ drop k f) k x ≡ take (suc k) b ++ drop (suc k) f
  one_more zero (y ∷ b) (z ∷ f) x p q e = ap (λ (v : A). v ∷ f) e
  one_more (suc k) (y ∷ b) (z ∷ f) x p q e = ap (λ (r : List A). y ∷ r) (one_more k b f x (omega arith) (omega arith) e)
  one_more k [] f x p q e = absurd (omega arith)
  one_more k (y ∷ b) [] x p q e = absurd (omega arith)

pub loop-k-init : goal.loop-k-init
loop-k-init g c = refl

pub loop-k-preserved : goal.loop-k-preserved
loop-k-preserved g c =
    let b = c.split_at_mut-front.result.1.now in
    let f = c.split_at_mut-front.result.0.now in
    let s = c.split_at_mut-front.ensures in
    let x = c.index-back-k.result in
    ap (λ r. slice_set r c.loop-k.k x) c.loop-k.invariant
    ∙ one_more c.loop-k.k b f x (omega (arith, s.front_len, s.back_len)) c.loop-k-test.true c.index-back-k.is
    ∙ rw (add-one c.loop-k.k) refl

pub returns : goal.returns
returns g c =
    let b = c.split_at_mut-front.result.1.now in
    let f = c.split_at_mut-front.result.0.now in
    let s = c.split_at_mut-front.ensures in
    let k = c.loop-k.k in
    let e : k ≡ length b = omega (arith, s.front_len, s.back_len) in
    let done = c.loop-k.invariant ∙ ap₂ ◌++◌ (ap (λ (n : ℕ). take n b) e ∙ take-length b) (drop_of_length-le f (omega arith)) ∙ append-nil b in
    ap (λ r. r ++ b) done ∙ ap₂ ◌++◌ s.back s.back
