-- Laws on the soundness test and the refusals of a bank, in their order, each from the tests that lead to it. Assumes nothing.
use mathlib.Core.Path.{◌≡◌, refl, sym, ap, ap₂, ◌∙◌}
use mathlib.Core.Bool.{Bool, true, false, not, ◌&&◌, ◌||◌}
use mathlib.Core.List.{List, [], ◌∷◌}
use Prim.Native.Nat.{ℕ, zero, suc, ◌-◌, ◌*◌, ◌+◌, ◌≤◌}
use native.Mathlib.Nat.{add-zero}
use native.Mathlib.Omega.{arith}
use lib.Dec.{eqb, ltb, leb}
use lib.ListN.{length, get_or}
use lib.Ieee.{Float}
use borrow.Author.Tests.{le-ltb, ltb-false}
use Rattle.std.specs.List.{list_all, range_with_len}
use Rattle.laws.specs.Lists.{part, tab}
use Rattle.laws.specs.Tests.{all_below, within, differ, first}
use Rattle.laws.proofs.Lists.{get_d_part, length_part, width}
use Rattle.laws.proofs.Tabs.{get_d-tab}
use Rattle.laws.proofs.Tests.{by-test, passed, stands, all_more, all-fails}
use Rattle.model.specs.Ring.{ChannelFloor}
use Rattle.model.specs.Layout.{channel_len}
use Rattle.model.specs.Bank.{blocks, fresh_channel}
use Rattle.model.specs.Stores.{base, bank_len, bank_f_len, bank_of, chan_of, chan_part, sound_channel, sound_bank}
use Rattle.model.specs.Refusals.{bank_refusal}
use Rattle.refusals.specs.Numbers.{number_of}
use Rattle.refusals.specs.declared.Refusal.{Refusal}
use Rattle.store_sizes.specs.Checks.{size_refusal}
use Rattle.stores.specs.Checks.{is_sound, sound_head, sound_seeds, sound_channels, sound_store}
use Rattle.bank_sound.proofs.Checks.{all_same}
use Rattle.refusals.proofs.Answers.{refuses}

-- ---- the seeds

and-assoc : (p q r : Bool) → (p && q && r) ≡ (p && (q && r))
and-assoc true q r = refl
and-assoc false q r = refl

and-true-r : (p : Bool) → (p && true) ≡ p
and-true-r true = refl
and-true-r false = refl

-- a search of a list from its front, as one of its indices
all_first : (n : ℕ) (p : ℕ → Bool) → all_below (suc n) p ≡ (p 0 && all_below n (λ k. p (suc k)))
unfolding all_below
all_first zero p = sym (and-true-r (p 0))
all_first (suc n) p = ap (λ (b : Bool). b && p (suc n)) (all_first n p) ∙ and-assoc (p 0) (all_below n (λ k. p (suc k))) (p (suc n))

all_listed : {A : Type 0} (test : A → Bool) (d : A) (xs : List A) → list_all test xs ≡ all_below (length xs) (λ k. test (get_or xs k d))
unfolding all_below
all_listed test d [] = refl
all_listed test d (x ∷ xs) = ap (λ (b : Bool). test x && b) (all_listed test d xs) ∙ sym (all_first (length xs) (λ k. test (get_or (x ∷ xs) k d)))

pub seeds_are : (u : List ℕ) (n : ℕ) → 3 + blocks n ≤ length u → list_all (λ x. leb x 25) (part 3 (blocks n) u) ≡ sound_seeds u n
unfolding sound_seeds
seeds_are u n h =
    all_listed (λ x. leb x 25) 0 (part 3 (blocks n) u)
    ∙ ap (λ (k : ℕ). all_below k (λ i. leb (get_or (part 3 (blocks n) u) i 0) 25)) (length_part 3 (blocks n) u h)
    ∙ all_same (blocks n) (λ i. leb (get_or (part 3 (blocks n) u) i 0) 25) (λ i. leb (get_or u (3 + i) 0) 25) (λ i l. ap (λ (x : ℕ). leb x 25) (get_d_part 3 (blocks n) u i 0 l))

-- ---- the store

-- a search of the numbers from a on, where the test holds of all below
pub all_ranged : (p : ℕ → Bool) (a m : ℕ) → all_below a p ≡ true → list_all p (range_with_len a m) ≡ all_below (a + m) p
all_ranged p a zero h = sym (ap (λ (k : ℕ). all_below k p) (add-zero a) ∙ h)
all_ranged p a (suc m) h =
    let rest = list_all p (range_with_len (a + 1) m) in
    let e : a + 1 + m ≡ a + suc m = omega arith in
    by-test (p a)
    (λ k. ap (λ (b : Bool). b && rest) k ∙ all_ranged p (a + 1) m (all_more p a h k) ∙ ap (λ (j : ℕ). all_below j p) e)
    (λ k. ap (λ (b : Bool). b && rest) k ∙ sym (all-fails p (a + suc m) a (omega arith) k))

-- what is said of a channel by its part, whose place and width are worked out
pub channel_is : (u : List ℕ) (n start k : ℕ) (r : Bool) → start ≡ base n
    → r ≡ sound_channel (chan_of (part (start + channel_len * k) (start + channel_len * k + channel_len - (start + channel_len * k)) u)) → r ≡ is_sound u n k
channel_is u n start k r e h =
    h
    ∙ ap (λ (w : ℕ). sound_channel (chan_of (part (start + channel_len * k) w u))) (width (start + channel_len * k) channel_len)
    ∙ ap (λ (b : ℕ). sound_channel (chan_of (part (b + channel_len * k) channel_len u))) e

-- the store's test is that of the bank in it
pub store_is : (u : List ℕ) (f : List Float) → sound_store u (get_or u 0 0) ≡ sound_bank (bank_of u f)
unfolding sound_store sound_seeds sound_channels sound_bank bank_of
store_is u f =
    let n = get_or u 0 0 in
    let at : ℕ → ChannelFloor = λ k. chan_of (chan_part n u k) in
    ap₂ (λ (s t : Bool). sound_head (get_or u 1 0) (get_or u 2 0) && s && t)
    (all_same (blocks n) (λ i. leb (get_or u (3 + i) 0) 25) (λ i. leb (get_or (part 3 (blocks n) u) i 0) 25)
    (λ i h. ap (λ (x : ℕ). leb x 25) (sym (get_d_part 3 (blocks n) u i 0 h))))
    (all_same n (λ k. sound_channel (at k)) (λ k. sound_channel (get_or (tab n at) k fresh_channel))
    (λ k h. ap sound_channel (sym (get_d-tab n at k fresh_channel h))))

-- ---- the bank

abbrev pub size_of : List ℕ → List Float → ℕ
size_of u f = size_refusal 9 (length u) (length f) (get_or u 0 0)

-- the two tests of sizes taken as one
nest : (s t : Bool) (rest : ℕ) → first s 9 (first t 2 rest) ≡ first (not (eqb (first s 9 (first t 2 0)) 0)) (first s 9 (first t 2 0)) rest
nest true t rest = refl
nest false true rest = refl
nest false false rest = refl

pub refusal_is : (u : List ℕ) (f : List Float)
    → bank_refusal u f
    ≡ first (ltb (length u) 3) 2 (first (not (eqb (size_of u f) 0)) (size_of u f) (first (not (sound_store u (get_or u 0 0))) 9 0))
unfolding bank_refusal
refusal_is u f =
    let n = get_or u 0 0 in
    ap (first (ltb (length u) 3) 2)
    (nest (not (within 1 512 n)) (differ (length u) (bank_len n) || differ (length f) (bank_f_len n)) (first (not (sound_bank (bank_of u f))) 9 0)
    ∙ ap (λ (b : Bool). first (not (eqb (size_of u f) 0)) (size_of u f) (first (not b) 9 0)) (sym (store_is u f)))

-- a refusal over sizes is the bank's, behind a header
pub wrong_size : (u : List ℕ) (f : List Float) (e : Refusal) → 3 ≤ length u → number_of e ≡ size_of u f → number_of e ≡ bank_refusal u f
wrong_size u f e h k =
    let rest = first (not (sound_store u (get_or u 0 0))) 9 0 in
    k
    ∙ stands (size_of u f) rest (λ z. refuses e (k ∙ z))
    ∙ ap (λ (b : Bool). first b 2 (first (not (eqb (size_of u f) 0)) (size_of u f) rest)) (sym (le-ltb (length u) 3 h))
    ∙ sym (refusal_is u f)

-- a bank that is not refused has its header
pub at_least_three : (u : List ℕ) (f : List Float) → bank_refusal u f ≡ 0 → 3 ≤ length u
at_least_three u f e =
    ltb-false (length u) 3
    (passed (ltb (length u) 3) 2 (first (not (eqb (size_of u f) 0)) (size_of u f) (first (not (sound_store u (get_or u 0 0))) 9 0)) (omega arith)
    (sym (refusal_is u f) ∙ e)).0
