-- Laws on a fresh bank in its stores, for stores filled part by part. Assumes nothing.
use mathlib.Core.Path.{◌≡◌, refl, sym, ap, ap₂, ◌∙◌}
use mathlib.Core.List.{List, [], ◌∷◌, ◌++◌, append_assoc, append-nil, map}
use Prim.Native.Nat.{ℕ, zero, suc, ◌+◌, ◌-◌, ◌*◌}
use native.Mathlib.Nat.{mul-suc, mul-zero}
use native.Mathlib.Omega.{arith}
use lib.ListN.{length, take, drop, set, replicate, length-append, length-drop, length-replicate, replicate-append-replicate}
use lib.Ieee.{Float}
use Rattle.laws.specs.Lists.{part, splice, tab_from, joined}
use Rattle.laws.proofs.Lists.{splice-mid, length_part, length-splice}
use Rattle.std.proofs.lemmas.List.{length-take-le}
use Rattle.model.specs.Bank.{blocks, fresh_channel, fresh_bank}
use Rattle.model.specs.Stores.{chan_u, bank_u16s, bank_floats, bank_len, bank_f_len}
use Rattle.model.specs.Numbers.{f0}
use Rattle.model.specs.Layout.{hist_min, bins, fresh_power, ring_len, channel_len}

-- ---- one value again and again

module _ {A : Type 0} where
  pub tab_from-same : (i n : ℕ) (v : A) → tab_from i n (λ _. v) ≡ replicate n v
  tab_from-same i zero v = refl
  tab_from-same i (suc n) v = ap (λ (r : List A). v ∷ r) (tab_from-same (suc i) n v)

  map-replicate : {B : Type 0} (g : A → B) (n : ℕ) (x : A) → map g (replicate n x) ≡ replicate n (g x)
  map-replicate g zero x = refl
  map-replicate {B = B} g (suc n) x = ap (λ (r : List B). g x ∷ r) (map-replicate g n x)

  -- n lists of w equal values
  pub joined-replicate : (w n : ℕ) (v : A) → joined (replicate n (replicate w v)) ≡ replicate (w * n) v
  joined-replicate w zero v = ap (λ (k : ℕ). replicate k v) (sym (mul-zero w))
  joined-replicate w (suc n) v =
      ap (λ (r : List A). replicate w v ++ r) (joined-replicate w n v)
      ∙ replicate-append-replicate w (w * n) v
      ∙ ap (λ (k : ℕ). replicate k v) (let z : w + w * n ≡ w * suc n = omega (arith, mul-suc w n) in z)

-- ---- the u16 store

abbrev pub noughts : ℕ → List ℕ
noughts k = replicate k 0

zeros : (R K : ℕ) → noughts R ++ (noughts K ++ (0 ∷ 0 ∷ 0 ∷ [])) ≡ noughts (R + (K + 3))
zeros R K = ap (λ (r : List ℕ). noughts R ++ r) (replicate-append-replicate K 3 0) ∙ replicate-append-replicate R (K + 3) 0

chan-zeros : chan_u fresh_channel ≡ noughts channel_len
unfolding fresh_channel
chan-zeros = zeros ring_len bins

chans-zeros : (n : ℕ) → joined (map chan_u (replicate n fresh_channel)) ≡ noughts (channel_len * n)
chans-zeros n =
    ap joined (map-replicate chan_u n fresh_channel ∙ ap (λ (c : List ℕ). replicate n c) chan-zeros) ∙ joined-replicate channel_len n 0

pub fresh-u : (n : ℕ) (l : List ℕ) → l ≡ noughts (bank_len n) → set l 0 n ≡ bank_u16s (fresh_bank n)
unfolding fresh_bank
fresh-u n l e =
    ap (λ (r : List ℕ). set r 0 n) (e ∙ ap noughts (let z : bank_len n ≡ suc (suc (suc (blocks n + channel_len * n))) = omega arith in z))
    ∙ ap (λ (r : List ℕ). n ∷ 0 ∷ 0 ∷ r)
    (sym (replicate-append-replicate (blocks n) (channel_len * n) 0) ∙ ap (λ (r : List ℕ). noughts (blocks n) ++ r) (sym (chans-zeros n)))

-- ---- the f64 store: n channels in b blocks, floors h, powers p, sums z

module _ {A : Type 0} (n b : ℕ) (h p z : A) (l : List A) (long : length l ≡ 4 * n + b + b) where
  abbrev q : List A
  q = drop (4 * n + b) l

  abbrev H : ℕ → List A
  H k = replicate k h

  abbrev P : List A
  P = replicate n p

  abbrev Z : List A
  Z = replicate b z

  floors : H (4 * n + b) ++ q ≡ H (2 * n) ++ (H n ++ (H (n + b) ++ q))
  floors =
      ap (λ (r : List A). r ++ q)
      (sym
      (ap (λ (r : List A). H (2 * n) ++ r) (replicate-append-replicate n (n + b) h)
      ∙ replicate-append-replicate (2 * n) (n + (n + b)) h
      ∙ ap H (let e : 2 * n + (n + (n + b)) ≡ 4 * n + b = omega arith in e)))
      ∙ append_assoc (H (2 * n)) (H n ++ H (n + b)) q
      ∙ ap (λ (r : List A). H (2 * n) ++ r) (append_assoc (H n) (H (n + b)) q)

  front : List A
  front = H (2 * n) ++ (P ++ H (n + b))

  powers : splice (2 * n) n (H (4 * n + b) ++ q) P ≡ front ++ (q ++ [])
  unfolding front
  powers =
      ap (λ (r : List A). splice (2 * n) n r P) floors
      ∙ splice-mid (H (2 * n)) (H n) (H (n + b) ++ q) P (2 * n) n (length-replicate (2 * n) h) (length-replicate n h)
      ∙ simp (append_assoc, append-nil)

  front_long : length front ≡ 4 * n + b
  unfolding front
  front_long = simp (length-append, length-replicate) (omega arith)

  pub fresh-f : splice (4 * n + b) b (splice (2 * n) n (splice 0 (4 * n + b) l (H (4 * n + b))) P) Z ≡ H n ++ (H n ++ (P ++ (H n ++ (H b ++ Z))))
  unfolding front
  fresh-f =
      ap (λ (r : List A). splice (4 * n + b) b r Z) powers
      ∙ splice-mid front q [] Z (4 * n + b) b front_long (length-drop (4 * n + b) l ∙ (let e : length l - (4 * n + b) ≡ b = omega arith in e))
      ∙ ap₂ (λ (r s : List A). (r ++ (P ++ s)) ++ (Z ++ []))
      (ap H (let e : 2 * n ≡ n + n = omega arith in e) ∙ sym (replicate-append-replicate n n h))
      (sym (replicate-append-replicate n b h))
      ∙ simp (append_assoc, append-nil)

-- the three fills, one after another, of b blocks as the code has them
pub fresh-f-store : (n b : ℕ) (l s t u : List Float) → length l ≡ bank_f_len n → b ≡ blocks n → s ≡ splice 0 (4 * n + b) l (replicate (4 * n + b) hist_min)
    → t ≡ splice (2 * n) n s (replicate n fresh_power) → u ≡ splice (4 * n + b) b t (replicate b f0) → u ≡ bank_floats (fresh_bank n)
unfolding fresh_bank
fresh-f-store n b l s t u long e d₁ d₂ d₃ =
    d₃
    ∙ ap (λ (r : List Float). splice (4 * n + b) b r (replicate b f0)) (d₂ ∙ ap (λ (r : List Float). splice (2 * n) n r (replicate n fresh_power)) d₁)
    ∙ fresh-f n b hist_min fresh_power f0 l (omega arith)
    ∙ ap
    (λ (k : ℕ).
    replicate n hist_min
    ++ (replicate n hist_min ++ (replicate n fresh_power ++ (replicate n hist_min ++ (replicate k hist_min ++ replicate k f0)))))
    e

-- the same, as the fills leave it of the parts that they are given
pub fresh_floats : (n b : ℕ) (l x y z : List Float) → length l ≡ bank_f_len n → b ≡ blocks n
    → let m = 4 * n + b in
    let s = x ++ drop m l in
    let t = splice (2 * n) (3 * n - 2 * n) s y in
    x ≡ replicate (length (take m l)) hist_min
    → y ≡ replicate (length (part (2 * n) (3 * n - 2 * n) s)) fresh_power
    → z ≡ replicate (length (part m (length t - m) t)) f0
    → splice m (length t - m) t z ≡ bank_floats (fresh_bank n)
fresh_floats n b l x y z long e d₁ d₂ d₃ =
    let m = 4 * n + b in
    let s = x ++ drop m l in
    let t = splice (2 * n) (3 * n - 2 * n) s y in
    let x' : x ≡ replicate m hist_min = d₁ ∙ ap (λ (k : ℕ). replicate k hist_min) (length-take-le m l (omega arith)) in
    let ls : length s ≡ length l =
    ap (λ (r : List Float). length (r ++ drop m l)) x' ∙ simp (length-append, length-replicate, length-drop) (omega arith) in
    let w : 3 * n - 2 * n ≡ n = omega arith in
    let y' : y ≡ replicate n fresh_power =
    d₂ ∙ ap (λ (k : ℕ). replicate k fresh_power) (ap (λ (k : ℕ). length (part (2 * n) k s)) w ∙ length_part (2 * n) n s (omega arith)) in
    let t' : t ≡ splice (2 * n) n s (replicate n fresh_power) = ap (λ (k : ℕ). splice (2 * n) k s y) w ∙ ap (splice (2 * n) n s) y' in
    let lt : length t ≡ length l =
    ap length t' ∙ length-splice (2 * n) n s (replicate n fresh_power) (omega arith) (length-replicate n fresh_power) ∙ ls in
    let r : length t - m ≡ b = omega arith in
    let z' : z ≡ replicate b f0 = d₃ ∙ ap (λ (k : ℕ). replicate k f0) (ap (λ (k : ℕ). length (part m k t)) r ∙ length_part m b t (omega arith)) in
    fresh-f-store n b l s t (splice m (length t - m) t z) long e (ap (λ (q : List Float). q ++ drop m l) x') t'
    (ap (λ (k : ℕ). splice m k t z) r ∙ ap (splice m b t) z')
