-- A bank in its two stores: a store of the right length is its bank's, and what a part of an encoded store reads and replaces.
-- Assumes nothing.
use mathlib.Core.Path.{◌≡◌, refl, sym, ap, ◌∙◌}
use mathlib.Core.List.{List, [], ◌∷◌, ◌++◌, map}
use Prim.Native.Nat.{ℕ, ◌+◌, ◌*◌, ◌<◌, ◌≤◌}
use native.Mathlib.Omega.{arith}
use lib.ListN.{length, get_or, drop, set, length-drop}
use lib.Seq.{take_all}
use lib.Ieee.{Float}
use Rattle.laws.specs.Lists.{part, splice, tab, joined}
use Rattle.laws.proofs.Lists.{length_part, part-mid, splice-mid, row}
use Rattle.laws.proofs.Tabs.{tab-ext, map-tab}
use Rattle.laws.proofs.Joined.{joined-parts, part-joined, parts_meet, part-skip, splice-skip, part-last, splice-last}
use Rattle.model.specs.Layout.{channel_len}
use Rattle.model.specs.Bank.{blocks}
use Rattle.model.specs.Stores.{chan_u, chan_of, bank_u16s, bank_floats, bank_of, base, chan_part, bank_len, bank_f_len}
use Rattle.model.proofs.Channels.{chan-forth}

-- ---- a store of the right length is its bank's

header : (u : List ℕ) → 3 ≤ length u → u ≡ get_or u 0 0 ∷ get_or u 1 0 ∷ get_or u 2 0 ∷ drop 3 u
header [] e = absurd (omega arith)
header (a ∷ []) e = absurd (omega arith)
header (a ∷ b ∷ []) e = absurd (omega arith)
header (a ∷ b ∷ c ∷ u) e = refl

-- the channels, read and written again
channels-forth : (u : List ℕ) (n : ℕ) → length u ≡ bank_len n → joined (map chan_u (tab n (λ k. chan_of (chan_part n u k)))) ≡ part (base n) (channel_len * n) u
channels-forth u n e =
    ap joined
    (map-tab chan_u n (λ k. chan_of (chan_part n u k))
    ∙ tab-ext n (λ k. chan_u (chan_of (chan_part n u k))) (chan_part n u)
    (λ k h. chan-forth (chan_part n u k) (length_part (base n + channel_len * k) channel_len u (omega (arith, row channel_len k n h)))))
    ∙ joined-parts (base n) channel_len n u

pub bank-forth-u : (u : List ℕ) (f : List Float) → length u ≡ bank_len (get_or u 0 0) → bank_u16s (bank_of u f) ≡ u
unfolding bank_of
bank-forth-u u f e =
    ap (λ (r : List ℕ). get_or u 0 0 ∷ get_or u 1 0 ∷ get_or u 2 0 ∷ (part 3 B u ++ r)) (channels-forth u N e)
    ∙ ap (λ (r : List ℕ). get_or u 0 0 ∷ get_or u 1 0 ∷ get_or u 2 0 ∷ r)
    (parts_meet 3 B (3 + B) (channel_len * N) u refl ∙ take_all (B + channel_len * N) (drop 3 u) (omega (arith, length-drop 3 u)))
    ∙ sym (header u (omega arith))
  where
    N : ℕ
    N = get_or u 0 0

    B : ℕ
    B = blocks (get_or u 0 0)

pub bank-forth-f : (u : List ℕ) (f : List Float) → length f ≡ bank_f_len (get_or u 0 0) → bank_floats (bank_of u f) ≡ f
unfolding bank_of
bank-forth-f u f e =
    ap (λ (r : List Float). part 0 N f ++ (part N N f ++ (part (2 * N) N f ++ (part (3 * N) N f ++ r)))) (parts_meet (4 * N) B (4 * N + B) B f refl)
    ∙ ap (λ (r : List Float). part 0 N f ++ (part N N f ++ (part (2 * N) N f ++ r))) (parts_meet (3 * N) N (4 * N) (B + B) f (omega arith))
    ∙ ap (λ (r : List Float). part 0 N f ++ (part N N f ++ r)) (parts_meet (2 * N) N (3 * N) (N + (B + B)) f (omega arith))
    ∙ ap (λ (r : List Float). part 0 N f ++ r) (parts_meet N N (2 * N) (N + (N + (B + B))) f (omega arith))
    ∙ parts_meet 0 N N (N + (N + (N + (B + B)))) f (omega arith)
    ∙ take_all (N + (N + (N + (N + (B + B))))) f (omega arith)
  where
    N : ℕ
    N = get_or u 0 0

    B : ℕ
    B = blocks (get_or u 0 0)

-- ---- the f64 store: raw, usable, smooth, rise (n each), block floors, seed sums (B each)

pub record Lengths (n B : ℕ) (raw usable smooth rise block_floor sums : List Float) : Type 0 where
  pub raw_long : length raw ≡ n
  pub usable_long : length usable ≡ n
  pub smooth_long : length smooth ≡ n
  pub rise_long : length rise ≡ n
  pub block_floor_long : length block_floor ≡ B
  pub sums_long : length sums ≡ B

module _ {n B : ℕ} {raw usable smooth rise block_floor sums : List Float} (s : Lengths n B raw usable smooth rise block_floor sums) where
  pub get_raw : part 0 n (raw ++ (usable ++ (smooth ++ (rise ++ (block_floor ++ sums))))) ≡ raw
  get_raw = part-mid [] raw _ 0 n refl s.raw_long

  pub get-usable : part n n (raw ++ (usable ++ (smooth ++ (rise ++ (block_floor ++ sums))))) ≡ usable
  get-usable = part-mid raw usable _ n n s.raw_long s.usable_long

  pub get-smooth : part (2 * n) n (raw ++ (usable ++ (smooth ++ (rise ++ (block_floor ++ sums))))) ≡ smooth
  get-smooth =
      part-skip raw _ n n (2 * n) n s.raw_long (omega arith)
      ∙ part-mid usable smooth _ n n s.usable_long s.smooth_long

  pub get-rise : part (3 * n) n (raw ++ (usable ++ (smooth ++ (rise ++ (block_floor ++ sums))))) ≡ rise
  get-rise =
      part-skip raw _ n (2 * n) (3 * n) n s.raw_long (omega arith)
      ∙ part-skip usable _ n n (2 * n) n s.usable_long (omega arith)
      ∙ part-mid smooth rise _ n n s.smooth_long s.rise_long

  pub get-block : part (4 * n) B (raw ++ (usable ++ (smooth ++ (rise ++ (block_floor ++ sums))))) ≡ block_floor
  get-block =
      part-skip raw _ n (3 * n) (4 * n) B s.raw_long (omega arith)
      ∙ part-skip usable _ n (2 * n) (3 * n) B s.usable_long (omega arith)
      ∙ part-skip smooth _ n n (2 * n) B s.smooth_long (omega arith)
      ∙ part-mid rise block_floor sums n B s.rise_long s.block_floor_long

  pub get-sums : part (4 * n + B) B (raw ++ (usable ++ (smooth ++ (rise ++ (block_floor ++ sums))))) ≡ sums
  get-sums =
      part-skip raw _ n (3 * n + B) (4 * n + B) B s.raw_long (omega arith)
      ∙ part-skip usable _ n (2 * n + B) (3 * n + B) B s.usable_long (omega arith)
      ∙ part-skip smooth _ n (n + B) (2 * n + B) B s.smooth_long (omega arith)
      ∙ part-skip rise _ n B (n + B) B s.rise_long (omega arith)
      ∙ part-last block_floor sums B B s.block_floor_long s.sums_long

  pub put-raw : (x : List Float) → splice 0 n (raw ++ (usable ++ (smooth ++ (rise ++ (block_floor ++ sums))))) x
      ≡ x ++ (usable ++ (smooth ++ (rise ++ (block_floor ++ sums))))
  put-raw x = splice-mid [] raw _ x 0 n refl s.raw_long

  pub put-usable : (x : List Float) → splice n n (raw ++ (usable ++ (smooth ++ (rise ++ (block_floor ++ sums))))) x
      ≡ raw ++ (x ++ (smooth ++ (rise ++ (block_floor ++ sums))))
  put-usable x = splice-mid raw usable _ x n n s.raw_long s.usable_long

  pub put-smooth : (x : List Float) → splice (2 * n) n (raw ++ (usable ++ (smooth ++ (rise ++ (block_floor ++ sums))))) x
      ≡ raw ++ (usable ++ (x ++ (rise ++ (block_floor ++ sums))))
  put-smooth x =
      splice-skip raw _ x n n (2 * n) n s.raw_long (omega arith)
      ∙ ap (λ (r : List Float). raw ++ r) (splice-mid usable smooth _ x n n s.usable_long s.smooth_long)

  pub put-rise : (x : List Float) → splice (3 * n) n (raw ++ (usable ++ (smooth ++ (rise ++ (block_floor ++ sums))))) x
      ≡ raw ++ (usable ++ (smooth ++ (x ++ (block_floor ++ sums))))
  put-rise x =
      splice-skip raw _ x n (2 * n) (3 * n) n s.raw_long (omega arith)
      ∙ ap (λ (r : List Float). raw ++ r)
      (splice-skip usable _ x n n (2 * n) n s.usable_long (omega arith)
      ∙ ap (λ (r : List Float). usable ++ r) (splice-mid smooth rise _ x n n s.smooth_long s.rise_long))

  pub put-block : (x : List Float) → splice (4 * n) B (raw ++ (usable ++ (smooth ++ (rise ++ (block_floor ++ sums))))) x
      ≡ raw ++ (usable ++ (smooth ++ (rise ++ (x ++ sums))))
  put-block x =
      splice-skip raw _ x n (3 * n) (4 * n) B s.raw_long (omega arith)
      ∙ ap (λ (r : List Float). raw ++ r)
      (splice-skip usable _ x n (2 * n) (3 * n) B s.usable_long (omega arith)
      ∙ ap (λ (r : List Float). usable ++ r)
      (splice-skip smooth _ x n n (2 * n) B s.smooth_long (omega arith)
      ∙ ap (λ (r : List Float). smooth ++ r) (splice-mid rise block_floor sums x n B s.rise_long s.block_floor_long)))

  pub put-sums : (x : List Float) → splice (4 * n + B) B (raw ++ (usable ++ (smooth ++ (rise ++ (block_floor ++ sums))))) x
      ≡ raw ++ (usable ++ (smooth ++ (rise ++ (block_floor ++ x))))
  put-sums x =
      splice-skip raw _ x n (3 * n + B) (4 * n + B) B s.raw_long (omega arith)
      ∙ ap (λ (r : List Float). raw ++ r)
      (splice-skip usable _ x n (2 * n + B) (3 * n + B) B s.usable_long (omega arith)
      ∙ ap (λ (r : List Float). usable ++ r)
      (splice-skip smooth _ x n (n + B) (2 * n + B) B s.smooth_long (omega arith)
      ∙ ap (λ (r : List Float). smooth ++ r)
      (splice-skip rise _ x n B (n + B) B s.rise_long (omega arith)
      ∙ ap (λ (r : List Float). rise ++ r) (splice-last block_floor sums x B B s.block_floor_long s.sums_long))))

-- ---- the u16 store: n, phase, started, the seed pushes (B), the channels (w)

module _ (n phase started B w : ℕ) (seeds chans : List ℕ) (long : length seeds ≡ B) (wide : length chans ≡ w) where
  pub get-seeds : part 3 B (n ∷ phase ∷ started ∷ (seeds ++ chans)) ≡ seeds
  get-seeds = part-mid (n ∷ phase ∷ started ∷ []) seeds chans 3 B refl long

  pub put-seeds : (x : List ℕ) → splice 3 B (n ∷ phase ∷ started ∷ (seeds ++ chans)) x ≡ n ∷ phase ∷ started ∷ (x ++ chans)
  put-seeds x = splice-mid (n ∷ phase ∷ started ∷ []) seeds chans x 3 B refl long

  pub put-chans : (x : List ℕ) → splice (3 + B) w (n ∷ phase ∷ started ∷ (seeds ++ chans)) x ≡ n ∷ phase ∷ started ∷ (seeds ++ x)
  put-chans x = splice-last (n ∷ phase ∷ started ∷ seeds) chans x (3 + B) w (omega arith) wide

pub set-phase : (n phase started x : ℕ) (l : List ℕ) → set (n ∷ phase ∷ started ∷ l) 1 x ≡ n ∷ x ∷ started ∷ l
set-phase n phase started x l = refl

pub set-started : (n phase started x : ℕ) (l : List ℕ) → set (n ∷ phase ∷ started ∷ l) 2 x ≡ n ∷ phase ∷ x ∷ l
set-started n phase started x l = refl

-- channel k of m
pub get-chan : (n phase started B m k : ℕ) (seeds : List ℕ) (cs : ℕ → List ℕ) → length seeds ≡ B → ((j : ℕ) → j < m → length (cs j) ≡ channel_len) → k < m
    → part (3 + B + channel_len * k) channel_len (n ∷ phase ∷ started ∷ (seeds ++ joined (tab m cs))) ≡ cs k
get-chan n phase started B m k seeds cs long wide h =
    part-skip (n ∷ phase ∷ started ∷ seeds) (joined (tab m cs)) (3 + B) (channel_len * k) (3 + B + channel_len * k) channel_len (omega arith) refl
    ∙ part-joined channel_len m k cs wide h
