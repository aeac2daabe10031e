-- R-10's conditions can be met: by two lists after which a raw floor has risen, and by two after which a usable and an effective floor have fallen.
-- Assumes nothing.
use mathlib.Core.Path.{◌≡◌, refl, sym, ap, ◌∙◌, subst₂}
use mathlib.Core.Bool.{true, false}
use mathlib.Core.List.{List, [], ◌∷◌, ◌++◌}
use Prim.Native.Nat.{ℕ, zero, suc}
use native.Mathlib.Omega.{arith}
use lib.Dec.{eqb}
use lib.ListN.{length, replicate}
use lib.IntN.{pos}
use lib.Ieee.{Float, lt, le, eq, is_nan, neg, add, sub, mul, div, of_bits, of_int, round, sum, odd, units, size, span, climb, of_fields}
use lib.Count.{count_trailing_zeros}
use Rattle.laws.specs.Tests.{any_below}
use Rattle.laws.proofs.Tests.{by-test, and_false_r}
use Rattle.model.specs.Numbers.{f0}
use Rattle.model.specs.Layout.{hist_min, decimation_hops}
use Rattle.model.specs.Ring.{floor_held, bin_of, push, push_as, push_in, without, insert, sorted, smallest, quartile, raw_floor, usable_floor}
use Rattle.model.specs.Bank.{FloorBank, Hop, hop, first_at, ranked, median, fresh_channel, fresh_bank, seeds_after, sums_after, chans_after, raw_floors, usable_floors, block_floors, effective_floor, fast_step, slow_step, bank_step}
use Rattle.model.specs.Stores.{bank_len, bank_f_len}
use Rattle.model.specs.Readings.{effective_at}
use Rattle.model.specs.Bench.{minus}
use Rattle.model.specs.Refusals.{make_refusal, garbled}
use Rattle.model.specs.Calls.{bank_new_call}
use Rattle.roles.specs.Rights.{technician, as_role}
use Rattle.model.specs.Demand3.{Call, asked_by, bank, Stores, Lent, step, answer, left, with, bank_hop, bank_hops, bank_in, Making, new_bank, made}
use Rattle.model.specs.Louder.{HopAtLeast, AtLeast, Louder, after, Somewhere, Rises, CanRise, Falls, CanFall}
use Rattle.model.proofs.SettledFloors.{run_bank, n-run}
use Rattle.model.proofs.Calls.{SoundBank, left-bank, bank-left, bank-answer, refuse_asked}
use Rattle.model.proofs.Made.{bank-made, sound-bank-made, bank-hears}

-- ---- one channel, no gate and no store of R-6

single : Making
single = record { n = 1; gate_n = 0; on = pos 0; off = pos 0; early = pos 0; lengths = [] }

lent : Lent
lent = record { stores = record { bu = replicate (bank_len 1) 0; bf = replicate (bank_f_len 1) f0; gu = []; gf = []; wu = []; wf = []; map = [] }; W = 0 }

single-fresh : (new_bank single lent).0 ≡ 0
unfolding single lent new_bank bank_new_call make_refusal
single-fresh = refl

single-n : (bank_in (made single lent)).n ≡ 1
single-n = ap (λ (b : FloorBank). b.n) (bank-made single lent single-fresh) ∙ (unfold fresh_bank single in refl)

-- ---- its hops: m of dB x, then one of dB y

abbrev one : Float → Hop
one x = hop false (x ∷ []) (f0 ∷ [])

abbrev hops : ℕ → Float → Float → List Hop
hops zero x y = one y ∷ []
hops (suc m) x y = one x ∷ hops m x y

-- the technician's
abbrev plainly : Hop → Call
plainly h = asked_by technician (bank false h)

abbrev calls : ℕ → Float → Float → List Call
calls zero x y = plainly (one y) ∷ []
calls (suc m) x y = plainly (one x) ∷ calls m x y

-- each is accepted, since a block of one channel takes any dB
one-clear : (x : Float) → garbled 1 (x ∷ []) ≡ false
unfolding garbled any_below
one-clear x = and_false_r (is_nan x) false refl

one-taken : (s : Stores) → SoundBank s → (bank_in s).n ≡ 1 → (x : Float) → answer s (plainly (one x)) ≡ 0
unfolding step as_role refuse_asked
one-taken s v n x = bank-answer s v (one x) 0 ∙ by-test (eqb (bank_in s).phase 0) (λ t. rw (n, t, one-clear x)) (λ t. rw (n, t))

calls-taken : (m : ℕ) (x y : Float) (s : Stores) → SoundBank s → (bank_in s).n ≡ 1 → bank_hops s (calls m x y) ≡ hops m x y
calls-taken zero x y s v n = ap (λ (r : ℕ). bank_hop r (bank false (one y)) ++ []) (one-taken s v n y)
calls-taken (suc m) x y s v n =
    let c = plainly (one x) in
    let later : (bank_in (left s c)).n ≡ 1 = ap (λ (b : FloorBank). b.n) (left-bank s v c).bank_is ∙ n-run (bank_hop (answer s c) (with c.asked)) (bank_in s) ∙ n in
    ap (λ (r : ℕ). bank_hop r (with c.asked) ++ bank_hops (left s c) (calls m x y)) (one-taken s v n x)
    ∙ ap (λ (hs : List Hop). one x ∷ hs) (calls-taken m x y (left s c) (bank-left s c v) later)

-- what they leave
abbrev heard : ℕ → Float → Float → FloorBank
heard m x y = run_bank (fresh_bank 1) (hops m x y)

-- ---- two lists of them

length-hops : (m : ℕ) (x y : Float) → length (hops m x y) ≡ suc m
length-hops zero x y = refl
length-hops (suc m) x y = ap suc (length-hops m x y)

length-calls : (m : ℕ) (x y : Float) → length (calls m x y) ≡ suc m
length-calls zero x y = refl
length-calls (suc m) x y = ap suc (length-calls m x y)

one-quiet : (x y : Float) → le x y ≡ true → HopAtLeast 1 (one x) (one y)
one-quiet x y h zero l = h
one-quiet x y h (suc k) l = absurd (omega arith)

hops-quiet : (m : ℕ) (x y x' y' : Float) → le x x' ≡ true → le y y' ≡ true → AtLeast 1 (hops m x y) (hops m x' y')
hops-quiet zero x y x' y' h k = (one-quiet y y' k, tt)
hops-quiet (suc m) x y x' y' h k = (one-quiet x x' h, hops-quiet m x y x' y' h k)

taken : (m : ℕ) (x y : Float) → bank_hops (made single lent) (calls m x y) ≡ hops m x y
taken m x y = calls-taken m x y (made single lent) (sound-bank-made single lent single-fresh) single-n

calls-louder : (m : ℕ) (x y x' y' : Float) → le x x' ≡ true → le y y' ≡ true → Louder single single lent lent (calls m x y) (calls m x' y')
calls-louder m x y x' y' h k =
    record {
      first_fresh = single-fresh;
      second_fresh = single-fresh;
      equal_n = refl;
      equal_length = length-calls m x y ∙ sym (length-calls m x' y');
      first_accepted = all x y;
      second_accepted = all x' y';
      at_least = rw (taken m x y, taken m x' y') (unfold single in hops-quiet m x y x' y' h k);
    }
  where
    all : (x y : Float) → length (bank_hops (made single lent) (calls m x y)) ≡ length (calls m x y)
    all x y = ap length (taken m x y) ∙ length-hops m x y ∙ sym (length-calls m x y)

somewhere : (P : ℕ → FloorBank → FloorBank → Type 0) (m : ℕ) (x y x' y' : Float) → le x x' ≡ true → le y y' ≡ true → P 0 (heard m x y) (heard m x' y') → Somewhere P
somewhere P m x y x' y' h k t =
    (single, single, lent, lent, calls m x y, calls m x' y', 0, calls-louder m x y x' y' h k, (unfold single in omega arith), subst₂ (P 0) (sym (left_is x y)) (sym (left_is x' y')) t)
  where
    left_is : (x y : Float) → after single lent (calls m x y) ≡ heard m x y
    left_is x y = bank-hears single lent single-fresh (calls m x y) ∙ (unfold single in ap (run_bank (fresh_bank 1)) (taken m x y))

-- ---- the floors, worked out

-- One slow hop, of -100 or of -60 (with m = 0 no hop comes before it)
pub can-rise : CanRise
unfolding bin_of floor_held push push_as push_in without insert sorted smallest quartile raw_floor fresh_channel fresh_bank chans_after raw_floors slow_step bank_step add mul div neg lt le eq of_bits of_int round sum odd units size span climb of_fields count_trailing_zeros
can-rise = somewhere Rises 0 f0 (minus 100 1) f0 (minus 60 1) refl refl refl

-- Two slow hops, of -200 and -50 or of the bottom and -50. At -200 the block takes no seed, so the bin 0 is lead and left out: the usable floor is
-- that of -50. At the bottom the block takes its first seed, so the same bin 0 is an entry like any other, and the lower of two
pub can-fall : CanFall
unfolding bin_of floor_held push push_as push_in without insert sorted smallest quartile usable_floor first_at ranked median fresh_channel fresh_bank seeds_after sums_after chans_after usable_floors block_floors effective_floor slow_step fast_step bank_step effective_at add sub mul div neg lt le eq is_nan of_bits of_int round sum odd units size span climb of_fields count_trailing_zeros
can-fall = somewhere Falls decimation_hops (minus 200 1) (minus 50 1) hist_min (minus 50 1) refl refl (refl, refl)
