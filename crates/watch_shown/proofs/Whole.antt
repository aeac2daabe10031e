-- The same of a run that is not refused, after each of its hops. Assumes nothing.
use mathlib.Core.Path.{◌≡◌, refl, sym, ap, ap₂, ◌∙◌}
use mathlib.Core.Bool.{false}
use mathlib.Core.List.{List, [], ◌∷◌}
use Prim.Native.Nat.{ℕ, zero, suc, ◌+◌, ◌%◌, ◌≤◌}
use native.Mathlib.Omega.{arith}
use lib.ListN.{length, get_or, take, length-take}
use lib.Ieee.{Float}
use Rattle.model.specs.Bank.{FloorBank}
use Rattle.model.specs.Demand3.{Stores, bank_in}
use Rattle.model.specs.Sets.{gate_in}
use Rattle.run_model.specs.Runs.{Run, RunHop, garbled_run}
use Rattle.run_model.specs.Hops.{Fit, hop_left}
use Rattle.run_model.specs.Claims.{refusal_on}
use Rattle.run_model.proofs.Taken.{fit_of}
use Rattle.run_model.proofs.Runs.{AllLong, hops-long, hop-fits, hop-phase, first-clear, rest-clear}
use Rattle.run_model.proofs.Claims.{passes, run_long, hops-many}
use Rattle.watch_shown.specs.AsCalls.{Taken, SameFloors, hops_in, after, smoothed_by, ShownSmoothed, ShownFloors}
use Rattle.watch_shown.proofs.AsCalls.{smoothed-as-calls, floors-stay}

-- each hop is taken by what those before it left
abbrev AllTaken : ℕ → Stores → List RunHop → Type 0
AllTaken n s [] = Unit {0}
AllTaken n s (h ∷ hs) = Taken n s h × AllTaken n (hop_left s h) hs

all-taken : (n : ℕ) (hs : List RunHop) (s : Stores) → Fit n s → AllLong n hs → garbled_run n (get_or s.bu 1 0) hs ≡ false → AllTaken n s hs
all-taken n [] s v l g = tt
all-taken n (h ∷ hs) s v l g =
    let c = first-clear n s h hs g in (
      record { fit = v; long = l.0; clear = c },
      all-taken n hs (hop_left s h) (hop-fits n s v h l.0 c) l.1 (ap (λ (q : ℕ). garbled_run n q hs) (hop-phase n s v h l.0 c) ∙ rest-clear n s h hs g),
    )

run-taken : (s : Stores) (r : Run) → refusal_on s r ≡ 0 → AllTaken (get_or s.gu 0 0) s (hops_in s r)
run-taken s r e =
    let n = get_or s.gu 0 0 in
    let p = passes s r e in
    let q = run_long n r p.long in
    all-taken n (hops_in s r) s (fit_of s p.pair) (hops-long n r.hold r.db r.power r.rise r.drop q.0 q.1 q.2 q.3) p.clear

some-taken : (n i : ℕ) (hs : List RunHop) (s : Stores) → AllTaken n s hs → AllTaken n s (take i hs)
some-taken n zero hs s t = tt
some-taken n (suc i) [] s t = tt
some-taken n (suc i) (h ∷ hs) s t = (t.0, some-taken n i hs (hop_left s h) t.1)

-- ---- the smoothed dB

smoothed-all : (n : ℕ) (hs : List RunHop) (s : Stores) → AllTaken n s hs
    → ((gate_in (after s hs)).started, (gate_in (after s hs)).smooth) ≡ smoothed_by (gate_in s).started (gate_in s).smooth hs
smoothed-all n [] s t = refl
smoothed-all n (h ∷ hs) s t =
    let q = smoothed-as-calls n s h t.0 in
    smoothed-all n hs (hop_left s h) t.1 ∙ ap₂ (λ (x : ℕ) (l : List Float). smoothed_by x l hs) q.started q.smooth

pub shown-smoothed : ShownSmoothed
shown-smoothed s r e i =
    let n = get_or s.gu 0 0 in
    smoothed-all n (take i (hops_in s r)) s (some-taken n i (hops_in s r) s (run-taken s r e))

-- ---- the floors

same : (b : FloorBank) → SameFloors b b
same b = record { n = refl; seeds = refl; chans = refl; raw = refl; usable = refl; rise = refl; block_floor = refl; seed_sum = refl }

then : (a b c : FloorBank) → SameFloors a b → SameFloors b c → SameFloors a c
then a b c p q =
    record {
      n = q.n ∙ p.n;
      seeds = q.seeds ∙ p.seeds;
      chans = q.chans ∙ p.chans;
      raw = q.raw ∙ p.raw;
      usable = q.usable ∙ p.usable;
      rise = q.rise ∙ p.rise;
      block_floor = q.block_floor ∙ p.block_floor;
      seed_sum = q.seed_sum ∙ p.seed_sum;
    }

back : (a b : FloorBank) → SameFloors a b → SameFloors b a
back a b p =
    record {
      n = sym p.n;
      seeds = sym p.seeds;
      chans = sym p.chans;
      raw = sym p.raw;
      usable = sym p.usable;
      rise = sym p.rise;
      block_floor = sym p.block_floor;
      seed_sum = sym p.seed_sum;
    }

-- a hop before which, with one more behind it, no slow hop comes: the next is not slow either
next-phase : (n : ℕ) (s : Stores) (h : RunHop) → Taken n s h → get_or s.bu 1 0 + 2 ≤ 15 → get_or (hop_left s h).bu 1 0 ≡ get_or s.bu 1 0 + 1
next-phase n s h t le = hop-phase n s t.fit h t.long t.clear ∙ (let e : (get_or s.bu 1 0 + 1) % 15 ≡ get_or s.bu 1 0 + 1 = omega arith in e)

stay : (n : ℕ) (hs : List RunHop) (s : Stores) → AllTaken n s hs → (get_or s.bu 1 0 ≡ 0 → ⊥) → get_or s.bu 1 0 + length hs ≤ 15 → SameFloors (bank_in s) (bank_in (after s hs))
stay n [] s t z le = same (bank_in s)
stay n (h ∷ []) s t z le = floors-stay n s h t.0 z
stay n (h ∷ k ∷ hs) s t z le =
    let p = next-phase n s h t.0 (omega (arith, le)) in
    then (bank_in s) (bank_in (hop_left s h)) (bank_in (after (hop_left s h) (k ∷ hs))) (floors-stay n s h t.0 z)
    (stay n (k ∷ hs) (hop_left s h) t.1 (λ e. omega (arith, p, e)) (omega (arith, p, le)))

-- from the second hop on: after j of these, and after all
later : (n j : ℕ) (hs : List RunHop) (s : Stores) (h : RunHop) → Taken n s h → AllTaken n (hop_left s h) hs → get_or s.bu 1 0 + suc (length hs) ≤ 15
    → SameFloors (bank_in (after (hop_left s h) (take j hs))) (bank_in (after (hop_left s h) hs))
later n zero [] s h t a le = same (bank_in (hop_left s h))
later n (suc j) [] s h t a le = same (bank_in (hop_left s h))
later n j (k ∷ hs) s h t a le =
    let u = hop_left s h in
    let p = next-phase n s h t (omega (arith, le)) in
    let z : get_or u.bu 1 0 ≡ 0 → ⊥ = λ e. omega (arith, p, e) in
    let few : length (take j (k ∷ hs)) ≤ length (k ∷ hs) = omega (arith, length-take j (k ∷ hs)) in
    then (bank_in (after u (take j (k ∷ hs)))) (bank_in u) (bank_in (after u (k ∷ hs)))
    (back (bank_in u) (bank_in (after u (take j (k ∷ hs)))) (stay n (take j (k ∷ hs)) u (some-taken n j (k ∷ hs) u a) z (omega (arith, p, le, few))))
    (stay n (k ∷ hs) u a z (omega (arith, p, le)))

pub shown-floors : ShownFloors
shown-floors s r e le i one = go i (hops_in s r) (run-taken s r e) (omega (arith, le, hops-many (get_or s.gu 0 0) r.hold r.db r.power r.rise r.drop)) one
  where
    go : (i : ℕ) (hs : List RunHop) → AllTaken (get_or s.gu 0 0) s hs → get_or s.bu 1 0 + length hs ≤ 15 → 1 ≤ i → SameFloors (bank_in (after s (take i hs))) (bank_in (after s hs))
    go zero hs t le one = absurd (let z : ⊥ = omega (arith, one) in z)
    go (suc i) [] t le one = same (bank_in s)
    go (suc i) (h ∷ hs) t le one = later (get_or s.gu 0 0) i hs s h t.0 t.1 le
