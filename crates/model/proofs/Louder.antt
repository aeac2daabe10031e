-- R-10, proved: two banks that make the same slow hops, the one hearing at every hop no more than the other, keep their raw floors in order.
-- Assumes nothing.
use mathlib.Core.Path.{◌≡◌, refl, ap, ◌∙◌, subst}
use mathlib.Core.Bool.{true}
use mathlib.Core.List.{List, [], ◌∷◌}
use Prim.Native.Nat.{ℕ, zero, suc, ◌+◌, ◌%◌, ◌<◌}
use native.Mathlib.Omega.{arith}
use lib.ListN.{length, get_or, get_or-replicate}
use lib.Ieee.{le}
use Rattle.laws.proofs.Tabs.{get_d-tab}
use Rattle.model.specs.Numbers.{f0}
use Rattle.model.specs.Layout.{hist_min, decimation_hops}
use Rattle.model.specs.Ring.{bin_of, raw_floor}
use Rattle.model.specs.Bank.{FloorBank, Hop, fresh_channel, fresh_bank, channel, seeds_after, chans_after, raw_floors, fast_step, slow_step, step_at, bank_step}
use Rattle.model.specs.Readings.{raw_at}
use Rattle.model.specs.GoodBank.{Good}
use Rattle.model.specs.Demand3.{bank_hops, made}
use Rattle.model.specs.Louder.{HopAtLeast, AtLeast, Higher, LouderHigher, LouderAmong}
use Rattle.model.proofs.FreshBanks.{good-slow, good-step, channel-slow}
use Rattle.model.proofs.SettledFloors.{run_bank, n-step}
use Rattle.model.proofs.Made.{good-bank, bank-hears}
use Rattle.model.proofs.BinOrder.{louder-bin}
use Rattle.model.proofs.LouderRings.{LowerRing, same-ring, raw-lower, push-lower, bottom-itself}

-- ---- two banks

record Quieter (b d : FloorBank) : Type 0 where
  same_n : b.n ≡ d.n
  same_phase : b.phase ≡ d.phase
  rings : (k : ℕ) → k < b.n → LowerRing (channel b k) (channel d k)
  raw : (k : ℕ) → k < b.n → le (raw_at b k) (raw_at d k) ≡ true

fresh-quieter : (n : ℕ) → Quieter (fresh_bank n) (fresh_bank n)
unfolding fresh_bank
fresh-quieter n =
    record {
      same_n = refl;
      same_phase = refl;
      rings = λ k h. same-ring (channel (fresh_bank n) k);
      raw = λ k h. rw (get_or-replicate n k hist_min f0 h) bottom-itself;
    }

fast-quieter : (b d : FloorBank) (h i : Hop) → Quieter b d → Quieter (fast_step b h) (fast_step d i)
unfolding fast_step
fast-quieter b d h i o =
    record { same_n = o.same_n; same_phase = ap (λ (p : ℕ). (p + 1) % decimation_hops) o.same_phase; rings = o.rings; raw = o.raw }

raw-slow : (b : FloorBank) (h : Hop) (k : ℕ) → k < b.n → raw_at (slow_step b h) k ≡ raw_floor (channel (slow_step b h) k)
unfolding slow_step raw_floors
raw-slow b h k l = get_d-tab b.n (λ k. raw_floor (get_or (chans_after b (seeds_after b h.db) h.db) k fresh_channel)) k f0 l

slow-quieter : (b d : FloorBank) (h i : Hop) → Good b → Quieter b d → HopAtLeast b.n h i → Quieter (slow_step b h) (slow_step d i)
slow-quieter b d h i g o q =
    record {
      same_n = (unfold slow_step in o.same_n);
      same_phase = (unfold slow_step in ap (λ (p : ℕ). (p + 1) % decimation_hops) o.same_phase);
      rings = λ k l. pushed k (unfold slow_step in l);
      raw =
          λ k l.
          (let m : k < b.n = (unfold slow_step in l) in
          rw (raw-slow b h k m, raw-slow d i k (omega (arith, o.same_n)))
          (raw-lower (channel (slow_step b h) k) (channel (slow_step d i) k) ((good-slow b h g).sound k l) (pushed k m)));
    }
  where
    pushed : (k : ℕ) → k < b.n → LowerRing (channel (slow_step b h) k) (channel (slow_step d i) k)
    pushed k l =
        rw (channel-slow b h k l, channel-slow d i k (omega (arith, o.same_n)))
        (push-lower _ _ _ (channel b k) (channel d k) (bin_of (get_or h.db k f0)) (bin_of (get_or i.db k f0)) (o.rings k l)
        (louder-bin (get_or h.db k f0) (get_or i.db k f0) (q k l)))

-- both are slow, or neither
step-quieter : (b d : FloorBank) (h i : Hop) → Good b → Quieter b d → HopAtLeast b.n h i → Quieter (bank_step b h) (bank_step d i)
unfolding bank_step
step-quieter b d h i g o q = subst (λ (p : ℕ). Quieter (step_at b.phase b h) (step_at p d i)) o.same_phase (go b.phase)
  where
    go : (p : ℕ) → Quieter (step_at p b h) (step_at p d i)
    go zero = slow-quieter b d h i g o q
    go (suc p) = fast-quieter b d h i o

-- ---- lists of hops, and of calls

run-higher : (n : ℕ) (hs is : List Hop) (b d : FloorBank) → b.n ≡ n → Good b → Quieter b d → length hs ≡ length is → AtLeast n hs is
    → Higher n (run_bank b hs) (run_bank d is)
run-higher n [] [] b d m g o e q k l = o.raw k (omega arith)
run-higher n [] (i ∷ is) b d m g o e q k l = absurd (omega arith)
run-higher n (h ∷ hs) [] b d m g o e q k l = absurd (omega arith)
run-higher n (h ∷ hs) (i ∷ is) b d m g o e q k l =
    run-higher n hs is (bank_step b h) (bank_step d i) (n-step b h ∙ m) (good-step b h g) (step-quieter b d h i g o (λ k l. q.0 k (omega arith))) (omega arith)
    q.1 k l

pub louder-among : LouderAmong
louder-among k l p q e f n cs ds m a =
    let d : Quieter (fresh_bank k.n) (fresh_bank l.n) = subst (λ (j : ℕ). Quieter (fresh_bank k.n) (fresh_bank j)) n (fresh-quieter k.n) in
    rw (bank-hears k p e cs, bank-hears l q f ds)
    (run-higher k.n (bank_hops (made k p) cs) (bank_hops (made l q) ds) (fresh_bank k.n) (fresh_bank l.n) (unfold fresh_bank in refl) (good-bank k p e) d m a)

pub louder-higher : LouderHigher
louder-higher k l p q cs ds h =
    louder-among k l p q h.first_fresh h.second_fresh h.equal_n cs ds (omega (arith, h.first_accepted, h.second_accepted, h.equal_length))
    h.at_least
