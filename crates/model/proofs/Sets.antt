-- A set that was fresh is sound whatever it heard, and the conditions of demand 3 can be met. Assumes nothing.
use mathlib.Core.Path.{◌≡◌, refl, ap, ◌∙◌}
use mathlib.Core.List.{List, [], ◌∷◌, ◌++◌}
use mathlib.Core.Bool.{true, false}
use Prim.Native.Nat.{ℕ, zero, suc, ◌≤◌}
use native.Mathlib.Omega.{arith}
use lib.ListN.{length, replicate, length-replicate}
use lib.Dec.{eqb}
use lib.IntN.{pos}
use lib.Ieee.{add, sub, sum, neg, round, odd, units, size, span, climb, of_fields, mul, lt, le, is_nan, of_bits}
use lib.Count.{count_trailing_zeros}
use Rattle.laws.specs.Tests.{all_below, any_below}
use Rattle.laws.proofs.Tests.{by-test}
use Rattle.model.specs.Numbers.{f0}
use Rattle.model.specs.Layout.{settling_hops}
use Rattle.model.specs.Bank.{FloorBank, Hop, median, first_at, ranked, fresh_bank}
use Rattle.model.specs.Stores.{bank_len, bank_f_len}
use Rattle.model.specs.Refusals.{make_refusal, garbled}
use Rattle.model.specs.Calls.{bank_new_call}
use Rattle.model.specs.Gate.{Gate, distinct, fresh_gate}
use Rattle.model.specs.GateCalls.{GateHop, good_lengths, stored, floats_for, gate_make_refusal, settings_of, gate_new_call}
use Rattle.model.specs.Demand3.{Call, asked_by, bank, gate, Stores, Lent, answer, left, with, bank_hop, gate_hop, bank_hops, gate_hops, loud, first_slow_loud, bank_in, Making, new_bank, new_gate, new_worst, made, Made, Enough}
use Rattle.model.specs.Map.{map_long}
use Rattle.model.specs.Worst.{worst_f_len}
use Rattle.model.specs.WorstCalls.{worst_make_refusal, worst_new_call}
use Rattle.roles.specs.Rights.{technician, as_role}
use Rattle.model.specs.Sets.{gate_in, Sound, StaySound, CanBeMet}
use Rattle.model.proofs.FreshGates.{bare}
use Rattle.model.proofs.SettledFloors.{n-run}
use Rattle.model.proofs.Rises.{make-run}
use Rattle.model.proofs.Calls.{sound-bank, left-bank, sound-left, bare-left, sound-run, refuse, refuse_asked, answer-is}
use Rattle.model.proofs.Made.{sound-made, bank-made, gate-made, can-have-map}

pub stay-sound : StaySound
stay-sound k p d cs = sound-run cs (made k p) (sound-made k p d)

-- ---- two channels, one length of 1, levels 0, early absent; W of 3; each bank update carries R-6's store and each gate update the map

two : Making
two = record { n = 2; gate_n = 2; on = pos 0; off = pos 0; early = pos 65535; lengths = 1 ∷ [] }

-- lent stores of the right lengths
lent_stores : Stores
lent_stores =
    record {
      bu = replicate (bank_len 2) 0;
      bf = replicate (bank_f_len 2) f0;
      gu = replicate 30 0;
      gf = replicate (floats_for 2 (1 ∷ [])) f0;
      wu = replicate 4 0;
      wf = replicate (worst_f_len 2 3) f0;
      map = replicate (map_long 2) 0;
    }

lent : Lent
lent = record { stores = lent_stores; W = 3 }

two_made : Made two lent
unfolding two lent_stores lent new_bank new_gate new_worst bank_new_call gate_new_call worst_new_call make_refusal gate_make_refusal worst_make_refusal good_lengths stored distinct
two_made = record { bank = refl; gate = refl; worst = refl; map = can-have-map two lent refl (length-replicate {A = ℕ} (map_long 2) 0) }

-- ---- its hops, all zeros

abbrev zeros : Hop
zeros = record { held = false; db = f0 ∷ f0 ∷ []; power = f0 ∷ f0 ∷ [] }

abbrev gate_zeros : GateHop
gate_zeros = record { db = f0 ∷ f0 ∷ []; power = f0 ∷ f0 ∷ [] }

abbrev bank_call : Call
bank_call = asked_by technician (bank true zeros)

abbrev gate_call : Call
gate_call = asked_by technician (gate true gate_zeros (0 ∷ 0 ∷ []) (0 ∷ 0 ∷ []))

abbrev calls : ℕ → ℕ → List Call
calls i j = replicate i bank_call ++ replicate j gate_call

zeros-loud : loud 2 zeros.db ≡ true
unfolding loud all_below median first_at ranked add sub mul neg lt le is_nan of_bits round sum odd units size span climb of_fields count_trailing_zeros
zeros-loud = refl

not-garbled : garbled 2 zeros.db ≡ false
unfolding garbled any_below is_nan of_bits of_fields
not-garbled = refl

-- ---- each of them is accepted

record Two (s : Stores) : Type 0 where
  sound : Sound s
  n : (bank_in s).n ≡ 2
  gate_n : (gate_in s).n ≡ 2

two-left : (s : Stores) → Two s → (c : Call) → Two (left s c)
two-left s t c =
    let l = left-bank s (sound-bank s t.sound) c in
    record {
      sound = sound-left s c t.sound;
      n = ap (λ (b : FloorBank). b.n) l.bank_is ∙ n-run (bank_hop (answer s c) (with c.asked)) (bank_in s) ∙ t.n;
      gate_n = ap (λ (g : Gate). g.n) (bare-left s c t.sound) ∙ (make-run (gate_hop (answer s c) (with c.asked)) (bare (gate_in s))).n ∙ t.gate_n;
    }

bank-taken : (s : Stores) → Two s → answer s bank_call ≡ 0
unfolding refuse refuse_asked as_role
bank-taken s t = answer-is s t.sound bank_call ∙ by-test (eqb (bank_in s).phase 0) (λ q. rw (t.n, q, not-garbled)) (λ q. rw (t.n, q))

gate-taken : (s : Stores) → Two s → answer s gate_call ≡ 0
unfolding refuse refuse_asked as_role
gate-taken s t = answer-is s t.sound gate_call ∙ rw (t.n, t.gate_n)

gates-taken : (j : ℕ) (s : Stores) → Two s → length (gate_hops s (replicate j gate_call)) ≡ j
gates-taken zero s t = refl
gates-taken (suc j) s t =
    ap (λ (r : ℕ). length (gate_hop r (with gate_call.asked) ++ gate_hops (left s gate_call) (replicate j gate_call))) (gate-taken s t)
    ∙ ap suc (gates-taken j (left s gate_call) (two-left s t gate_call))

both-taken : (i j : ℕ) (s : Stores) → Two s → (i ≤ length (bank_hops s (calls i j))) × (j ≤ length (gate_hops s (calls i j)))
both-taken zero j s t = (omega arith, omega (arith, gates-taken j s t))
both-taken (suc i) j s t =
    let h = both-taken i j (left s bank_call) (two-left s t bank_call) in
    let b = ap (λ (r : ℕ). length (bank_hop r (with bank_call.asked) ++ bank_hops (left s bank_call) (calls i j))) (bank-taken s t) in
    let g = ap (λ (r : ℕ). length (gate_hop r (with bank_call.asked) ++ gate_hops (left s bank_call) (calls i j))) (bank-taken s t) in
    (omega (arith, h.0, b), omega (arith, h.1, g))

first-loud : (i j : ℕ) (s : Stores) → Two s → first_slow_loud 2 0 (bank_hops s (calls (suc i) j)) ≡ true
first-loud i j s t =
    ap (λ (r : ℕ). first_slow_loud 2 0 (bank_hop r (with bank_call.asked) ++ bank_hops (left s bank_call) (calls i j))) (bank-taken s t) ∙ zeros-loud

two-fresh : Two (made two lent)
two-fresh =
    record {
      sound = sound-made two lent two_made;
      n = ap (λ (b : FloorBank). b.n) (bank-made two lent two_made.bank) ∙ (unfold fresh_bank two in refl);
      gate_n = ap (λ (g : Gate). g.n) (gate-made two lent two_made.gate) ∙ (unfold fresh_gate settings_of two in refl);
    }

enough : (i j : ℕ) → settling_hops ≤ suc i → 1500 ≤ j → Enough 2 0 (made two lent) (calls (suc i) j)
enough i j b g =
    let h = both-taken (suc i) j (made two lent) two-fresh in
    record { enough_bank_updates = omega (arith, h.0); enough_gate_updates = omega (arith, h.1); slow_hop = first-loud i j (made two lent) two-fresh }

pub can-be-met : CanBeMet
unfolding two
can-be-met = (two, lent, calls (suc settling_hops) 1500, two_made, refl, enough settling_hops 1500 (omega arith) (omega arith))
