-- Demand 3, proved. Assumes nothing.
use mathlib.Core.Path.{◌≡◌, refl, sym, ap, ap₂, ◌∙◌, subst, subst₂}
use mathlib.Core.Bool.{true}
use mathlib.Core.List.{List, map}
use Prim.Native.Nat.{ℕ, ◌*◌, ◌%◌, ◌≤◌}
use native.Mathlib.Nat.{zero-add}
use native.Mathlib.Omega.{arith}
use lib.ListN.{length, get_or}
use lib.Ieee.{Float}
use Rattle.model.specs.Numbers.{f0}
use Rattle.model.specs.Layout.{ring_len, decimation_hops}
use Rattle.model.specs.Bank.{FloorBank, Hop, fresh_bank}
use Rattle.model.specs.Windows.{PowerLooks, step_look}
use Rattle.model.specs.Gate.{Gate, among, fresh_gate, sample_of, gate_step}
use Rattle.model.specs.GateCalls.{GateHop, good_lengths, absent, settings_of}
use Rattle.model.specs.Demand3.{Call, AskedWith, Arguments, with, bank, gate, hold, write, Stores, Lent, arguments, answer, left_by, bank_hops, gate_hops, rises_of, bank_in, Making, made, Made, SameFloors, Enough, Same, Demand3}
use Rattle.model.specs.Sets.{gate_in, Sound}
use Rattle.model.specs.Anew.{rise_bytes_anew}
use Rattle.model.specs.Remembered.{PairsTrue}
use Rattle.model.proofs.FreshGates.{bare}
use Rattle.model.proofs.Pairs.{true-fresh, update-anew, hold-anew}
use Rattle.model.proofs.SettledFloors.{run_bank, n-run, phase-run, Alike, alike-start, settles, settled-effective}
use Rattle.model.proofs.Rises.{run_gate, SameMake, make-run, started-run, looks-forget, rises-same}
use Rattle.model.proofs.Calls.{sound-bank, sound-run, true-run, bank-run, gate-run, Twins, same_answer, SameRun, same-run, judged, rises-are}
use Rattle.model.proofs.Made.{settings, stored-absent, lengths-good, bank-hears, gate-made, sound-made}

-- ---- a set that has heard hops since its bank was fresh, and others since its gate was

pub record Heard (k : Making) (s : Stores) (bs : List Hop) (gs : List GateHop) : Type 0 where
  pub sound : Sound s
  -- R-3: the pairs of two sets may differ, but they are true
  pub true_pairs : PairsTrue (gate_in s)
  pub bank : bank_in s ≡ run_bank (fresh_bank k.n) bs
  pub gate : bare (gate_in s) ≡ run_gate (bare (fresh_gate (settings k))) gs

module _ (k : Making) (s : Stores) (bs : List Hop) (gs : List GateHop) (d : Heard k s bs gs) where
  n-heard : (bank_in s).n ≡ k.n
  n-heard = ap (λ (b : FloorBank). b.n) d.bank ∙ n-run bs (fresh_bank k.n) ∙ (unfold fresh_bank in refl)

  phase-heard : (bank_in s).phase ≡ length bs % decimation_hops
  phase-heard =
      ap (λ (b : FloorBank). b.phase) d.bank
      ∙ phase-run bs (fresh_bank k.n) 0 (unfold fresh_bank in refl)
      ∙ ap (λ (i : ℕ). i % decimation_hops) (zero-add (length bs))

  pub make-heard : SameMake (bare (gate_in s)) (bare (fresh_gate (settings k)))
  make-heard = subst (λ (x : Gate). SameMake x (bare (fresh_gate (settings k)))) (sym d.gate) (make-run gs (bare (fresh_gate (settings k))))

-- two sets that have heard as many hops of the bank, modulo the slow hops, refuse the same calls
pub twins-heard : (k : Making) (s t : Stores) (xb yb : List Hop) (xg yg : List GateHop) → Heard k s xb xg → Heard k t yb yg
    → length xb % decimation_hops ≡ length yb % decimation_hops → Twins s t
twins-heard k s t xb yb xg yg hs ht eb =
    record {
      one = hs.sound;
      other = ht.sound;
      n = n-heard k s xb xg hs ∙ sym (n-heard k t yb yg ht);
      phase = phase-heard k s xb xg hs ∙ eb ∙ sym (phase-heard k t yb yg ht);
      gate_n = (make-heard k s xb xg hs).n ∙ sym (make-heard k t yb yg ht).n;
    }

make-join : (a b c : Gate) → SameMake (bare a) (bare c) → SameMake (bare b) (bare c) → SameMake a b
make-join a b c x y = record { n = x.n ∙ sym y.n; on = x.on ∙ sym y.on; early = x.early ∙ sym y.early }

-- ---- the rises of the next call

record Ready (s t : Stores) : Type 0 where
  one : PairsTrue (gate_in s)
  other : PairsTrue (gate_in t)
  make : SameMake (gate_in s) (gate_in t)
  early : (gate_in s).early ≡ 65535
  looks : (gate_in s).looks ≡ (gate_in t).looks
  started : (gate_in s).started ≡ (gate_in t).started
  rise : (bank_in s).rise ≡ (bank_in t).rise

stepped_same : (s t : Stores) → Ready s t → (db power : List Float)
    → rise_bytes_anew (gate_step (gate_in s) db power) (bank_in s) ≡ rise_bytes_anew (gate_step (gate_in t) db power) (bank_in t)
unfolding gate_step
stepped_same s t r db power =
    rises-same (gate_step (gate_in s) db power) (gate_step (gate_in t) db power) (bank_in s) (bank_in t)
    (record { n = r.make.n; on = r.make.on; early = r.make.early }) r.early
    (ap₂ (λ (n : ℕ) (l : List PowerLooks). map (step_look n (sample_of power)) l) r.make.n r.looks) refl r.rise

judged-same : (s t : Stores) → Ready s t → (a : AskedWith) → judged s a ≡ judged t a
unfolding judged
judged-same s t r (bank c h) = refl
judged-same s t r (gate c h i j) =
    update-anew (gate_in s) (bank_in s) h.db h.power r.one
    ∙ stepped_same s t r h.db h.power
    ∙ sym (update-anew (gate_in t) (bank_in t) h.db h.power r.other)
judged-same s t r (hold c i j) =
    hold-anew (gate_in s) (bank_in s) r.one
    ∙ rises-same (gate_in s) (gate_in t) (bank_in s) (bank_in t) r.make r.early r.looks r.started r.rise
    ∙ sym (hold-anew (gate_in t) (bank_in t) r.other)
judged-same s t r (write i v) = refl

next-rises : (s t : Stores) → Twins s t → Ready s t → (c d : Call) → arguments c ≡ arguments d → answer s c ≡ 0 → rises_of s c ≡ rises_of t d
next-rises s t w r c d e z =
    rises-are s w.one c z ∙ judged-same s t r (with c.asked) ∙ ap (λ (a : Arguments). judged t a.asked) e ∙ sym (rises-are t w.other d (sym (same_answer s t w c d e) ∙ z))

-- ---- demand 3

-- of two sets in s and t that have heard xb and yb since their banks were fresh, and xg and yg since their gates were
module _ (k : Making) (good : good_lengths k.lengths ≡ true) (s t : Stores) (xb yb : List Hop) (xg yg : List GateHop)
    (hs : Heard k s xb xg) (ht : Heard k t yb yg) (eb : length xb % decimation_hops ≡ length yb % decimation_hops)
    (eg : (m : ℕ) → among m k.lengths ≡ true → length xg % (2 * m) ≡ length yg % (2 * m))
    (fs gs : List Call) (e : map arguments fs ≡ map arguments gs)
  where
    twins : Twins s t
    twins = twins-heard k s t xb yb xg yg hs ht eb

    run : SameRun s t fs gs
    run = same-run fs gs s t twins e

    -- the bank
    bank-s : bank_in (left_by s fs) ≡ run_bank (bank_in s) (bank_hops s fs)
    bank-s = bank-run fs s (sound-bank s twins.one)

    bank-t : bank_in (left_by t gs) ≡ run_bank (bank_in t) (bank_hops s fs)
    bank-t = bank-run gs t (sound-bank t twins.other) ∙ ap (run_bank (bank_in t)) (sym run.same_bank)

    settled : Enough k.n (length xb) s fs → (i : ℕ) × (ring_len ≤ i) × Alike i (bank_in (left_by s fs)) (bank_in (left_by t gs))
    settled h =
        let w = settles (bank_hops s fs) (length xb) 0 (bank_in s) (bank_in t)
        (alike-start (bank_in s) (bank_in t) twins.one.bank_good twins.other.bank_good twins.n twins.phase) (phase-heard k s xb xg hs)
        (λ z. rw (n-heard k s xb xg hs) h.slow_hop) (omega (arith, h.enough_bank_updates)) in
        (w.0, w.1, subst₂ (λ (b d : FloorBank). Alike w.0 b d) (sym bank-s) (sym bank-t) w.2)

    n-after : (bank_in (left_by s fs)).n ≡ k.n
    n-after = ap (λ (b : FloorBank). b.n) bank-s ∙ n-run (bank_hops s fs) (bank_in s) ∙ n-heard k s xb xg hs

    floors : Enough k.n (length xb) s fs → SameFloors k.n (left_by s fs) (left_by t gs)
    floors h =
        let w = settled h in
        let f = w.2.both.floors w.1 in
        record {
          raw = λ i l. ap (λ (r : List Float). get_or r i f0) f.raw;
          effective = λ i l. settled-effective w.0 w.1 (bank_in (left_by s fs)) (bank_in (left_by t gs)) w.2 i (omega (arith, n-after));
          rise = λ i l. ap (λ (r : List Float). get_or r i f0) f.rise;
        }

    -- the gate
    gate-s : bare (gate_in (left_by s fs)) ≡ run_gate (run_gate (bare (fresh_gate (settings k))) xg) (gate_hops s fs)
    gate-s = gate-run fs s twins.one ∙ ap (λ (x : Gate). run_gate x (gate_hops s fs)) hs.gate

    gate-t : bare (gate_in (left_by t gs)) ≡ run_gate (run_gate (bare (fresh_gate (settings k))) yg) (gate_hops s fs)
    gate-t = gate-run gs t twins.other ∙ ap₂ run_gate ht.gate (sym run.same_gate)

    make-after : (hs : List GateHop) (x y : Gate) → x ≡ run_gate y hs → SameMake y (bare (fresh_gate (settings k))) → SameMake x (bare (fresh_gate (settings k)))
    make-after hs x y q m =
        let r = make-run hs y in
        subst (λ (z : Gate). SameMake z (bare (fresh_gate (settings k)))) (sym q)
        (record { n = r.n ∙ m.n; on = r.on ∙ m.on; early = r.early ∙ m.early })

    make-s : SameMake (bare (gate_in (left_by s fs))) (bare (fresh_gate (settings k)))
    make-s = make-after (gate_hops s fs) (bare (gate_in (left_by s fs))) (bare (gate_in s)) (gate-run fs s twins.one) (make-heard k s xb xg hs)

    make-t : SameMake (bare (gate_in (left_by t gs))) (bare (fresh_gate (settings k)))
    make-t = make-after (gate_hops t gs) (bare (gate_in (left_by t gs))) (bare (gate_in t)) (gate-run gs t twins.other) (make-heard k t yb yg ht)

    ready : Enough k.n (length xb) s fs → absent k.early ≡ true → Ready (left_by s fs) (left_by t gs)
    ready h a =
        let w = settled h in
        record {
          one = true-run fs s twins.one hs.true_pairs;
          other = true-run gs t twins.other ht.true_pairs;
          make = make-join (gate_in (left_by s fs)) (gate_in (left_by t gs)) (fresh_gate (settings k)) make-s make-t;
          early = make-s.early ∙ (unfold fresh_gate settings_of in stored-absent k.early a);
          looks =
              ap (λ (x : Gate). x.looks) gate-s
              ∙ looks-forget (settings k) xg yg (gate_hops s fs) (unfold settings_of in good)
              (unfold settings_of in eg) (omega (arith, h.enough_gate_updates))
              ∙ sym (ap (λ (x : Gate). x.looks) gate-t);
          started =
              ap (λ (x : Gate). x.started) gate-s
              ∙ started-run (gate_hops s fs) (run_gate (bare (fresh_gate (settings k))) xg) (omega (arith, h.enough_gate_updates))
              ∙ sym (started-run (gate_hops s fs) (run_gate (bare (fresh_gate (settings k))) yg) (omega (arith, h.enough_gate_updates)))
              ∙ sym (ap (λ (x : Gate). x.started) gate-t);
          rise = (w.2.both.floors w.1).rise;
        }

    pub whole : Same k (length xb) s t fs gs
    whole =
        record {
          refusals = run.same_answers;
          next_refusal = same_answer (left_by s fs) (left_by t gs) run.twins;
          floors = floors;
          rises = λ h a. next-rises (left_by s fs) (left_by t gs) run.twins (ready h a);
        }

-- from a fresh set
pub heard : (k : Making) (p : Lent) → Made k p → (cs : List Call)
    → Heard k (left_by (made k p) cs) (bank_hops (made k p) cs) (gate_hops (made k p) cs)
heard k p d cs =
    record {
      sound = sound-run cs (made k p) (sound-made k p d);
      true_pairs = true-run cs (made k p) (sound-made k p d) (subst PairsTrue (sym (gate-made k p d.gate)) (true-fresh (settings k)));
      bank = bank-hears k p d.bank cs;
      gate = gate-run cs (made k p) (sound-made k p d) ∙ ap (λ (x : Gate). run_gate (bare x) (gate_hops (made k p) cs)) (gate-made k p d.gate);
    }

pub demand-3 : Demand3
demand-3 k p q mp mq xs ys eb eg fs gs e =
    whole k (lengths-good k p mp.gate) (left_by (made k p) xs) (left_by (made k q) ys) (bank_hops (made k p) xs) (bank_hops (made k q) ys)
    (gate_hops (made k p) xs) (gate_hops (made k q) ys) (heard k p mp xs) (heard k q mq ys) eb eg fs gs e
