-- What making leaves where it is not refused: the stores of a fresh bank, a fresh gate, a fresh store of R-6 and a fresh map, all sound. Assumes nothing.
use mathlib.Core.Path.{◌≡◌, refl, sym, ap, ap₂, ◌∙◌, subst}
use mathlib.Core.Bool.{true, not, ◌&&◌, ◌||◌}
use mathlib.Core.Logic.{◌⊎◌, inl, inr}
use mathlib.Core.List.{List}
use Prim.Native.Nat.{ℕ, zero, suc, ◌≤◌}
use native.Mathlib.Omega.{arith}
use lib.ListN.{length, get_or}
use lib.IntN.{ℤ, pos, negsuc}
use lib.Ieee.{Float}
use borrow.Author.Tests.{not-false, leb-true, eqb-true}
use Rattle.laws.specs.Tests.{within}
use Rattle.laws.proofs.Tests.{by-test, passed, within_of, and_l, and_r, clash, goes_on}
use Rattle.model.specs.Bank.{FloorBank, fresh_bank}
use Rattle.model.specs.Stores.{bank_u16s, bank_floats}
use Rattle.model.specs.Gate.{Gate, Settings, fresh_gate}
use Rattle.model.specs.GateStores.{gate_u16s, gate_floats}
use Rattle.model.specs.GateCalls.{good_lengths, stored, good_level, absent, gate_make_refusal, gate_refusal, settings_of, gate_leaves, gate_new_call}
use Rattle.model.specs.GoodBank.{Good}
use Rattle.model.proofs.GoodBanks.{bank-back, passes}
use Rattle.model.proofs.FreshBanks.{good-fresh}
use Rattle.model.specs.GoodGate.{GoodGate}
use Rattle.model.proofs.GoodGates.{gate-back, gate_passes, n-of}
use Rattle.model.proofs.FreshGates.{good-fresh-gate}
use Rattle.model.proofs.Reach.{made-fresh}
use Rattle.model.proofs.SettledFloors.{run_bank}
use Rattle.model.specs.Map.{map_long, fresh_map}
use Rattle.model.specs.MapCalls.{map_make_refusal, map_refusal, after_gate, unless_refused, map_new_call}
use Rattle.model.proofs.MapRefusals.{is-map, can-be-made}
use Rattle.model.proofs.MapFlags.{long-fresh, fresh-sound}
use Rattle.model.proofs.MapReach.{refusal_is}
use Rattle.model.specs.Demand3.{Call, Lent, left_by, bank_hops, bank_in, Making, new_bank, new_gate, new_worst, new_map, made, Made}
use Rattle.model.specs.Sets.{gate_in, worst_in, Sound}
use Rattle.model.specs.Worst.{Worst, fresh_worst, worst_u16s, worst_floats}
use Rattle.model.specs.WorstCalls.{worst_make_refusal, worst_leaves, worst_new_call}
use Rattle.model.specs.GoodWorst.{GoodWorst}
use Rattle.model.proofs.WorstStores.{worst-back, worst_passes}
use Rattle.model.proofs.WorstTurns.{good-fresh-worst}
use Rattle.model.proofs.Calls.{SoundBank, SoundWorst, bank-run, gate-answer}

-- ---- the gate's settings

abbrev pub settings : Making → Settings
settings k = settings_of k.gate_n k.on k.off k.early k.lengths

pub stored-absent : (x : ℤ) → absent x ≡ true → stored x ≡ 65535
unfolding stored
stored-absent (pos x) h = rw (eqb-true x 65535 h)
stored-absent (negsuc x) h = clash (sym h)

stored-early : (x : ℤ) → (absent x || good_level x) ≡ true → (stored x ≡ 65535) ⊎ (stored x ≤ 1600)
stored-early x h = by-test (absent x) (λ t. inl (stored-absent x t)) (λ t. inr (leb-true (stored x) 1600 (rw t at h)))

pub record Taken (k : Making) : Type 0 where
  pub low : 1 ≤ k.gate_n
  pub high : k.gate_n ≤ 512
  pub on : stored k.on ≤ 1600
  pub off : stored k.off ≤ 1600
  pub early : (stored k.early ≡ 65535) ⊎ (stored k.early ≤ 1600)
  pub lengths : good_lengths k.lengths ≡ true

pub taken : (k : Making) (uLen fLen : ℕ) → gate_make_refusal uLen fLen k.gate_n k.on k.off k.early k.lengths ≡ 0 → Taken k
unfolding gate_make_refusal
taken k uLen fLen e =
    let p = passed (not (within 1 512 k.gate_n)) 1 _ (omega arith) e in
    let q = passed (not (good_lengths k.lengths)) 3 _ (omega arith) p.1 in
    let r = passed (not (good_level k.on && good_level k.off && (absent k.early || good_level k.early))) 4 _ (omega arith) q.1 in
    let size = within_of 1 512 k.gate_n (not-false (within 1 512 k.gate_n) p.0) in
    let levels = not-false (good_level k.on && good_level k.off && (absent k.early || good_level k.early)) r.0 in
    let both = and_l (good_level k.on && good_level k.off) (absent k.early || good_level k.early) levels in
    record {
      low = size.0;
      high = size.1;
      on = leb-true (stored k.on) 1600 (and_l (good_level k.on) (good_level k.off) both);
      off = leb-true (stored k.off) 1600 (and_r (good_level k.on) (good_level k.off) both);
      early = stored-early k.early (and_r (good_level k.on && good_level k.off) (absent k.early || good_level k.early) levels);
      lengths = not-false (good_lengths k.lengths) q.0;
    }

-- ---- a fresh bank, whatever became of the gate

module _ (k : Making) (p : Lent) (e : (new_bank k p).0 ≡ 0) where
  pub good-bank : Good (fresh_bank k.n)
  good-bank = let m = made-fresh p.stores.bu p.stores.bf k.n (unfold new_bank in e) in good-fresh k.n m.0 m.1

  bank-stores : ((new_bank k p).1 ≡ bank_u16s (fresh_bank k.n)) × ((new_bank k p).2 ≡ bank_floats (fresh_bank k.n))
  unfolding new_bank
  bank-stores = let m = made-fresh p.stores.bu p.stores.bf k.n e in (ap (λ r. r.u) m.2, ap (λ r. r.f) m.2)

  pub bank-made : bank_in (made k p) ≡ fresh_bank k.n
  bank-made = rw (bank-stores.0, bank-stores.1) (bank-back (fresh_bank k.n) good-bank)

  pub sound-bank-made : SoundBank (made k p)
  sound-bank-made =
      record {
        bank_passes = rw (bank-stores.0, bank-stores.1) (passes (fresh_bank k.n) good-bank);
        bank_good = subst Good (sym bank-made) good-bank;
      }

  -- after a list of calls
  pub bank-hears : (cs : List Call) → bank_in (left_by (made k p) cs) ≡ run_bank (fresh_bank k.n) (bank_hops (made k p) cs)
  bank-hears cs = bank-run cs (made k p) sound-bank-made ∙ ap (λ (b : FloorBank). run_bank b (bank_hops (made k p) cs)) bank-made

-- ---- a fresh store of R-6, whatever became of the others

module _ (k : Making) (p : Lent) (e : (new_worst k p).0 ≡ 0) where
  -- what making leaves where it does not refuse
  stored-fresh : (r : ℕ) (w : Worst) (u : List ℕ) (f : List Float) → (worst_leaves r w u f).0 ≡ 0
      → (r ≡ 0) × ((worst_leaves r w u f).1 ≡ worst_u16s w) × ((worst_leaves r w u f).2 ≡ worst_floats w)
  stored-fresh zero w u f h = (refl, refl, refl)
  stored-fresh (suc r) w u f h = absurd (omega arith)

  fresh-store : (worst_make_refusal (length p.stores.wu) (length p.stores.wf) k.n p.W ≡ 0)
      × ((new_worst k p).1 ≡ worst_u16s (fresh_worst k.n p.W)) × ((new_worst k p).2 ≡ worst_floats (fresh_worst k.n p.W))
  unfolding new_worst worst_new_call
  fresh-store =
      stored-fresh (worst_make_refusal (length p.stores.wu) (length p.stores.wf) k.n p.W) (fresh_worst k.n p.W) p.stores.wu p.stores.wf e

  good-worst : GoodWorst (fresh_worst k.n p.W)
  unfolding worst_make_refusal
  good-worst =
      let a = passed (not (within 1 512 k.n)) 1 _ (omega arith) fresh-store.0 in
      let b = passed (not (within 1 600 p.W)) 12 _ (omega arith) a.1 in
      let size = within_of 1 512 k.n (not-false (within 1 512 k.n) a.0) in
      let span = within_of 1 600 p.W (not-false (within 1 600 p.W) b.0) in
      good-fresh-worst k.n p.W size.0 size.1 span.0 span.1

  pub store-made : worst_in (made k p) ≡ fresh_worst k.n p.W
  store-made = rw (fresh-store.1, fresh-store.2) (worst-back (fresh_worst k.n p.W) good-worst)

  pub sound-worst-made : SoundWorst (made k p)
  sound-worst-made =
      record {
        worst_passes = rw (fresh-store.1, fresh-store.2) (worst_passes (fresh_worst k.n p.W) good-worst);
        worst_good = subst GoodWorst (sym store-made) good-worst;
      }

-- ---- a fresh gate

module _ (k : Making) (p : Lent) (e : (new_gate k p).0 ≡ 0) where
  refusal : gate_make_refusal (length p.stores.gu) (length p.stores.gf) k.gate_n k.on k.off k.early k.lengths ≡ 0
  refusal =
      sym (gate-answer (gate_make_refusal (length p.stores.gu) (length p.stores.gf) k.gate_n k.on k.off k.early k.lengths) (fresh_gate (settings k)) p.stores.gu p.stores.gf)
      ∙ (unfold new_gate gate_new_call in e)

  fits : Taken k
  fits = taken k (length p.stores.gu) (length p.stores.gf) refusal

  pub lengths-good : good_lengths k.lengths ≡ true
  lengths-good = fits.lengths

  good-gate : GoodGate (fresh_gate (settings k))
  good-gate = let t = fits in (unfold settings_of in good-fresh-gate (settings k) t.low t.high t.on t.off t.early t.lengths)

  gate-stores : ((new_gate k p).1 ≡ gate_u16s (fresh_gate (settings k))) × ((new_gate k p).2 ≡ gate_floats (fresh_gate (settings k)))
  unfolding new_gate gate_new_call
  gate-stores = (
    ap (λ (r : ℕ). (gate_leaves r (fresh_gate (settings k)) p.stores.gu p.stores.gf).1) refusal,
    ap (λ (r : ℕ). (gate_leaves r (fresh_gate (settings k)) p.stores.gu p.stores.gf).2) refusal,
  )

  pub gate-made : gate_in (made k p) ≡ fresh_gate (settings k)
  gate-made = rw (gate-stores.0, gate-stores.1) (gate-back (fresh_gate (settings k)) good-gate)

  gate-taken : gate_refusal (new_gate k p).1 (new_gate k p).2 ≡ 0
  gate-taken = rw (gate-stores.0, gate-stores.1) (gate_passes (fresh_gate (settings k)) good-gate)

  pub n-made : get_or (new_gate k p).1 0 0 ≡ k.gate_n
  n-made = sym (n-of (new_gate k p).1 (new_gate k p).2) ∙ ap (λ (g : Gate). g.n) gate-made ∙ (unfold fresh_gate settings_of in refl)

  -- R-12: the map beside it, of lent bytes that are as many as the gate's n asks for
  map-refusal : ℕ
  map-refusal = after_gate (new_gate k p).1 (new_gate k p).2 (λ n. map_make_refusal n p.stores.map)

  pub can-have-map : length p.stores.map ≡ map_long k.gate_n → (new_map k p).0 ≡ 0
  unfolding new_map map_new_call map-refusal
  can-have-map l =
      refusal_is map-refusal (fresh_map (get_or (new_gate k p).1 0 0)) p.stores.map
      ∙ sym
      (goes_on (gate_refusal (new_gate k p).1 (new_gate k p).2) _ 0 gate-taken
      (can-be-made (get_or (new_gate k p).1 0 0) p.stores.map (l ∙ ap map_long (sym n-made))))

  pub map-made : (new_map k p).0 ≡ 0 → (new_map k p).1 ≡ fresh_map k.gate_n
  unfolding new_map map_new_call map-refusal
  map-made z =
      let f = fresh_map (get_or (new_gate k p).1 0 0) in
      ap (λ (x : ℕ). (unless_refused x f p.stores.map).1) (sym (refusal_is map-refusal f p.stores.map) ∙ z) ∙ ap fresh_map n-made

-- ---- a fresh set

module _ (k : Making) (p : Lent) (d : Made k p) where
  map_passes : map_refusal (get_or (made k p).gu 0 0) (made k p).map ≡ 0
  map_passes =
      ap₂ map_refusal (n-made k p d.gate) (map-made k p d.gate d.map)
      ∙ sym (is-map k.gate_n (fresh_map k.gate_n) (long-fresh k.gate_n) (fresh-sound k.gate_n))

  pub sound-made : Sound (made k p)
  sound-made =
      let b = sound-bank-made k p d.bank in
      let w = sound-worst-made k p d.worst in
      record {
        bank_passes = b.bank_passes;
        bank_good = b.bank_good;
        gate_passes = gate-taken k p d.gate;
        gate_good = subst GoodGate (sym (gate-made k p d.gate)) (good-gate k p d.gate);
        worst_passes = w.worst_passes;
        worst_good = w.worst_good;
        worst_n =
            ap (λ (w : Worst). w.n) (store-made k p d.worst)
            ∙ (unfold fresh_worst fresh_bank in sym (ap (λ (b : FloorBank). b.n) (bank-made k p d.bank)));
        map_passes = map_passes;
      }
