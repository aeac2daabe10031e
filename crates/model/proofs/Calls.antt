-- Calls on the stores of a sound set: they stay sound, a list of calls is its accepted bank updates on the bank and, but for
-- the pairs of R-3, its accepted gate updates on the gate, and what is refused hangs on the bank's n and phase, the gate's n and the arguments.
-- Whether a bank update carries the store of R-6 changes none of it. What is said of the bank alone asks nothing of the other stores. Assumes nothing.
use mathlib.Core.Path.{◌≡◌, refl, sym, ap, ap₂, ◌∙◌, subst}
use mathlib.Core.List.{List, [], ◌∷◌, ◌++◌, map}
use mathlib.Core.Bool.{Bool, true, false, not, ◌&&◌, ◌||◌}
use Prim.Native.Nat.{ℕ, zero, suc, ◌+◌, ◌%◌}
use native.Mathlib.Omega.{arith}
use lib.ListN.{length, get_or}
use lib.Dec.{eqb, ltb}
use lib.Ieee.{Float}
use Rattle.laws.specs.Tests.{differ, first}
use Rattle.model.specs.Layout.{decimation_hops}
use Rattle.model.specs.Bank.{FloorBank, Hop, bank_step}
use Rattle.model.specs.Stores.{bank_of}
use Rattle.model.specs.Refusals.{bank_refusal, garbled, update_refusal}
use Rattle.model.specs.Gate.{Gate, gate_step, update_step, hold_step, rise_bytes}
use Rattle.model.specs.GateStores.{gate_u16s, gate_floats, gate_of}
use Rattle.model.specs.GateCalls.{GateHop, gate_refusal, or_else, pair_refusal, gate_update_refusal, hold_refusal, gate_leaves, marks_of, gate_update_call, gate_hold_call}
use Rattle.model.specs.GoodBank.{Good}
use Rattle.model.proofs.FreshBanks.{good-step}
use Rattle.model.specs.GoodGate.{GoodGate}
use Rattle.model.proofs.GateStores.{gate-forth-u}
use Rattle.model.proofs.GoodGates.{gate-back, gate_passes, gate-ready, n-of, sizes}
use Rattle.model.proofs.FreshGates.{bare, good-update, good-hold}
use Rattle.model.proofs.Pairs.{bare-update, bare-hold}
use Rattle.model.proofs.TruePairs.{true-update, true-hold}
use Rattle.model.specs.Map.{map_long}
use Rattle.model.specs.MapCalls.{map_refusal, gate_update_if, gate_hold_if}
use Rattle.model.specs.MapReach.{MapCall, map_left_by}
use Rattle.model.specs.MapSets.{done_on_map, on_map}
use Rattle.model.proofs.MapRefusals.{is-map, good-map}
use Rattle.model.proofs.MapReach.{kept_by, write_does, write-answer}
use Rattle.model.proofs.MapCarried.{hold-same, update_same, update-hears, hold-hears}
use Rattle.model.specs.Demand3.{Asked, Call, AskedWith, Arguments, bank, gate, hold, write, Stores, does, step, answer, left, marks_before, rises_done, rises_of, with, exported, arguments, left_by, answers, bank_hop, gate_hop, bank_hops, gate_hops, bank_in}
use Rattle.roles.specs.Rights.{as_role}
use Rattle.roles.proofs.Roles.{by-role, both-by-role}
use Rattle.model.specs.Sets.{gate_in, worst_in, Sound}
use Rattle.model.specs.Worst.{Worst}
use Rattle.model.specs.WorstCalls.{worst_refusal}
use Rattle.model.specs.GoodWorst.{GoodWorst}
use Rattle.model.proofs.Carrying.{worst_after, good-worst-after, size-worst-after, leaves-bank, leaves-worst, answer-alone, answer-same}
use Rattle.model.specs.Remembered.{PairsTrue}
use Rattle.model.proofs.SettledFloors.{run_bank, n-run, phase-run}
use Rattle.model.proofs.Rises.{run_gate, make-run}

good-run : (hs : List Hop) (b : FloorBank) → Good b → Good (run_bank b hs)
good-run [] b g = g
good-run (h ∷ hs) b g = good-run hs (bank_step b h) (good-step b h g)

-- the gate after a call, by its answer
abbrev pub gate_after : ℕ → Gate → FloorBank → AskedWith → Gate
gate_after zero g b (bank c h) = g
gate_after zero g b (gate c h rise drop) = update_step g b h.db h.power
gate_after zero g b (hold c rise drop) = hold_step g b
gate_after zero g b (write i v) = g
gate_after (suc r) g b c = g

good-after : (r : ℕ) (g : Gate) (b : FloorBank) (c : AskedWith) → GoodGate g → GoodGate (gate_after r g b c)
good-after zero g b (bank c h) q = q
good-after zero g b (gate c h rise drop) q = good-update g b h.db h.power q
good-after zero g b (hold c rise drop) q = good-hold g b q
good-after zero g b (write i v) q = q
good-after (suc r) g b c q = q

pub true-after : (r : ℕ) (g : Gate) (b : FloorBank) (c : AskedWith) → PairsTrue g → PairsTrue (gate_after r g b c)
true-after zero g b (bank c h) q = q
true-after zero g b (gate c h rise drop) q = true-update g b h.db h.power q
true-after zero g b (hold c rise drop) q = true-hold g b q
true-after zero g b (write i v) q = q
true-after (suc r) g b c q = q

pub bare-after : (r : ℕ) (g : Gate) (b : FloorBank) (c : AskedWith) → bare (gate_after r g b c) ≡ run_gate (bare g) (gate_hop r c)
bare-after zero g b (bank c h) = refl
bare-after zero g b (gate c h rise drop) = bare-update g b h.db h.power
bare-after zero g b (hold c rise drop) = bare-hold g b
bare-after zero g b (write i v) = refl
bare-after (suc r) g b c = refl

-- ---- what a call leaves

-- of the bank, whatever the other stores hold
pub record SoundBank (s : Stores) : Type 0 where
  pub bank_passes : bank_refusal s.bu s.bf ≡ 0
  pub bank_good : Good (bank_in s)

pub sound-bank : (s : Stores) → Sound s → SoundBank s
sound-bank s v = record { bank_passes = v.bank_passes; bank_good = v.bank_good }

-- of R-6's store, whatever the others hold
pub record SoundWorst (s : Stores) : Type 0 where
  pub worst_passes : worst_refusal s.wu s.wf ≡ 0
  pub worst_good : GoodWorst (worst_in s)

pub sound-worst : (s : Stores) → Sound s → SoundWorst s
sound-worst s v = record { worst_passes = v.worst_passes; worst_good = v.worst_good }

-- what is answered and left, x, of what is asked, a
pub record LeftWorst (s : Stores) (a : AskedWith) (x : ℕ × Stores) : Type 0 where
  pub worst_passes : worst_refusal x.1.wu x.1.wf ≡ 0
  pub worst_is : worst_in x.1 ≡ worst_after x.0 (bank_in s) (worst_in s) a

pub record LeftBank (s : Stores) (a : AskedWith) (x : ℕ × Stores) : Type 0 where
  pub bank_passes : bank_refusal x.1.bu x.1.bf ≡ 0
  pub bank_is : bank_in x.1 ≡ run_bank (bank_in s) (bank_hop x.0 a)

-- of the gate
pub record LeftGate (s : Stores) (a : AskedWith) (x : ℕ × Stores) : Type 0 where
  pub gate_passes : gate_refusal x.1.gu x.1.gf ≡ 0
  pub gate_is : gate_in x.1 ≡ gate_after x.0 (gate_in s) (bank_in s) a

-- R-14: what holds of what is asked for and of a call that is stopped holds of a call
by_right : (s : Stores) (c : Call) (P : ℕ × Stores → Type 0) → P (does s c.asked) → P (16, s) → P (step s c)
unfolding step
by_right s c P = by-role (exported (with c.asked)) c.role P (λ r. (r, s)) (does s c.asked)

-- whatever a call answers: no bank update on the bank, nothing on the gate by a bank update, nothing on R-6's store by any other
no_bank : (r : ℕ) (c : Bool) (h : GateHop) (i j : ℕ) → bank_hop r (gate c h i j) ≡ []
no_bank zero c h i j = refl
no_bank (suc r) c h i j = refl

no-bank-hold : (r : ℕ) (c : Bool) (i j : ℕ) → bank_hop r (hold c i j) ≡ []
no-bank-hold zero c i j = refl
no-bank-hold (suc r) c i j = refl

no-bank-write : (r i v : ℕ) → bank_hop r (write i v) ≡ []
no-bank-write zero i v = refl
no-bank-write (suc r) i v = refl

no-gate : (r : ℕ) (g : Gate) (b : FloorBank) (c : Bool) (h : Hop) → gate_after r g b (bank c h) ≡ g
no-gate zero g b c h = refl
no-gate (suc r) g b c h = refl

no-gate-write : (r : ℕ) (g : Gate) (b : FloorBank) (i v : ℕ) → gate_after r g b (write i v) ≡ g
no-gate-write zero g b i v = refl
no-gate-write (suc r) g b i v = refl

no-worst : (r : ℕ) (b : FloorBank) (w : Worst) (c : Bool) (h : GateHop) (i j : ℕ) → worst_after r b w (gate c h i j) ≡ w
no-worst zero b w c h i j = refl
no-worst (suc r) b w c h i j = refl

no-worst-hold : (r : ℕ) (b : FloorBank) (w : Worst) (c : Bool) (i j : ℕ) → worst_after r b w (hold c i j) ≡ w
no-worst-hold zero b w c i j = refl
no-worst-hold (suc r) b w c i j = refl

no-worst-write : (r : ℕ) (b : FloorBank) (w : Worst) (i v : ℕ) → worst_after r b w (write i v) ≡ w
no-worst-write zero b w i v = refl
no-worst-write (suc r) b w i v = refl

pub leaves-gate : (u : List ℕ) (f : List Float) (b : FloorBank) (c : Bool) (h : GateHop) (i j : ℕ) → gate_refusal u f ≡ 0 → GoodGate (gate_of u f) → (r : ℕ)
    → (gate_refusal (gate_leaves r (update_step (gate_of u f) b h.db h.power) u f).1 (gate_leaves r (update_step (gate_of u f) b h.db h.power) u f).2 ≡ 0)
    × (gate_of (gate_leaves r (update_step (gate_of u f) b h.db h.power) u f).1 (gate_leaves r (update_step (gate_of u f) b h.db h.power) u f).2
    ≡ gate_after (gate_leaves r (update_step (gate_of u f) b h.db h.power) u f).0 (gate_of u f) b (gate c h i j))
leaves-gate u f b c h i j p g zero =
    let q = good-update (gate_of u f) b h.db h.power g in
    (gate_passes (update_step (gate_of u f) b h.db h.power) q, gate-back (update_step (gate_of u f) b h.db h.power) q)
leaves-gate u f b c h i j p g (suc r) = (p, refl)

-- a hold leaves the u16 store, which is that of the gate that it leaves
held-u : (u : List ℕ) (f : List Float) (b : FloorBank) → gate_refusal u f ≡ 0 → u ≡ gate_u16s (hold_step (gate_of u f) b)
held-u u f b p =
    let r = gate-ready u f p in
    sym (gate-forth-u u f r.long (sizes u f r).few r.unused) ∙ sym (ap gate_u16s (bare-hold (gate_of u f) b))

pub leaves-hold : (u : List ℕ) (f : List Float) (b : FloorBank) (c : Bool) (i j : ℕ) → gate_refusal u f ≡ 0 → GoodGate (gate_of u f) → (r : ℕ)
    → (gate_refusal u (gate_leaves r (hold_step (gate_of u f) b) u f).2 ≡ 0)
    × (gate_of u (gate_leaves r (hold_step (gate_of u f) b) u f).2 ≡ gate_after r (gate_of u f) b (hold c i j))
leaves-hold u f b c i j p g zero =
    let H = hold_step (gate_of u f) b in
    let q = good-hold (gate_of u f) b g in (
      ap (λ (v : List ℕ). gate_refusal v (gate_floats H)) (held-u u f b p) ∙ gate_passes H q,
      ap (λ (v : List ℕ). gate_of v (gate_floats H)) (held-u u f b p) ∙ gate-back H q,
    )
leaves-hold u f b c i j p g (suc r) = (p, refl)

does-bank : (s : Stores) → SoundBank s → (a : Asked) → LeftBank s (with a) (does s a)
unfolding does
does-bank s v (bank c h) =
    let b = leaves-bank s.bu s.bf s.wu s.wf h c v.bank_passes v.bank_good in
    record { bank_passes = b.0; bank_is = b.1 }
does-bank s v (gate c h rise drop) =
    record { bank_passes = v.bank_passes; bank_is = sym (ap (run_bank (bank_in s)) (no_bank (does s (gate c h rise drop)).0 c h _ _)) }
does-bank s v (hold c rise drop) =
    record { bank_passes = v.bank_passes; bank_is = sym (ap (run_bank (bank_in s)) (no-bank-hold (does s (hold c rise drop)).0 c _ _)) }
does-bank s v (write i x) =
    record { bank_passes = v.bank_passes; bank_is = sym (ap (run_bank (bank_in s)) (no-bank-write (does s (write i x)).0 i x)) }

pub left-bank : (s : Stores) → SoundBank s → (c : Call) → LeftBank s (with c.asked) (step s c)
left-bank s v c =
    by_right s c (LeftBank s (with c.asked)) (does-bank s v c.asked) (record { bank_passes = v.bank_passes; bank_is = refl })

-- the gate after an update or a hold, carrying the map or not: as without it
module _ (s : Stores) (v : Sound s) (c : Bool) where
  update-leaves : (h : GateHop) (rise drop : List ℕ)
      → let a = gate_update_if c s.bu s.bf s.gu s.gf s.map h rise drop in
      (gate_refusal a.1 a.2 ≡ 0) × (gate_of a.1 a.2 ≡ gate_after a.0 (gate_in s) (bank_in s) (gate c h (length rise) (length drop)))
  unfolding gate_update_call
  update-leaves h rise drop =
      subst
      (λ (a : ℕ × List ℕ × List Float × List ℕ × List ℕ).
      (gate_refusal a.1 a.2 ≡ 0) × (gate_of a.1 a.2 ≡ gate_after a.0 (gate_in s) (bank_in s) (gate c h (length rise) (length drop))))
      (sym (update_same s.bu s.bf s.gu s.gf s.map v.map_passes c h rise drop))
      (leaves-gate s.gu s.gf (bank_in s) c h (length rise) (length drop) v.gate_passes v.gate_good
      (gate_update_refusal s.bu s.bf s.gu s.gf (length h.db) (length h.power) (length rise) (length drop)))

  hold-leaves : (rise drop : List ℕ)
      → let a = gate_hold_if c s.bu s.bf s.gu s.gf s.map rise drop in
      (gate_refusal s.gu a.1 ≡ 0) × (gate_of s.gu a.1 ≡ gate_after a.0 (gate_in s) (bank_in s) (hold c (length rise) (length drop)))
  unfolding gate_hold_call
  hold-leaves rise drop =
      subst
      (λ (a : ℕ × List Float × List ℕ × List ℕ).
      (gate_refusal s.gu a.1 ≡ 0) × (gate_of s.gu a.1 ≡ gate_after a.0 (gate_in s) (bank_in s) (hold c (length rise) (length drop))))
      (sym (hold-same s.bu s.bf s.gu s.gf s.map v.map_passes c rise drop))
      (leaves-hold s.gu s.gf (bank_in s) c (length rise) (length drop) v.gate_passes v.gate_good
      (hold_refusal s.bu s.bf s.gu s.gf (length rise) (length drop)))

does-worst : (s : Stores) → SoundWorst s → (a : Asked) → LeftWorst s (with a) (does s a)
unfolding does
does-worst s v (bank c h) =
    let w = leaves-worst s.bu s.bf s.wu s.wf h c v.worst_passes v.worst_good in
    record { worst_passes = w.0; worst_is = w.1 }
does-worst s v (gate c h rise drop) =
    record { worst_passes = v.worst_passes; worst_is = sym (no-worst (does s (gate c h rise drop)).0 (bank_in s) (worst_in s) c h _ _) }
does-worst s v (hold c rise drop) =
    record { worst_passes = v.worst_passes; worst_is = sym (no-worst-hold (does s (hold c rise drop)).0 (bank_in s) (worst_in s) c _ _) }
does-worst s v (write i x) =
    record { worst_passes = v.worst_passes; worst_is = sym (no-worst-write (does s (write i x)).0 (bank_in s) (worst_in s) i x) }

pub left-worst : (s : Stores) → SoundWorst s → (c : Call) → LeftWorst s (with c.asked) (step s c)
left-worst s v c =
    by_right s c (LeftWorst s (with c.asked)) (does-worst s v c.asked) (record { worst_passes = v.worst_passes; worst_is = refl })

does-gate : (s : Stores) → Sound s → (a : Asked) → LeftGate s (with a) (does s a)
unfolding does
does-gate s v (bank c h) =
    record { gate_passes = v.gate_passes; gate_is = sym (no-gate (does s (bank c h)).0 (gate_in s) (bank_in s) c h) }
does-gate s v (gate c h rise drop) = let g = update-leaves s v c h rise drop in record { gate_passes = g.0; gate_is = g.1 }
does-gate s v (hold c rise drop) = let g = hold-leaves s v c rise drop in record { gate_passes = g.0; gate_is = g.1 }
does-gate s v (write i x) =
    record { gate_passes = v.gate_passes; gate_is = sym (no-gate-write (does s (write i x)).0 (gate_in s) (bank_in s) i x) }

pub left-gate : (s : Stores) → Sound s → (c : Call) → LeftGate s (with c.asked) (step s c)
left-gate s v c =
    by_right s c (LeftGate s (with c.asked)) (does-gate s v c.asked) (record { gate_passes = v.gate_passes; gate_is = refl })

-- the gate's n stays, and what the call does to the map is R-12's list
pub n-left : (s : Stores) (c : Call) → Sound s → get_or (left s c).gu 0 0 ≡ get_or s.gu 0 0
n-left s c v =
    sym (n-of (left s c).gu (left s c).gf)
    ∙ ap (λ (g : Gate). g.n) (left-gate s v c).gate_is
    ∙ ap (λ (g : Gate). g.n) (bare-after (answer s c) (gate_in s) (bank_in s) (with c.asked))
    ∙ (make-run (gate_hop (answer s c) (with c.asked)) (bare (gate_in s))).n
    ∙ n-of s.gu s.gf

does-map : (s : Stores) (a : Asked) → Sound s → (does s a).1.map ≡ map_left_by (get_or s.gu 0 0) s.map (done_on_map s a)
unfolding does done_on_map
does-map s (bank c h) v = refl
does-map s (gate false h rise drop) v = refl
does-map s (gate true h rise drop) v = update-hears s.bu s.bf s.gu s.gf s.map v.map_passes h rise drop
does-map s (hold false rise drop) v = refl
does-map s (hold true rise drop) v = hold-hears s.bu s.bf s.gu s.gf s.map v.map_passes rise drop
does-map s (write i x) v = ap (λ (a : ℕ × List ℕ). a.1) (write_does s.gu s.gf s.map v.gate_passes i x)

pub map-left : (s : Stores) (c : Call) → Sound s → (left s c).map ≡ map_left_by (get_or s.gu 0 0) s.map (on_map s c)
unfolding step on_map
map-left s c v =
    both-by-role (exported (with c.asked)) c.role
    (λ (x : ℕ × Stores) (l : List MapCall). x.1.map ≡ map_left_by (get_or s.gu 0 0) s.map l)
    (λ r. (r, s)) (does s c.asked) (λ _. []) (done_on_map s c.asked) (does-map s c.asked v) refl

map_stays : (s : Stores) (c : Call) → Sound s → map_refusal (get_or (left s c).gu 0 0) (left s c).map ≡ 0
map_stays s c v =
    let n = get_or s.gu 0 0 in
    let g = good-map n s.map v.map_passes in
    let k = kept_by n s.map (on_map s c) (record { long = g.0; sound = g.1 }) in
    ap₂ map_refusal (n-left s c v) (map-left s c v) ∙ sym (is-map n (map_left_by n s.map (on_map s c)) k.long k.sound)

pub bank-left : (s : Stores) (c : Call) → SoundBank s → SoundBank (left s c)
bank-left s c v =
    let l = left-bank s v c in
    record {
      bank_passes = l.bank_passes;
      bank_good = subst Good (sym l.bank_is) (good-run (bank_hop (answer s c) (with c.asked)) (bank_in s) v.bank_good);
    }

pub worst-left : (s : Stores) (c : Call) → SoundWorst s → SoundWorst (left s c)
worst-left s c v =
    let l = left-worst s v c in
    record {
      worst_passes = l.worst_passes;
      worst_good = subst GoodWorst (sym l.worst_is) (good-worst-after (answer s c) (bank_in s) (worst_in s) (with c.asked) v.worst_good);
    }

-- both stay as long as they are
pub bank-n-left : (s : Stores) (c : Call) → SoundBank s → (bank_in (left s c)).n ≡ (bank_in s).n
bank-n-left s c v = ap (λ (b : FloorBank). b.n) (left-bank s v c).bank_is ∙ n-run (bank_hop (answer s c) (with c.asked)) (bank_in s)

pub worst-n-left : (s : Stores) (c : Call) → SoundWorst s → (worst_in (left s c)).n ≡ (worst_in s).n
worst-n-left s c v = ap (λ (w : Worst). w.n) (left-worst s v c).worst_is ∙ size-worst-after (answer s c) (bank_in s) (worst_in s) (with c.asked)

pub sound-left : (s : Stores) (c : Call) → Sound s → Sound (left s c)
sound-left s c v =
    let b = bank-left s c (sound-bank s v) in
    let w = worst-left s c (sound-worst s v) in
    let l = left-gate s v c in
    record {
      bank_passes = b.bank_passes;
      bank_good = b.bank_good;
      gate_passes = l.gate_passes;
      gate_good = subst GoodGate (sym l.gate_is) (good-after (answer s c) (gate_in s) (bank_in s) (with c.asked) v.gate_good);
      worst_passes = w.worst_passes;
      worst_good = w.worst_good;
      worst_n = worst-n-left s c (sound-worst s v) ∙ v.worst_n ∙ sym (bank-n-left s c (sound-bank s v));
      map_passes = map_stays s c v;
    }

pub true-left : (s : Stores) (c : Call) → Sound s → PairsTrue (gate_in s) → PairsTrue (gate_in (left s c))
true-left s c v p = subst PairsTrue (sym (left-gate s v c).gate_is) (true-after (answer s c) (gate_in s) (bank_in s) (with c.asked) p)

pub bare-left : (s : Stores) (c : Call) → Sound s → bare (gate_in (left s c)) ≡ run_gate (bare (gate_in s)) (gate_hop (answer s c) (with c.asked))
bare-left s c v = ap bare (left-gate s v c).gate_is ∙ bare-after (answer s c) (gate_in s) (bank_in s) (with c.asked)

-- ---- lists of calls

pub sound-run : (cs : List Call) (s : Stores) → Sound s → Sound (left_by s cs)
sound-run [] s v = v
sound-run (c ∷ cs) s v = sound-run cs (left s c) (sound-left s c v)

pub true-run : (cs : List Call) (s : Stores) → Sound s → PairsTrue (gate_in s) → PairsTrue (gate_in (left_by s cs))
true-run [] s v p = p
true-run (c ∷ cs) s v p = true-run cs (left s c) (sound-left s c v) (true-left s c v p)

pub bank-append : (xs ys : List Hop) (b : FloorBank) → run_bank b (xs ++ ys) ≡ run_bank (run_bank b xs) ys
bank-append [] ys b = refl
bank-append (x ∷ xs) ys b = bank-append xs ys (bank_step b x)

pub gate-append : (xs ys : List GateHop) (g : Gate) → run_gate g (xs ++ ys) ≡ run_gate (run_gate g xs) ys
gate-append [] ys g = refl
gate-append (x ∷ xs) ys g = gate-append xs ys (gate_step g x.db x.power)

pub bank-run : (cs : List Call) (s : Stores) → SoundBank s → bank_in (left_by s cs) ≡ run_bank (bank_in s) (bank_hops s cs)
bank-run [] s v = refl
bank-run (c ∷ cs) s v =
    bank-run cs (left s c) (bank-left s c v)
    ∙ ap (λ (b : FloorBank). run_bank b (bank_hops (left s c) cs)) (left-bank s v c).bank_is
    ∙ sym (bank-append (bank_hop (answer s c) (with c.asked)) (bank_hops (left s c) cs) (bank_in s))

pub gate-run : (cs : List Call) (s : Stores) → Sound s → bare (gate_in (left_by s cs)) ≡ run_gate (bare (gate_in s)) (gate_hops s cs)
gate-run [] s v = refl
gate-run (c ∷ cs) s v =
    gate-run cs (left s c) (sound-left s c v)
    ∙ ap (λ (g : Gate). run_gate g (gate_hops (left s c) cs)) (bare-left s c v)
    ∙ sym (gate-append (gate_hop (answer s c) (with c.asked)) (gate_hops (left s c) cs) (bare (gate_in s)))

-- ---- what is refused

-- with sound stores, by the bank's n and phase and the gate's n alone: carrying R-6's store refuses no more
unfoldable pub refuse_asked : ℕ → ℕ → ℕ → AskedWith → ℕ
refuse_asked nb phase ng (bank c h) = first (differ (length h.db) nb || differ (length h.power) nb) 5 (first (eqb phase 0 && garbled nb h.db) 6 0)
refuse_asked nb phase ng (gate c h rise drop) =
    or_else (first (differ nb ng) 8 0) (first (differ (length h.db) ng || differ (length h.power) ng || differ rise ng || differ drop ng) 5 0)
refuse_asked nb phase ng (hold c rise drop) = or_else (first (differ nb ng) 8 0) (first (differ rise ng || differ drop ng) 5 0)
refuse_asked nb phase ng (write i v) = first (not (ltb i (map_long ng))) 15 0

unfoldable pub refuse : ℕ → ℕ → ℕ → Arguments → ℕ
refuse nb phase ng a = as_role (exported a.asked) a.role (λ r. r) (refuse_asked nb phase ng a.asked)

pub gate-answer : (r : ℕ) (g : Gate) (u : List ℕ) (f : List Float) → (gate_leaves r g u f).0 ≡ r
gate-answer zero g u f = refl
gate-answer (suc r) g u f = refl

update-refuses : (s : Stores) → SoundBank s → (c : Bool) (h : Hop) (ng : ℕ)
    → update_refusal s.bu s.bf h.db h.power ≡ refuse_asked (bank_in s).n (bank_in s).phase ng (bank c h)
unfolding update_refusal bank_of refuse_asked
update-refuses s v c h ng = rw v.bank_passes

pub bank-answer : (s : Stores) → SoundBank s → (h : Hop) (ng : ℕ) → (does s (bank false h)).0 ≡ refuse_asked (bank_in s).n (bank_in s).phase ng (bank false h)
unfolding does
bank-answer s v h ng = answer-alone s.bu s.bf s.wu s.wf h ∙ update-refuses s v false h ng

does-answer : (s : Stores) → Sound s → (a : Asked) → (does s a).0 ≡ refuse_asked (bank_in s).n (bank_in s).phase (gate_in s).n (with a)
unfolding does gate_update_call gate_update_refusal pair_refusal gate_hold_call hold_refusal bank_of gate_of refuse_asked
does-answer s v (bank c h) =
    answer-same s.bu s.bf s.wu s.wf h c v.bank_passes v.worst_passes v.worst_n
    ∙ update-refuses s (sound-bank s v) c h (gate_in s).n
does-answer s v (gate c h rise drop) =
    ap (λ (a : ℕ × List ℕ × List Float × List ℕ × List ℕ). a.0) (update_same s.bu s.bf s.gu s.gf s.map v.map_passes c h rise drop)
    ∙ gate-answer (gate_update_refusal s.bu s.bf s.gu s.gf (length h.db) (length h.power) (length rise) (length drop)) _ s.gu s.gf
    ∙ rw (v.bank_passes, v.gate_passes)
does-answer s v (hold c rise drop) =
    ap (λ (a : ℕ × List Float × List ℕ × List ℕ). a.0) (hold-same s.bu s.bf s.gu s.gf s.map v.map_passes c rise drop)
    ∙ rw (v.bank_passes, v.gate_passes)
does-answer s v (write i x) = write-answer s.gu s.gf s.map v.gate_passes v.map_passes i x

pub answer-is : (s : Stores) → Sound s → (c : Call) → answer s c ≡ refuse (bank_in s).n (bank_in s).phase (gate_in s).n (arguments c)
unfolding step refuse
answer-is s v c =
    both-by-role (exported (with c.asked)) c.role (λ (x : ℕ × Stores) (r : ℕ). x.0 ≡ r)
    (λ r. (r, s)) (does s c.asked) (λ r. r) (refuse_asked (bank_in s).n (bank_in s).phase (gate_in s).n (with c.asked))
    (does-answer s v c.asked) refl

-- ---- the rises that an accepted call writes

unfoldable pub judged : Stores → AskedWith → List ℕ
judged s (bank c h) = []
judged s (gate c h rise drop) = rise_bytes (update_step (gate_in s) (bank_in s) h.db h.power) (bank_in s)
judged s (hold c rise drop) = rise_bytes (hold_step (gate_in s) (bank_in s)) (bank_in s)
judged s (write i v) = []

rises-done : (s : Stores) → Sound s → (a : Asked) → (does s a).0 ≡ 0 → rises_done s a ≡ judged s (with a)
unfolding rises_done judged does gate_update_call gate_hold_call
rises-done s v (bank c h) e = refl
rises-done s v (gate c h rise drop) e =
    let q = update_same s.bu s.bf s.gu s.gf s.map v.map_passes c h rise drop in
    ap (λ (a : ℕ × List ℕ × List Float × List ℕ × List ℕ). a.3) q
    ∙ ap (λ (r : ℕ). (marks_of r (update_step (gate_in s) (bank_in s) h.db h.power) (bank_in s) rise drop).0)
    (sym (gate-answer (gate_update_refusal s.bu s.bf s.gu s.gf (length h.db) (length h.power) (length rise) (length drop)) _ s.gu s.gf)
    ∙ sym (ap (λ (a : ℕ × List ℕ × List Float × List ℕ × List ℕ). a.0) q)
    ∙ e)
rises-done s v (hold c rise drop) e =
    let q = hold-same s.bu s.bf s.gu s.gf s.map v.map_passes c rise drop in
    ap (λ (a : ℕ × List Float × List ℕ × List ℕ). a.2) q
    ∙ ap (λ (r : ℕ). (marks_of r (hold_step (gate_in s) (bank_in s)) (bank_in s) rise drop).0) (sym (ap (λ (a : ℕ × List Float × List ℕ × List ℕ). a.0) q) ∙ e)
rises-done s v (write i x) e = refl

-- an accepted call was not stopped
pub rises-are : (s : Stores) → Sound s → (c : Call) → answer s c ≡ 0 → rises_of s c ≡ judged s (with c.asked)
unfolding step rises_of
rises-are s v c =
    both-by-role (exported (with c.asked)) c.role (λ (x : ℕ × Stores) (l : List ℕ). x.0 ≡ 0 → l ≡ judged s (with c.asked))
    (λ r. (r, s)) (does s c.asked) (λ _. (marks_before c.asked).0) (rises_done s c.asked)
    (rises-done s v c.asked) (λ e. absurd (omega arith))

-- ---- two sets

pub record Twins (s t : Stores) : Type 0 where
  pub one : Sound s
  pub other : Sound t
  pub n : (bank_in s).n ≡ (bank_in t).n
  pub phase : (bank_in s).phase ≡ (bank_in t).phase
  pub gate_n : (gate_in s).n ≡ (gate_in t).n

pub same_answer : (s t : Stores) → Twins s t → (c d : Call) → arguments c ≡ arguments d → answer s c ≡ answer t d
same_answer s t w c d e =
    answer-is s w.one c
    ∙ (λ i. refuse (w.n i) (w.phase i) (w.gate_n i) (e i))
    ∙ sym (answer-is t w.other d)

bank-key : (b d : FloorBank) (hs : List Hop) → Good b → Good d → b.n ≡ d.n → b.phase ≡ d.phase
    → ((run_bank b hs).n ≡ (run_bank d hs).n) × ((run_bank b hs).phase ≡ (run_bank d hs).phase)
bank-key b d hs g q n p = (
  n-run hs b ∙ n ∙ sym (n-run hs d),
  phase-run hs b b.phase (omega (arith, g.phase)) ∙ ap (λ (i : ℕ). (i + length hs) % decimation_hops) p ∙ sym (phase-run hs d d.phase (omega (arith, q.phase))),
)

twins-left : (s t : Stores) → Twins s t → (c d : Call) → arguments c ≡ arguments d → Twins (left s c) (left t d)
twins-left s t w c d e =
    record {
      one = sound-left s c w.one;
      other = sound-left t d w.other;
      n = rw (l.bank_is, r.bank_is, ← hops) k.0;
      phase = rw (l.bank_is, r.bank_is, ← hops) k.1;
      gate_n =
          ap (λ (g : Gate). g.n) (bare-left s c w.one)
          ∙ (make-run (gate_hop (answer s c) (with c.asked)) (bare (gate_in s))).n
          ∙ w.gate_n
          ∙ sym (make-run (gate_hop (answer t d) (with d.asked)) (bare (gate_in t))).n
          ∙ sym (ap (λ (g : Gate). g.n) (bare-left t d w.other));
    }
  where
    l : LeftBank s (with c.asked) (step s c)
    l = left-bank s (sound-bank s w.one) c

    r : LeftBank t (with d.asked) (step t d)
    r = left-bank t (sound-bank t w.other) d

    hops : bank_hop (answer s c) (with c.asked) ≡ bank_hop (answer t d) (with d.asked)
    hops = ap₂ bank_hop (same_answer s t w c d e) (ap (λ (a : Arguments). a.asked) e)

    k : ((run_bank (bank_in s) (bank_hop (answer s c) (with c.asked))).n ≡ (run_bank (bank_in t) (bank_hop (answer s c) (with c.asked))).n)
        × ((run_bank (bank_in s) (bank_hop (answer s c) (with c.asked))).phase ≡ (run_bank (bank_in t) (bank_hop (answer s c) (with c.asked))).phase)
    k = bank-key (bank_in s) (bank_in t) (bank_hop (answer s c) (with c.asked)) w.one.bank_good w.other.bank_good w.n w.phase

-- the same list after both
pub record SameRun (s t : Stores) (cs ds : List Call) : Type 0 where
  pub same_answers : answers s cs ≡ answers t ds
  pub same_bank : bank_hops s cs ≡ bank_hops t ds
  pub same_gate : gate_hops s cs ≡ gate_hops t ds
  pub twins : Twins (left_by s cs) (left_by t ds)

pub same-run : (cs ds : List Call) (s t : Stores) → Twins s t → map arguments cs ≡ map arguments ds → SameRun s t cs ds
same-run [] [] s t w e = record { same_answers = refl; same_bank = refl; same_gate = refl; twins = w }
same-run [] (d ∷ ds) s t w e = absurd (omega (arith, ap length e))
same-run (c ∷ cs) [] s t w e = absurd (omega (arith, ap length e))
same-run (c ∷ cs) (d ∷ ds) s t w e =
    let e₀ : arguments c ≡ arguments d = cc in
    let e₁ : map arguments cs ≡ map arguments ds = cc in
    let a = same_answer s t w c d e₀ in
    let r = same-run cs ds (left s c) (left t d) (twins-left s t w c d e₀) e₁ in
    record {
      same_answers = λ i. a i ∷ r.same_answers i;
      same_bank = λ i. bank_hop (a i) (e₀ i).asked ++ r.same_bank i;
      same_gate = λ i. gate_hop (a i) (e₀ i).asked ++ r.same_gate i;
      twins = r.twins;
    }
