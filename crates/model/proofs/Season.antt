-- R-14: R-3, sound stores and demand 3 for a set whose gate was remade. Assumes nothing.
use mathlib.Core.Path.{◌≡◌, refl, sym, ap, ap₂, ◌∙◌, subst}
use mathlib.Core.List.{List, [], ◌∷◌, ◌++◌, map, append_assoc, append-nil}
use Prim.Native.Nat.{ℕ, zero, suc}
use lib.ListN.{length, get_or, replicate}
use lib.IntN.{ℤ}
use lib.Ieee.{Float, nan}
use Rattle.laws.proofs.Tabs.{map-tab}
use Rattle.model.specs.Numbers.{f0}
use Rattle.model.specs.Bank.{FloorBank, Hop}
use Rattle.model.specs.Windows.{PowerLooks, fresh_look}
use Rattle.model.specs.Gate.{Gate, distinct, fresh_gate}
use Rattle.model.specs.GateStores.{gate_u16s, gate_floats, gate_of}
use Rattle.model.specs.GateCalls.{GateHop, stored, gate_make_refusal, settings_of, gate_leaves}
use Rattle.model.specs.MapCalls.{map_refusal}
use Rattle.model.specs.GoodGate.{GoodGate, GateReady}
use Rattle.roles.specs.Rights.{gate_remake}
use Rattle.model.specs.Demand3.{Call, Stores, answer, left, with, bank_hop, gate_hop, Making, Lent, made, Made}
use Rattle.model.specs.Sets.{gate_in, Sound}
use Rattle.model.specs.Remembered.{PairsTrue}
use Rattle.model.specs.Remake.{lengths_in, remake_refusal, gate_remake_call, Turn, call, remake, Levels, turn, turned, turn_hop, hops_heard, since_fresh, hops_since_fresh, in_force, levels_in_force, levels_of, with_levels, StayTrueRemade, StaySoundRemade, Season}
use Rattle.model.proofs.GoodGates.{gate-ready, gate-back, gate_passes, n-of, looks-of}
use Rattle.model.proofs.FreshGates.{bare, good-fresh-gate}
use Rattle.model.proofs.Pairs.{true-fresh}
use Rattle.model.proofs.Windows.{run_look, m-run}
use Rattle.model.proofs.SettledFloors.{run_bank}
use Rattle.model.proofs.Rises.{run_gate, fresh-looks}
use Rattle.roles.proofs.Roles.{by-role}
use Rattle.model.proofs.Remake.{lengths-distinct, makes}
use Rattle.model.proofs.Calls.{sound-bank, left-bank, sound-left, true-left, bare-left, bank-append, gate-append}
use Rattle.model.proofs.Made.{settings, taken, lengths-good}
use Rattle.model.proofs.Demand3.{Heard, make-heard, heard, whole}

-- ---- a call

heard-call : (k : Making) (s : Stores) (bs : List Hop) (gs : List GateHop) → Heard k s bs gs → (c : Call)
    → Heard k (left s c) (bs ++ bank_hop (answer s c) (with c.asked)) (gs ++ gate_hop (answer s c) (with c.asked))
heard-call k s bs gs d c =
    record {
      sound = sound-left s c d.sound;
      true_pairs = true-left s c d.sound d.true_pairs;
      bank =
          (left-bank s (sound-bank s d.sound) c).bank_is
          ∙ ap (λ (b : FloorBank). run_bank b (bank_hop (answer s c) (with c.asked))) d.bank
          ∙ sym (bank-append bs (bank_hop (answer s c) (with c.asked)) _);
      gate =
          bare-left s c d.sound
          ∙ ap (λ (g : Gate). run_gate g (gate_hop (answer s c) (with c.asked))) d.gate
          ∙ sym (gate-append gs (gate_hop (answer s c) (with c.asked)) _);
    }

-- ---- a remake

-- the lengths stay those that were made
same-lengths : (n : ℕ) (hs : List GateHop) (ms : List ℕ)
    → map (λ (l : PowerLooks). l.m) (map (λ (m : ℕ). run_look n (fresh_look n m) hs) ms) ≡ ms
same-lengths n hs [] = refl
same-lengths n hs (m ∷ ms) = ap₂ (λ (a : ℕ) (r : List ℕ). a ∷ r) (m-run n hs (fresh_look n m) ∙ (unfold fresh_look in refl)) (same-lengths n hs ms)

lengths-stored : (u : List ℕ) (f : List Float) → lengths_in u ≡ map (λ (l : PowerLooks). l.m) (gate_of u f).looks
lengths-stored u f = sym (ap (map (λ (l : PowerLooks). l.m)) (looks-of u f) ∙ map-tab (λ (l : PowerLooks). l.m) (get_or u 5 0) _)

module _ (k : Making) (s : Stores) (bs : List Hop) (gs : List GateHop) (d : Heard k s bs gs) (role : ℕ) (on off early : ℤ) where
  ready : GateReady s.gu s.gf
  ready = gate-ready s.gu s.gf d.sound.gate_passes

  lengths-heard : lengths_in s.gu ≡ distinct [] k.lengths
  unfolding settings_of
  lengths-heard =
      lengths-stored s.gu s.gf
      ∙ ap (λ (g : Gate). map (λ (l : PowerLooks). l.m) g.looks) d.gate
      ∙ ap (map (λ (l : PowerLooks). l.m)) (fresh-looks (settings k) gs)
      ∙ same-lengths k.gate_n gs (distinct [] k.lengths)

  n-stored : get_or s.gu 0 0 ≡ k.gate_n
  n-stored = sym (n-of s.gu s.gf) ∙ (make-heard k s bs gs d).n ∙ (unfold fresh_gate settings_of in refl)

  abbrev remade_as : Making
  remade_as = record { n = k.n; gate_n = get_or s.gu 0 0; on = on; off = off; early = early; lengths = lengths_in s.gu }

  abbrev fresh : Gate
  fresh = fresh_gate (settings_of (get_or s.gu 0 0) on off early (lengths_in s.gu))

  -- which is the gate of those settings with the lengths as they were handed over
  fresh-as : fresh ≡ fresh_gate (settings (with_levels k (record { on = on; off = off; early = early })))
  unfolding fresh_gate settings_of
  fresh-as =
      ap₂
      (λ (n : ℕ) (ms : List ℕ).
      record {
        n = n;
        started = 0;
        on = stored on;
        off = stored off;
        early = stored early;
        looks = map (fresh_look n) ms;
        smooth = replicate n f0;
        used = replicate n nan;
        threshold = replicate n f0;
      }
      ) n-stored (lengths-distinct s.gu s.gf ready ∙ lengths-heard)

  -- the set with the gate remade, where making takes the levels
  module _ (takes : remake_refusal s.gu s.gf on off early ≡ 0) where
    made_again : gate_make_refusal (length s.gu) (length s.gf) (get_or s.gu 0 0) on off early (lengths_in s.gu) ≡ 0
    made_again =
        makes s.gu s.gf ready on off early
        ∙ (unfold remake_refusal in rw d.sound.gate_passes at takes)

    good-again : GoodGate fresh
    unfolding settings_of
    good-again =
        let t = taken remade_as (length s.gu) (length s.gf) made_again in
        good-fresh-gate (settings remade_as) t.low t.high t.on t.off t.early t.lengths

    abbrev after : Stores
    after = record { bu = s.bu; bf = s.bf; gu = gate_u16s fresh; gf = gate_floats fresh; wu = s.wu; wf = s.wf; map = s.map }

    gate-again : gate_in after ≡ fresh
    gate-again = gate-back fresh good-again

    n-again : get_or (gate_u16s fresh) 0 0 ≡ get_or s.gu 0 0
    n-again = (unfold fresh_gate settings_of in refl)

    sound-again : Sound after
    sound-again =
        let v = d.sound in
        record {
          bank_passes = v.bank_passes;
          bank_good = v.bank_good;
          gate_passes = gate_passes fresh good-again;
          gate_good = subst GoodGate (sym gate-again) good-again;
          worst_passes = v.worst_passes;
          worst_good = v.worst_good;
          worst_n = v.worst_n;
          map_passes = ap (λ (n : ℕ). map_refusal n s.map) n-again ∙ v.map_passes;
        }

    heard-again : Heard (with_levels k (record { on = on; off = off; early = early })) after bs []
    heard-again =
        record {
          sound = sound-again;
          true_pairs = subst PairsTrue (sym gate-again) (true-fresh (settings_of (get_or s.gu 0 0) on off early (lengths_in s.gu)));
          bank = d.bank;
          gate = ap bare (gate-again ∙ fresh-as);
        }

  -- by its answer r and what it leaves, x
  abbrev Then : ℕ × Stores → Type 0
  Then x = Heard (with_levels k (in_force (levels_of k) x.0 (remake role on off early))) x.1 bs (since_fresh gs x.0 (remake role on off early))

  by_answer : (r : ℕ) → remake_refusal s.gu s.gf on off early ≡ r
      → let a = gate_leaves r fresh s.gu s.gf in
      Then (a.0, record { bu = s.bu; bf = s.bf; gu = a.1; gf = a.2; wu = s.wu; wf = s.wf; map = s.map })
  by_answer zero e = heard-again e
  by_answer (suc r) e = d

  heard-remake : Then (turn s (remake role on off early))
  unfolding turn gate_remake_call
  heard-remake = by-role gate_remake role Then (λ r. (r, s)) _ (by_answer (remake_refusal s.gu s.gf on off early) refl) d

-- ---- a list of them

heard-turn : (k : Making) (l : Levels) (s : Stores) (bs : List Hop) (gs : List GateHop) → Heard (with_levels k l) s bs gs → (t : Turn)
    → Heard (with_levels k (in_force l (turn s t).0 t)) (turn s t).1 (bs ++ turn_hop (turn s t).0 t) (since_fresh gs (turn s t).0 t)
unfolding turn
heard-turn k l s bs gs d (call c) = heard-call (with_levels k l) s bs gs d c
heard-turn k l s bs gs d (remake role on off early) =
    let t = remake role on off early in
    subst (λ (hs : List Hop). Heard (with_levels k (in_force l (turn s t).0 t)) (turn s t).1 hs (since_fresh gs (turn s t).0 t)) (sym (append-nil bs))
    (heard-remake (with_levels k l) s bs gs d role on off early)

heard-turns : (k : Making) (ts : List Turn) (l : Levels) (s : Stores) (bs : List Hop) (gs : List GateHop) → Heard (with_levels k l) s bs gs
    → Heard (with_levels k (levels_in_force l s ts)) (turned s ts) (bs ++ hops_heard s ts) (hops_since_fresh gs s ts)
heard-turns k [] l s bs gs d = subst (λ (hs : List Hop). Heard (with_levels k l) s hs gs) (sym (append-nil bs)) d
heard-turns k (t ∷ ts) l s bs gs d =
    subst
    (λ (hs : List Hop).
    Heard (with_levels k (levels_in_force (in_force l (turn s t).0 t) (turn s t).1 ts)) (turned (turn s t).1 ts) hs
    (hops_since_fresh (since_fresh gs (turn s t).0 t) (turn s t).1 ts))
    (append_assoc bs (turn_hop (turn s t).0 t) (hops_heard (turn s t).1 ts))
    (heard-turns k ts (in_force l (turn s t).0 t) (turn s t).1 (bs ++ turn_hop (turn s t).0 t) (since_fresh gs (turn s t).0 t) (heard-turn k l s bs gs d t))

heard-season : (k : Making) (p : Lent) → Made k p → (ts : List Turn)
    → Heard (with_levels k (levels_in_force (levels_of k) (made k p) ts)) (turned (made k p) ts) (hops_heard (made k p) ts) (hops_since_fresh [] (made k p) ts)
heard-season k p d ts = heard-turns k ts (levels_of k) (made k p) [] [] (heard k p d [])

-- ---- the claims

pub stay-true-remade : StayTrueRemade
stay-true-remade k p d ts = (heard-season k p d ts).true_pairs

pub stay-sound-remade : StaySoundRemade
stay-sound-remade k p d ts = (heard-season k p d ts).sound

pub season : Season
season k l p q mp mq same xs ys eb eg el fs gs e =
    let K = with_levels k (levels_in_force (levels_of k) (made k p) xs) in
    let L = with_levels l (levels_in_force (levels_of l) (made l q) ys) in
    let KL : K ≡ L =
    λ i. record { n = same.n i; gate_n = same.gate_n i; on = (el i).on; off = (el i).off; early = (el i).early; lengths = same.lengths i } in
    whole K (lengths-good k p mp.gate) (turned (made k p) xs) (turned (made l q) ys) (hops_heard (made k p) xs) (hops_heard (made l q) ys)
    (hops_since_fresh [] (made k p) xs) (hops_since_fresh [] (made l q) ys) (heard-season k p mp xs)
    (subst (λ (m : Making). Heard m (turned (made l q) ys) (hops_heard (made l q) ys) (hops_since_fresh [] (made l q) ys)) (sym KL) (heard-season l q mq ys)) eb eg fs gs e
