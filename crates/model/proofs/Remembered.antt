-- R-3's two claims, proved: pairs stay true, and a set that remembers its thresholds is seen to do what one does that remembers nothing.
-- Assumes nothing.
use mathlib.Core.Path.{◌≡◌, refl, sym, ap, ap₂, subst, ◌∙◌}
use mathlib.Core.Bool.{Bool, not}
use mathlib.Core.List.{List, [], ◌∷◌}
use Prim.Native.Nat.{ℕ, zero, suc}
use lib.Dec.{ltb}
use lib.ListN.{length, get_or}
use lib.Ieee.{Float}
use Rattle.laws.specs.Tests.{first}
use Rattle.model.specs.Bank.{FloorBank, Hop}
use Rattle.model.specs.Stores.{bank_of}
use Rattle.model.specs.WorstCalls.{Answered, update_if}
use Rattle.model.specs.Gate.{Gate, gate_step, update_step, hold_step, rise_bytes, drop_bytes}
use Rattle.model.specs.GateStores.{gate_of}
use Rattle.model.specs.GateCalls.{GateHop, gate_refusal, pair_refusal, gate_update_refusal, hold_refusal, gate_leaves, marks_of, gate_update_call, gate_hold_call}
use Rattle.model.specs.GoodGate.{GoodGate}
use Rattle.model.specs.Map.{map_long}
use Rattle.model.specs.MapCalls.{map_refusal}
use Rattle.model.specs.Demand3.{Asked, Call, bank, gate, hold, write, Stores, Lent, AskedWith, does, step, answer, left, with, exported, marks_before, gate_hop, bank_in, Making, made, Made}
use Rattle.roles.proofs.Roles.{both-by-role}
use Rattle.model.specs.Sets.{gate_in, Sound}
use Rattle.model.specs.Anew.{rise_bytes_anew, marks_anew, gate_update_anew, gate_hold_anew, done_anew, left_anew, shown_anew, seen_anew, all_seen_anew}
use Rattle.model.specs.Remembered.{PairsTrue, StayTrue, shown, seen, all_seen, AsAnew}
use Rattle.model.proofs.GoodGates.{n-of, gate-back, gate_passes}
use Rattle.model.proofs.FreshGates.{bare, good-gate-step}
use Rattle.model.proofs.Pairs.{true-fresh, update-anew, hold-anew, bare_step, bare-update, bare-hold, bare-drops, bare-rises}
use Rattle.model.proofs.Rises.{run_gate, make-run}
use Rattle.model.proofs.MapReach.{write-answer}
use Rattle.model.proofs.MapCarried.{hold-same, update_same}
use Rattle.model.proofs.Calls.{gate-answer, bare-left, sound-left, true-left, true-run}
use Rattle.model.proofs.Made.{settings, gate-made, sound-made}

true-made : (k : Making) (p : Lent) → Made k p → PairsTrue (gate_in (made k p))
true-made k p d = subst PairsTrue (sym (gate-made k p d.gate)) (true-fresh (settings k))

pub stay-true : StayTrue
stay-true k p d cs = true-run cs (made k p) (sound-made k p d) (true-made k p d)

-- ---- a set that remembers, in s, beside one that doesn't, in t

record Beside (s t : Stores) : Type 0 where
  one : Sound s
  true_pairs : PairsTrue (gate_in s)
  bu : s.bu ≡ t.bu
  bf : s.bf ≡ t.bf
  wu : s.wu ≡ t.wu
  wf : s.wf ≡ t.wf
  passes : gate_refusal t.gu t.gf ≡ 0
  good : GoodGate (gate_in t)
  gates : bare (gate_in s) ≡ bare (gate_in t)
  map_passes : map_refusal (get_or t.gu 0 0) t.map ≡ 0

-- ---- what is refused

update-refusals : (bu : List ℕ) (bf : List Float) (u v : List ℕ) (f e : List Float) → gate_refusal u f ≡ 0 → gate_refusal v e ≡ 0 → get_or u 0 0 ≡ get_or v 0 0
    → (db power rise drop : ℕ) → gate_update_refusal bu bf u f db power rise drop ≡ gate_update_refusal bu bf v e db power rise drop
unfolding gate_update_refusal pair_refusal
update-refusals bu bf u v f e p q n db power rise drop = rw (p, q, n)

hold-refusals : (bu : List ℕ) (bf : List Float) (u v : List ℕ) (f e : List Float) → gate_refusal u f ≡ 0 → gate_refusal v e ≡ 0 → get_or u 0 0 ≡ get_or v 0 0
    → (rise drop : ℕ) → hold_refusal bu bf u f rise drop ≡ hold_refusal bu bf v e rise drop
unfolding hold_refusal pair_refusal
hold-refusals bu bf u v f e p q n rise drop = rw (p, q, n)

-- ---- what is marked

marks-same : (r : ℕ) (g h : Gate) (b : FloorBank) (rise drop : List ℕ) → rise_bytes g b ≡ rise_bytes_anew h b → drop_bytes g b ≡ drop_bytes h b
    → marks_of r g b rise drop ≡ marks_anew r h b rise drop
marks-same zero g h b rise drop d e = ap₂ (λ (x y : List ℕ). (x, y)) d e
marks-same (suc r) g h b rise drop d e = refl

-- of two gates that are alike but for their pairs, those of the first true
module _ (g h : Gate) (b : FloorBank) (p : PairsTrue g) (e : bare g ≡ bare h) where
  hold-rises : rise_bytes (hold_step g b) b ≡ rise_bytes_anew h b
  hold-rises = hold-anew g b p ∙ bare-rises g b ∙ ap (λ (x : Gate). rise_bytes_anew x b) e ∙ sym (bare-rises h b)

  hold-drops : drop_bytes (hold_step g b) b ≡ drop_bytes h b
  hold-drops = bare-drops (hold_step g b) b ∙ ap (λ (x : Gate). drop_bytes x b) (bare-hold g b ∙ e) ∙ sym (bare-drops h b)

  module _ (db power : List Float) where
    stepped : gate_step (bare g) db power ≡ bare (gate_step h db power)
    stepped = ap (λ (x : Gate). gate_step x db power) e ∙ sym (bare_step h db power)

    update-rises : rise_bytes (update_step g b db power) b ≡ rise_bytes_anew (gate_step h db power) b
    update-rises =
        update-anew g b db power p
        ∙ bare-rises (gate_step g db power) b
        ∙ ap (λ (x : Gate). rise_bytes_anew x b) (bare_step g db power ∙ stepped)
        ∙ sym (bare-rises (gate_step h db power) b)

    update-drops : drop_bytes (update_step g b db power) b ≡ drop_bytes (gate_step h db power) b
    update-drops =
        bare-drops (update_step g b db power) b
        ∙ ap (λ (x : Gate). drop_bytes x b) (bare-update g b db power ∙ stepped)
        ∙ sym (bare-drops (gate_step h db power) b)

same_n : (s t : Stores) → Beside s t → get_or s.gu 0 0 ≡ get_or t.gu 0 0
same_n s t w = sym (n-of s.gu s.gf) ∙ ap (λ (g : Gate). g.n) w.gates ∙ n-of t.gu t.gf

same_bank : (s t : Stores) → Beside s t → bank_in s ≡ bank_in t
same_bank s t w = ap₂ bank_of w.bu w.bf

-- an answer with the marks
abbrev marked : ℕ → List ℕ × List ℕ → ℕ × List ℕ × List ℕ
marked r m = (r, m.0, m.1)

same-shown : (s t : Stores) → Beside s t → (a : Asked) → shown s a ≡ shown_anew t a
unfolding shown shown_anew gate_update_call gate_update_anew gate_hold_call gate_hold_anew
same-shown s t w (bank c h) = λ i. ((update_if c (w.bu i) (w.bf i) (w.wu i) (w.wf i) h).0, [], [])
same-shown s t w (gate c h rise drop) =
    let G = update_step (gate_in s) (bank_in s) h.db h.power in
    let H = gate_step (gate_in t) h.db h.power in
    let r = gate_update_refusal s.bu s.bf s.gu s.gf (length h.db) (length h.power) (length rise) (length drop) in
    let r' = gate_update_refusal t.bu t.bf t.gu t.gf (length h.db) (length h.power) (length rise) (length drop) in
    let e : r ≡ r' =
    ap₂ (λ (u : List ℕ) (f : List Float). gate_update_refusal u f s.gu s.gf (length h.db) (length h.power) (length rise) (length drop)) w.bu w.bf
    ∙ update-refusals t.bu t.bf s.gu t.gu s.gf t.gf w.one.gate_passes w.passes (same_n s t w) _ _ _ _ in
    ap (λ (a : ℕ × List ℕ × List Float × List ℕ × List ℕ). (a.0, a.3, a.4)) (update_same s.bu s.bf s.gu s.gf s.map w.one.map_passes c h rise drop)
    ∙ ap (λ (x : ℕ). marked x (marks_of r G (bank_in s) rise drop)) (gate-answer r G s.gu s.gf)
    ∙ ap (marked r)
    (marks-same r G H (bank_in s) rise drop (update-rises (gate_in s) (gate_in t) (bank_in s) w.true_pairs w.gates h.db h.power)
    (update-drops (gate_in s) (gate_in t) (bank_in s) w.true_pairs w.gates h.db h.power))
    ∙ ap₂ (λ (x : ℕ) (b : FloorBank). marked x (marks_anew x H b rise drop)) e (same_bank s t w)
    ∙ sym (ap (λ (x : ℕ). marked x (marks_anew r' H (bank_in t) rise drop)) (gate-answer r' H t.gu t.gf))
same-shown s t w (hold c rise drop) =
    let r = hold_refusal s.bu s.bf s.gu s.gf (length rise) (length drop) in
    let r' = hold_refusal t.bu t.bf t.gu t.gf (length rise) (length drop) in
    let e : r ≡ r' =
    ap₂ (λ (u : List ℕ) (f : List Float). hold_refusal u f s.gu s.gf (length rise) (length drop)) w.bu w.bf
    ∙ hold-refusals t.bu t.bf s.gu t.gu s.gf t.gf w.one.gate_passes w.passes (same_n s t w) _ _ in
    ap (λ (a : ℕ × List Float × List ℕ × List ℕ). (a.0, a.2, a.3)) (hold-same s.bu s.bf s.gu s.gf s.map w.one.map_passes c rise drop)
    ∙ ap (marked r)
    (marks-same r (hold_step (gate_in s) (bank_in s)) (gate_in t) (bank_in s) rise drop (hold-rises (gate_in s) (gate_in t) (bank_in s) w.true_pairs w.gates)
    (hold-drops (gate_in s) (gate_in t) (bank_in s) w.true_pairs w.gates))
    ∙ ap₂ (λ (x : ℕ) (b : FloorBank). marked x (marks_anew x (gate_in t) b rise drop)) e (same_bank s t w)
same-shown s t w (write i v) =
    ap (λ (x : ℕ). (x, [], []))
    (write-answer s.gu s.gf s.map w.one.gate_passes w.one.map_passes i v
    ∙ ap (λ (n : ℕ). first (not (ltb i (map_long n))) 15 0) (same_n s t w)
    ∙ sym (write-answer t.gu t.gf t.map w.passes w.map_passes i v))

same_seen : (s t : Stores) → Beside s t → (c : Call) → seen s c ≡ seen_anew t c
unfolding seen seen_anew
same_seen s t w c =
    both-by-role (exported (with c.asked)) c.role (λ (x y : ℕ × List ℕ × List ℕ). x ≡ y)
    (λ r. marked r (marks_before c.asked)) (shown s c.asked) (λ r. marked r (marks_before c.asked)) (shown_anew t c.asked)
    (same-shown s t w c.asked) refl

-- ---- what is left

-- of what is asked, a, with answer r and stores u
record LeftAnew (t : Stores) (a : AskedWith) (r : ℕ) (u : Stores) : Type 0 where
  passes : gate_refusal u.gu u.gf ≡ 0
  good : GoodGate (gate_in u)
  gate_is : bare (gate_in u) ≡ run_gate (bare (gate_in t)) (gate_hop r a)
  map_stays : u.map ≡ t.map

leaves-anew : (u : List ℕ) (f : List Float) (c : Bool) (h : GateHop) (i j : ℕ) → gate_refusal u f ≡ 0 → GoodGate (gate_of u f) → (r : ℕ)
    → let G = gate_step (gate_of u f) h.db h.power in
    let left = gate_leaves r G u f in
    (gate_refusal left.1 left.2 ≡ 0) × GoodGate (gate_of left.1 left.2)
    × (bare (gate_of left.1 left.2) ≡ run_gate (bare (gate_of u f)) (gate_hop left.0 (gate c h i j)))
leaves-anew u f c h i j p g zero =
    let G = gate_step (gate_of u f) h.db h.power in
    let q = good-gate-step (gate_of u f) h.db h.power g in
    (gate_passes G q, subst GoodGate (sym (gate-back G q)) q, ap bare (gate-back G q) ∙ bare_step (gate_of u f) h.db h.power)
leaves-anew u f c h i j p g (suc r) = (p, g, refl)

no-hop : (r : ℕ) (c : Bool) (h : Hop) → gate_hop r (bank c h) ≡ []
no-hop zero c h = refl
no-hop (suc r) c h = refl

no-hop-held : (r : ℕ) (c : Bool) (i j : ℕ) → gate_hop r (hold c i j) ≡ []
no-hop-held zero c i j = refl
no-hop-held (suc r) c i j = refl

no-hop-write : (r i v : ℕ) → gate_hop r (write i v) ≡ []
no-hop-write zero i v = refl
no-hop-write (suc r) i v = refl

done-anew : (t : Stores) → gate_refusal t.gu t.gf ≡ 0 → GoodGate (gate_in t) → (a : Asked) → LeftAnew t (with a) (shown_anew t a).0 (done_anew t a)
unfolding done_anew shown_anew gate_update_anew
done-anew t p g (bank c h) =
    record { passes = p; good = g; gate_is = sym (ap (run_gate (bare (gate_in t))) (no-hop (shown_anew t (bank c h)).0 c h)); map_stays = refl }
done-anew t p g (gate c h rise drop) =
    let l = leaves-anew t.gu t.gf c h (length rise) (length drop) p g
    (gate_update_refusal t.bu t.bf t.gu t.gf (length h.db) (length h.power) (length rise) (length drop)) in
    record { passes = l.0; good = l.1; gate_is = l.2; map_stays = refl }
done-anew t p g (hold c rise drop) =
    record {
      passes = p;
      good = g;
      gate_is = sym (ap (run_gate (bare (gate_in t))) (no-hop-held (shown_anew t (hold c rise drop)).0 c (length rise) (length drop)));
      map_stays = refl;
    }
done-anew t p g (write i v) =
    record { passes = p; good = g; gate_is = sym (ap (run_gate (bare (gate_in t))) (no-hop-write (shown_anew t (write i v)).0 i v)); map_stays = refl }

left-anew : (t : Stores) → gate_refusal t.gu t.gf ≡ 0 → GoodGate (gate_in t) → (c : Call)
    → LeftAnew t (with c.asked) (seen_anew t c).0 (left_anew t c)
unfolding left_anew seen_anew
left-anew t p g c =
    both-by-role (exported (with c.asked)) c.role (λ (x : ℕ × List ℕ × List ℕ) (u : Stores). LeftAnew t (with c.asked) x.0 u)
    (λ r. marked r (marks_before c.asked)) (shown_anew t c.asked) (λ _. t) (done_anew t c.asked)
    (done-anew t p g c.asked) (record { passes = p; good = g; gate_is = refl; map_stays = refl })

-- which keeps its n and its map
n-anew : (t : Stores) (c : Call) → LeftAnew t (with c.asked) (seen_anew t c).0 (left_anew t c) → get_or (left_anew t c).gu 0 0 ≡ get_or t.gu 0 0
n-anew t c l =
    sym (n-of (left_anew t c).gu (left_anew t c).gf)
    ∙ ap (λ (g : Gate). g.n) l.gate_is
    ∙ (make-run (gate_hop (seen_anew t c).0 (with c.asked)) (bare (gate_in t))).n
    ∙ n-of t.gu t.gf

-- both leave the same bank, and the same store of R-6 beside it
abbrev SameBanks : Stores → Stores → Type 0
SameBanks s t = (s.bu ≡ t.bu) × (s.bf ≡ t.bf) × (s.wu ≡ t.wu) × (s.wf ≡ t.wf)

bank-done : (s t : Stores) → Beside s t → (a : Asked) → SameBanks (does s a).1 (done_anew t a)
unfolding does done_anew
bank-done s t w (bank c h) =
    let e : update_if c s.bu s.bf s.wu s.wf h ≡ update_if c t.bu t.bf t.wu t.wf h =
    λ i. update_if c (w.bu i) (w.bf i) (w.wu i) (w.wf i) h in
    (ap (λ (a : Answered). a.1) e, ap (λ (a : Answered). a.2) e, ap (λ (a : Answered). a.3) e, ap (λ (a : Answered). a.4) e)
bank-done s t w (gate c h rise drop) = (w.bu, w.bf, w.wu, w.wf)
bank-done s t w (hold c rise drop) = (w.bu, w.bf, w.wu, w.wf)
bank-done s t w (write i v) = (w.bu, w.bf, w.wu, w.wf)

bank-left : (s t : Stores) → Beside s t → (c : Call) → SameBanks (left s c) (left_anew t c)
unfolding step left_anew
bank-left s t w c =
    both-by-role (exported (with c.asked)) c.role (λ (x : ℕ × Stores) (u : Stores). SameBanks x.1 u)
    (λ r. (r, s)) (does s c.asked) (λ _. t) (done_anew t c.asked) (bank-done s t w c.asked) (w.bu, w.bf, w.wu, w.wf)

done-answered : (s : Stores) (a : Asked) → (does s a).0 ≡ (shown s a).0
unfolding does shown
done-answered s (bank c h) = refl
done-answered s (gate c h rise drop) = refl
done-answered s (hold c rise drop) = refl
done-answered s (write i v) = refl

answered : (s : Stores) (c : Call) → answer s c ≡ (seen s c).0
unfolding step seen
answered s c =
    both-by-role (exported (with c.asked)) c.role (λ (x : ℕ × Stores) (y : ℕ × List ℕ × List ℕ). x.0 ≡ y.0)
    (λ r. (r, s)) (does s c.asked) (λ r. marked r (marks_before c.asked)) (shown s c.asked) (done-answered s c.asked) refl

beside-left : (s t : Stores) → Beside s t → (c : Call) → Beside (left s c) (left_anew t c)
beside-left s t w c =
    let l = left-anew t w.passes w.good c in
    let b = bank-left s t w c in
    let a : answer s c ≡ (seen_anew t c).0 = answered s c ∙ ap (λ (m : ℕ × List ℕ × List ℕ). m.0) (same_seen s t w c) in
    record {
      one = sound-left s c w.one;
      true_pairs = true-left s c w.one w.true_pairs;
      bu = b.0;
      bf = b.1;
      wu = b.2;
      wf = b.3;
      passes = l.passes;
      good = l.good;
      map_passes = ap₂ map_refusal (n-anew t c l) l.map_stays ∙ w.map_passes;
      gates = bare-left s c w.one ∙ (λ i. run_gate (w.gates i) (gate_hop (a i) (with c.asked))) ∙ sym l.gate_is;
    }

all_same : (cs : List Call) (s t : Stores) → Beside s t → all_seen s cs ≡ all_seen_anew t cs
all_same [] s t w = refl
all_same (c ∷ cs) s t w = ap₂ ◌∷◌ (same_seen s t w c) (all_same cs (left s c) (left_anew t c) (beside-left s t w c))

pub as-anew : AsAnew
as-anew k p d cs =
    let v = sound-made k p d in
    all_same cs (made k p) (made k p)
    (record {
      one = v;
      true_pairs = true-made k p d;
      bu = refl;
      bf = refl;
      wu = refl;
      wf = refl;
      passes = v.gate_passes;
      good = v.gate_good;
      gates = refl;
      map_passes = v.map_passes;
    })
