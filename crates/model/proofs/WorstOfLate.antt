-- Lists of calls that carry the store of R-6, proved: what is read after them, that the stores stay sound, and that bank and gate do not
-- notice. Assumes nothing.
use mathlib.Core.Path.{◌≡◌, refl, sym, ap, ap₂, subst, ◌∙◌}
use mathlib.Core.Bool.{Bool}
use mathlib.Core.List.{List, [], ◌∷◌, ◌++◌, map, append_assoc, append-nil}
use Prim.Native.Nat.{ℕ, ◌<◌}
use native.Mathlib.Omega.{arith}
use lib.ListN.{get_or}
use lib.Ieee.{Float}
use borrow.Author.Tests.{lt-ltb, eq-eqb}
use Rattle.model.specs.Bank.{FloorBank, fresh_bank}
use Rattle.model.specs.Stores.{bank_of}
use Rattle.model.specs.Refusals.{read_refusal}
use Rattle.model.specs.Readings.{effective_at}
use Rattle.model.specs.Worst.{Worst, fresh_worst, worst_of, worst_at, highest, latest}
use Rattle.model.specs.WorstCalls.{beside_refusal, worst_read_refusal, worst_reading}
use Rattle.refusals.specs.Readings.{reading}
use Rattle.model.specs.Demand3.{with, Call, Stores, answer, left, left_by, answers, bank_hop, bank_in, Making, Lent, made}
use Rattle.model.specs.Sets.{worst_in}
use Rattle.model.specs.WorstOfLate.{plain, counts, slow_bank, slow_banks, floors_in, Fresh, WorstIs, WorstSound, Unnoticed}
use Rattle.model.proofs.Queue.{newest-all}
use Rattle.model.proofs.WorstTurns.{map-latest}
use Rattle.model.proofs.SettledFloors.{run_bank}
use Rattle.model.proofs.Carrying.{span-worst-after}
use Rattle.model.proofs.Calls.{SoundBank, SoundWorst, left-bank, left-worst, bank-left, worst-left, bank-n-left, worst-n-left}
use Rattle.model.proofs.Made.{bank-made, sound-bank-made, store-made, sound-worst-made}
use Rattle.model.proofs.WorstKept.{held, Kept, step_same, counts-at, turns}

-- ---- one call

module _ (n W : ℕ) (s t : Stores) (bs : List FloorBank) (q : Kept n W s t bs) where
  kept : (c : Call) → Kept n W (left s c) (left t (plain c)) (bs ++ slow_bank (counts t c) (bank_in (left t (plain c))))
  kept c =
      let l = left-worst s q.worst c in
      let d = (step_same n W s t bs q c).1 in
      let here : run_bank (bank_in s) (bank_hop (answer s c) (with c.asked)) ≡ bank_in (left t (plain c)) =
      sym (left-bank s q.bank c).bank_is ∙ ap₂ bank_of d.bu d.bf in
      record {
        bank = bank-left s c q.bank;
        worst = worst-left s c q.worst;
        bank_n = bank-n-left s c q.bank ∙ q.bank_n;
        worst_n = worst-n-left s c q.worst ∙ q.worst_n;
        span = ap (λ (w : Worst). w.W) l.worst_is ∙ span-worst-after (answer s c) (bank_in s) (worst_in s) (with c.asked) ∙ q.span;
        same = d;
        floors =
            λ k h.
            ap (λ (w : Worst). held w k) l.worst_is
            ∙ turns n W s t bs q k h (with c.asked) (answer s c) (bank_in s).phase refl
            ∙ ap₂ (λ (v : Bool) (b : FloorBank). latest W (floors_in k (bs ++ slow_bank v b))) (sym (counts-at n W s t bs q c (answer s c) (bank_in s).phase refl refl)) here;
      }

-- ---- a list of them

run : (n W : ℕ) (cs : List Call) (s t : Stores) (bs : List FloorBank) → Kept n W s t bs
    → Kept n W (left_by s cs) (left_by t (map plain cs)) (bs ++ slow_banks t cs)
unfolding slow_banks
run n W [] s t bs q = subst (Kept n W s t) (sym (append-nil bs)) q
run n W (c ∷ cs) s t bs q =
    let now = slow_bank (counts t c) (bank_in (left t (plain c))) in
    subst (Kept n W (left_by (left s c) cs) (left_by (left t (plain c)) (map plain cs))) (append_assoc bs now (slow_banks (left t (plain c)) cs))
    (run n W cs (left s c) (left t (plain c)) (bs ++ now) (kept n W s t bs q c))

same_answers : (n W : ℕ) (cs : List Call) (s t : Stores) (bs : List FloorBank) → Kept n W s t bs → answers s cs ≡ answers t (map plain cs)
same_answers n W [] s t bs q = refl
same_answers n W (c ∷ cs) s t bs q =
    ap₂ ◌∷◌ (step_same n W s t bs q c).0 (same_answers n W cs (left s c) (left t (plain c)) _ (kept n W s t bs q c))

-- ---- from a fresh bank and store

module _ (m : Making) (p : Lent) (d : Fresh m p) where
  fresh : Kept m.n p.W (made m p) (made m p) []
  fresh =
      let w = store-made m p d.worst in
      record {
        bank = sound-bank-made m p d.bank;
        worst = sound-worst-made m p d.worst;
        bank_n = ap (λ (b : FloorBank). b.n) (bank-made m p d.bank) ∙ (unfold fresh_bank in refl);
        worst_n = ap (λ (w : Worst). w.n) w ∙ (unfold fresh_worst in refl);
        span = ap (λ (w : Worst). w.W) w ∙ (unfold fresh_worst in refl);
        same = record { bu = refl; bf = refl; gu = refl; gf = refl; map = refl };
        floors = λ k h. ap (λ (w : Worst). held w k) w ∙ (unfold fresh_worst in sym (newest-all {A = Float} p.W [] (omega arith)));
      }

  after : (cs : List Call) → Kept m.n p.W (left_by (made m p) cs) (left_by (made m p) (map plain cs)) (slow_banks (made m p) cs)
  after cs = run m.n p.W cs (made m p) (made m p) [] fresh

beside : (s : Stores) → SoundBank s → SoundWorst s → (worst_in s).n ≡ (bank_in s).n → beside_refusal s.bu s.bf s.wu s.wf ≡ 0
unfolding beside_refusal bank_of worst_of
beside s b w e = rw (b.bank_passes, w.worst_passes, eq-eqb (get_or s.bu 0 0) (get_or s.wu 0 0) (sym e))

read-passes : (s : Stores) (k : ℕ) → SoundBank s → beside_refusal s.bu s.bf s.wu s.wf ≡ 0 → k < (bank_in s).n
    → worst_read_refusal s.bu s.bf s.wu s.wf k ≡ 0
unfolding worst_read_refusal read_refusal bank_of
read-passes s k b e l = rw (e, b.bank_passes, lt-ltb k (get_or s.bu 0 0) l)

pub worst-sound : WorstSound
worst-sound m p d cs = let q = after m p d cs in beside (left_by (made m p) cs) q.bank q.worst (q.worst_n ∙ sym q.bank_n)

pub worst_is : WorstIs
unfolding worst_reading worst_at
worst_is m p d cs k l =
    let q = after m p d cs in
    let s = left_by (made m p) cs in
    ap₂ reading (read-passes s k q.bank (worst-sound m p d cs) (subst (λ (n : ℕ). k < n) (sym q.bank_n) l))
    (ap highest (q.floors k l ∙ sym (map-latest (λ (b : FloorBank). effective_at b k) p.W (slow_banks (made m p) cs))))

pub unnoticed : Unnoticed
unnoticed m p d cs = ((after m p d cs).same, same_answers m.n p.W cs (made m p) (made m p) [] (fresh m p d))
