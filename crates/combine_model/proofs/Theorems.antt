-- Two logs combined: with itself a log stays as it is; a result reads to its end as the selection. Assumes nothing.
use Rattle.std.specs.Prelude.{Option, Some, None, Result, Ok, Err}
use mathlib.Core.Path.{◌≡◌, refl, sym, ap, ap₂, subst, ◌∙◌}
use mathlib.Core.Bool.{Bool, cond, ◌||◌}
use mathlib.Core.List.{List, ◌++◌}
use Prim.Native.Nat.{ℕ, ◌*◌, ◌/◌, ◌≤◌}
use native.Mathlib.Nat.{mul-div_right}
use lib.Dec.{eqb}
use lib.ListN.{length, take, drop}
use lib.Seq.{take_at}
use borrow.Author.Tests.{eq-eqb}
use Rattle.laws.specs.Tests.{differ}
use Rattle.laws.proofs.Tests.{by-test, or_l, or_r, same_of, agrees}
use Rattle.low_first.specs.LowFirst.{low_two}
use Rattle.log_model.specs.Format.{log_of, write_refusal, written}
use Rattle.log_model.specs.Whole.{Reading, read_log, Below, Hops}
use Rattle.refusals.specs.Readings.{value_or}
use Rattle.log_model.proofs.RoundTrip.{reads-back}
use Rattle.log_write.proofs.Refuses.{by-none}
use Rattle.combine_model.specs.Combined.{counted, hop_count, db_of, power_of, db_chosen, power_chosen, unless, combined, Paired}
use Rattle.combine_model.specs.Claims.{WithItself, ReadsAsChosen, NeverRefused}
use Rattle.combine_model.proofs.Taken.{taken, began, hops-of, log_is}
use Rattle.combine_model.proofs.Chosen.{selected-self, hops-selected}

-- ---- the number of hops

pub count-ended : (log : List ℕ) → (read_log log).0 ≡ Ok None → hop_count log ≡ Ok (length (db_of log) / low_two log 0)
unfolding hop_count
count-ended log e = ap (λ (a : Result (Option ℕ) ℕ). counted (low_two log 0) (a, db_of log, power_of log)) e

-- a number of hops: the log reads to its end, and has that many
pub count-tells : (log : List ℕ) (h : ℕ) → hop_count log ≡ Ok h → ((read_log log).0 ≡ Ok None) × (h ≡ length (db_of log) / low_two log 0)
unfolding hop_count
count-tells log h e = go (read_log log).0 refl
  where
    counts : (a : Result (Option ℕ) ℕ) → (read_log log).0 ≡ a → counted (low_two log 0) (a, db_of log, power_of log) ≡ Ok h
    counts a f = ap (λ (b : Result (Option ℕ) ℕ). counted (low_two log 0) (b, db_of log, power_of log)) (sym f) ∙ e

    go : (a : Result (Option ℕ) ℕ) → (read_log log).0 ≡ a → ((read_log log).0 ≡ Ok None) × (h ≡ length (db_of log) / low_two log 0)
    go (Ok None) f = (f, cc (counts (Ok None) f))
    go (Err r) f = cc (counts (Err r) f)
    go (Ok (Some at)) f = cc (counts (Ok (Some at)) f)

-- that many hops of n channels
pub hops-long : (log : List ℕ) (h : ℕ) → Below 256 log → hop_count log ≡ Ok h → length (db_of log) ≡ low_two log 0 * h
hops-long log h bound e =
    let c = count-tells log h e in
    let t = taken log bound in
    let s = began log c.0 in
    let z : t.hops ≡ h = sym (mul-div_right t.hops s.some) ∙ sym (ap (λ (l : ℕ). l / low_two log 0) t.long) ∙ sym c.1 in
    t.long ∙ ap (λ (k : ℕ). low_two log 0 * k) z

-- ---- two logs that pass

-- the writer takes what is chosen
pub takes : (a b : List ℕ) (h : ℕ) → Below 256 a → Below 256 b → Paired a b h → Hops (low_two a 0) (db_chosen a b) (power_chosen a b)
unfolding db_chosen power_chosen
takes a b h f g w =
    hops-selected (low_two a 0) (db_of a) (power_of a) (db_of b) (power_of b) (hops-of a f (count-tells a h w.count_a).0)
    (subst (λ (n : ℕ). Hops n (db_of b) (power_of b)) (sym w.same_n) (hops-of b g (count-tells b h w.count_b).0))
    (hops-long b h g w.count_b ∙ ap (λ (n : ℕ). n * h) (sym w.same_n) ∙ sym (hops-long a h f w.count_a))

pub combined-paired : (a b log : List ℕ) (h : ℕ) → Paired a b h → combined a b log ≡ written (low_two a 0) (db_chosen a b) (power_chosen a b) log
unfolding combined
combined-paired a b log h w =
    ap₂ (λ (x y : Result ℕ ℕ). unless x log (λ h. unless y log (λ k. cond (differ (low_two a 0) (low_two b 0) || differ h k) (Err 13, log) (written (low_two a 0) (db_chosen a b) (power_chosen a b) log))))
    w.count_a w.count_b
    ∙ ap₂ (λ (x y : Bool). cond (x || y) (Err 13, log) (written (low_two a 0) (db_chosen a b) (power_chosen a b) log)) (agrees (low_two a 0) (low_two b 0) w.same_n) (agrees h h refl)

-- ---- an answer that is a length

abbrev Answer : Type 0
Answer = Result ℕ ℕ × List ℕ

refused-not : {A : Type 0} (r len : ℕ) (log out : List ℕ) → ◌≡◌ {A = Answer} (Err r, log) (Ok len, out) → A
refused-not r len log out e = cc (ap (λ (x : Answer). x.0) e)

pub paired : (a b log : List ℕ) (len : ℕ) (out : List ℕ) → combined a b log ≡ (Ok len, out)
    → ((h : ℕ) × Paired a b h)
unfolding combined
paired a b log len out e = go (hop_count a) (hop_count b) refl refl e
  where
    rest : ℕ → ℕ → Answer
    rest h k = cond (differ (low_two a 0) (low_two b 0) || differ h k) (Err 13, log) (written (low_two a 0) (db_chosen a b) (power_chosen a b) log)

    go : (x y : Result ℕ ℕ) → hop_count a ≡ x → hop_count b ≡ y → unless x log (λ h. unless y log (λ k. rest h k)) ≡ (Ok len, out) → ((h : ℕ) × Paired a b h)
    go (Err r) y f g t = refused-not r len log out t
    go (Ok h) (Err r) f g t = refused-not r len log out t
    go (Ok h) (Ok k) f g t =
        by-test (differ (low_two a 0) (low_two b 0) || differ h k)
        (λ u. refused-not 13 len log out (sym (ap (λ (x : Bool). cond x (Err 13, log) (written (low_two a 0) (db_chosen a b) (power_chosen a b) log)) u) ∙ t))
        (λ u.
        let n = same_of (low_two a 0) (low_two b 0) (or_l (differ (low_two a 0) (low_two b 0)) (differ h k) u) in
        let z : h ≡ k = same_of h k (or_r (differ (low_two a 0) (low_two b 0)) (differ h k) u) in
        (h, record { count_a = f; count_b = g ∙ ap Ok (sym z); same_n = n }))

-- the writer's answer is a length: its log stands at the output's front
pub written-tells : (n : ℕ) (db power log : List ℕ) (len : ℕ) (out : List ℕ) → written n db power log ≡ (Ok len, out) → take len out ≡ log_of n db power
unfolding written
written-tells n db power log len out e =
    by-test (eqb (write_refusal n db power (length log)) 0)
    (λ t.
    let w : ◌≡◌ {A = Answer} (Ok (length (log_of n db power)), log_of n db power ++ drop (length (log_of n db power)) log) (Ok len, out) = sym (ap (λ (x : Bool). cond x (Ok (length (log_of n db power)), log_of n db power ++ drop (length (log_of n db power)) log) (Err (write_refusal n db power (length log)), log)) t) ∙ e in
    ap₂ (λ (i : ℕ) (l : List ℕ). take i l) (sym (ap (λ (x : Answer). value_or 0 x.0) w)) (sym (ap (λ (x : Answer). x.1) w))
    ∙ take_at (log_of n db power) (drop (length (log_of n db power)) log) (length (log_of n db power)) refl)
    (λ t. refused-not (write_refusal n db power (length log)) len log out
    (sym (ap (λ (x : Bool). cond x (Ok (length (log_of n db power)), log_of n db power ++ drop (length (log_of n db power)) log) (Err (write_refusal n db power (length log)), log)) t) ∙ e))

-- ---- the theorems

pub reads-as-chosen : ReadsAsChosen
reads-as-chosen a b log len out f g e =
    let w = paired a b log len out e in
    let n : ℕ = low_two a 0 in
    ap read_log (written-tells n (db_chosen a b) (power_chosen a b) log len out (sym (combined-paired a b log w.0 w.1) ∙ e))
    ∙ reads-back n (db_chosen a b) (power_chosen a b) (takes a b w.0 f g w.1)

pub never-refused : NeverRefused
never-refused a b log len out f g e = ap (λ (r : Reading). r.0) (reads-as-chosen a b log len out f g e)

self-chosen : (a : List ℕ) → (db_chosen a a ≡ db_of a) × (power_chosen a a ≡ power_of a)
unfolding db_chosen power_chosen
self-chosen a = (selected-self (power_of a) (db_of a), selected-self (power_of a) (power_of a))

pub with_itself : WithItself
unfolding written
with_itself a log bound e room =
    let n : ℕ = low_two a 0 in
    let c = count-ended a e in
    let h = hops-of a bound e in
    let l = log_is a bound e in
    let z : length (log_of n (db_of a) (power_of a)) ≤ length log = subst (λ (x : List ℕ). length x ≤ length log) l room in
    combined-paired a a log (length (db_of a) / n) record { count_a = c; count_b = c; same_n = refl }
    ∙ ap₂ (λ (d p : List ℕ). written n d p log) (self-chosen a).0 (self-chosen a).1
    ∙ ap (λ (t : Bool). cond t (Ok (length (log_of n (db_of a) (power_of a))), log_of n (db_of a) (power_of a) ++ drop (length (log_of n (db_of a) (power_of a))) log) (Err (write_refusal n (db_of a) (power_of a) (length log)), log))
    (eq-eqb (write_refusal n (db_of a) (power_of a) (length log)) 0 (sym (by-none n (db_of a) (power_of a) (length log) h.some h.most (sym h.alike) h.whole z)))
    ∙ ap (λ (x : List ℕ). (Ok (length x), x ++ drop (length x) log)) (sym l)
