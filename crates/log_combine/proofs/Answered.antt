-- The answer, from the tests that led to it. Assumes nothing.
use Rattle.std.specs.Prelude.{None, Result, Ok, Err}
use mathlib.Core.Path.{◌≡◌, refl, sym, ap, ap₂, ◌∙◌}
use mathlib.Core.Bool.{Bool, cond, ◌||◌}
use mathlib.Core.List.{List}
use Prim.Native.Nat.{ℕ, ◌<◌, ◌≤◌}
use native.Mathlib.Omega.{arith}
use lib.ListN.{length}
use Rattle.laws.specs.Tests.{differ}
use Rattle.laws.proofs.Tests.{by-test, or_l, or_r, same_of}
use Rattle.low_first.specs.LowFirst.{low_two}
use Rattle.log_model.specs.Format.{written}
use Rattle.log_model.specs.Whole.{Below}
use Rattle.log_hops.specs.Put.{put}
use Rattle.log_write.proofs.Refuses.{by-room, by-none, write-refused, write_done}
use Rattle.combine_model.specs.Combined.{hop_count, db_chosen, power_chosen, combined_log, unless, combined, Paired}
use Rattle.log_combine.specs.Passes.{Judged, no_of}
use Rattle.combine_model.proofs.Theorems.{takes, combined-paired}

module _ (a b log : List ℕ) where
  abbrev Answer : Type 0
  Answer = Result ℕ ℕ × List ℕ

  abbrev last : ℕ → ℕ → Answer
  last h k = cond (differ (low_two a 0) (low_two b 0) || differ h k) (Err 13, log) (written (low_two a 0) (db_chosen a b) (power_chosen a b) log)

  -- the answer by what was counted in each log
  abbrev by-counts : Result ℕ ℕ → Result ℕ ℕ → Answer
  by-counts x y = unless x log (λ h. unless y log (λ k. last h k))

  module _ (h : ℕ) (f : Below 256 a) (g : Below 256 b) (w : Paired a b h) where
    pub refused-room : length log < length (combined_log a b) → ◌≡◌ {A = Answer} (Err 2, log) (combined a b log)
    unfolding combined_log
    refused-room l =
        let t = takes a b h f g w in
        write-refused (low_two a 0) (db_chosen a b) (power_chosen a b) log 2 (by-room (low_two a 0) (db_chosen a b) (power_chosen a b) (length log) t.some t.most (sym t.alike) t.whole l) (λ z. omega arith)
        ∙ sym (combined-paired a b log h w)

    pub answered : length (combined_log a b) ≤ length log → (m : ℕ) (out : List ℕ) → m ≡ length (combined_log a b) → out ≡ put 0 (combined_log a b) log
        → ◌≡◌ {A = Answer} (Ok m, out) (combined a b log)
    unfolding combined_log
    answered l m out i j =
        let t = takes a b h f g w in
        write_done (low_two a 0) (db_chosen a b) (power_chosen a b) log (sym (by-none (low_two a 0) (db_chosen a b) (power_chosen a b) (length log) t.some t.most (sym t.alike) t.whole l)) m out i j
        ∙ sym (combined-paired a b log h w)

  -- what the first pass turned down is refused with the number that the counts give
  pub turned_down : Below 256 a → Below 256 b → Judged a b (length log) None → (r : ℕ) → r ≡ no_of (hop_count a) (hop_count b) (differ (low_two a 0) (low_two b 0))
      → ◌≡◌ {A = Answer} (Err r, log) (combined a b log)
  unfolding combined
  turned_down f g down r e = ap (λ (v : ℕ). (Err v, log)) e ∙ go (hop_count a) (hop_count b) refl refl
    where
      rest : Answer
      rest = written (low_two a 0) (db_chosen a b) (power_chosen a b) log

      unequal : Bool
      unequal = differ (low_two a 0) (low_two b 0)

      go : (x y : Result ℕ ℕ) → hop_count a ≡ x → hop_count b ≡ y → ◌≡◌ {A = Answer} (Err (no_of (hop_count a) (hop_count b) unequal), log) (by-counts (hop_count a) (hop_count b))
      go (Err s) y i j =
          (λ t. (Err (no_of (i t) (hop_count b) unequal), log)) ∙ sym (ap (λ (x : Result ℕ ℕ). by-counts x (hop_count b)) i)
      go (Ok h) (Err s) i j =
          (λ t. (Err (no_of (i t) (j t) unequal), log)) ∙ sym (ap₂ by-counts i j)
      go (Ok h) (Ok k) i j =
          (λ t. (Err (no_of (i t) (j t) unequal), log))
          ∙ by-test (unequal || differ h k)
          (λ t.
          ap (λ (b : Bool). (Err (cond b 13 2), log)) t
          ∙ sym (ap (λ (b : Bool). cond b (Err 13, log) rest) t))
          (λ t.
          let w : Paired a b h = record { count_a = i; count_b = j ∙ ap Ok (sym (same_of h k (or_r unequal (differ h k) t))); same_n = same_of (low_two a 0) (low_two b 0) (or_l unequal (differ h k) t) } in
          ap (λ (b : Bool). (Err (cond b 13 2), log)) t
          ∙ refused-room h f g w (down h w)
          ∙ ap₂ by-counts i j)
          ∙ sym (ap₂ by-counts i j)
