-- The writer's refusals and its answer, each from the tests that led to it. Assumes nothing.
use mathlib.Core.Path.{◌≡◌, refl, ap, ap₂, ◌∙◌}
use mathlib.Core.List.{List}
use Prim.Native.Nat.{ℕ, ◌<◌, ◌%◌, ◌≤◌}
use lib.Dec.{lit<}
use lib.ListN.{length}
use borrow.Author.Tests.{lt-ltb, le-ltb, eq-eqb, ne_eqb, ltb-false, not-false}
use Rattle.laws.proofs.Tests.{passed, same_of, within_of, due, past, inside, agrees}
use Rattle.std.specs.Prelude.{Ok, Err}
use Rattle.log_model.specs.Format.{log_of, write_refusal, written}
use Rattle.log_hops.specs.Put.{put}
use Rattle.log_hops.proofs.Puts.{put_front}

-- the checks pass
pub by-none : (n : ℕ) (db power : List ℕ) (room : ℕ) → 1 ≤ n → n ≤ 512 → length db ≡ length power → length db % n ≡ 0 → length (log_of n db power) ≤ room
    → 0 ≡ write_refusal n db power room
unfolding write_refusal
by-none n db power room a b c d h =
    past _ 1 _ 0 (inside 1 512 n a b)
    (past _ 5 _ 0 (agrees (length db) (length power) c) (past _ 5 _ 0 (agrees (length db % n) 0 d) (past _ 2 _ 0 (le-ltb _ _ h) refl)))

-- only the room is missing
pub by-room : (n : ℕ) (db power : List ℕ) (room : ℕ) → 1 ≤ n → n ≤ 512 → length db ≡ length power → length db % n ≡ 0 → room < length (log_of n db power)
    → 2 ≡ write_refusal n db power room
unfolding write_refusal
by-room n db power room a b c d h =
    past _ 1 _ 2 (inside 1 512 n a b)
    (past _ 5 _ 2 (agrees (length db) (length power) c) (past _ 5 _ 2 (agrees (length db % n) 0 d) (due _ 2 _ (lt-ltb _ _ h))))

-- what is known once the checks have passed
pub record Fits (n : ℕ) (db power : List ℕ) (room : ℕ) : Type 0 where
  pub some : 1 ≤ n
  pub most : n ≤ 512
  pub alike : length db ≡ length power
  pub whole : length db % n ≡ 0
  pub roomy : length (log_of n db power) ≤ room

pub fits : (n : ℕ) (db power : List ℕ) (room : ℕ) → write_refusal n db power room ≡ 0 → Fits n db power room
unfolding write_refusal
fits n db power room h =
    let a = passed _ 1 _ (lit< tt) h in
    let b = passed _ 5 _ (lit< tt) a.1 in
    let c = passed _ 5 _ (lit< tt) b.1 in
    let d = passed _ 2 _ (lit< tt) c.1 in
    let m = within_of 1 512 n (not-false _ a.0) in
    record { some = m.0; most = m.1; alike = same_of _ _ b.0; whole = same_of _ _ c.0; roomy = ltb-false _ _ d.0 }

module _ (n : ℕ) (db power log : List ℕ) where
  pub write-refused : (r : ℕ) → r ≡ write_refusal n db power (length log) → (r ≡ 0 → ⊥) → (Err r, log) ≡ written n db power log
  unfolding written
  write-refused r e h = ap (λ (v : ℕ). (Err v, log)) e ∙ rw (ne_eqb (write_refusal n db power (length log)) 0 (λ z. h (e ∙ z)))

  pub write_done : write_refusal n db power (length log) ≡ 0 → (m : ℕ) (l : List ℕ) → m ≡ length (log_of n db power) → l ≡ put 0 (log_of n db power) log
      → (Ok m, l) ≡ written n db power log
  unfolding written
  write_done e m l f g =
      ap₂ (λ (i : ℕ) (r : List ℕ). (Ok i, r)) f (g ∙ put_front (log_of n db power) log) ∙ rw (eq-eqb (write_refusal n db power (length log)) 0 e)
