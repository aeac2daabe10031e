-- What a size that is not refused has. Assumes nothing.
use mathlib.Core.Path.{◌≡◌}
use mathlib.Core.Bool.{not, ◌||◌}
use Prim.Native.Nat.{ℕ, ◌<◌, ◌≤◌}
use native.Mathlib.Omega.{arith}
use borrow.Author.Tests.{not-false}
use Rattle.laws.specs.Tests.{within, differ}
use Rattle.laws.proofs.Tests.{passed, same_of, or_l, or_r, within_of}
use Rattle.model.specs.Stores.{bank_len, bank_f_len}
use Rattle.store_sizes.specs.Checks.{size_refusal}

pub record Fits (u f n : ℕ) : Type 0 where
  pub low : 1 ≤ n
  pub high : n ≤ 512
  pub long : u ≡ bank_len n
  pub long_f : f ≡ bank_f_len n

pub fit : (band u f n : ℕ) → 0 < band → size_refusal band u f n ≡ 0 → Fits u f n
fit band u f n p e =
    let a = passed (not (within 1 512 n)) band _ p e in
    let b = passed (differ u (bank_len n) || differ f (bank_f_len n)) 2 0 (omega arith) a.1 in
    let w = within_of 1 512 n (not-false (within 1 512 n) a.0) in
    record {
      low = w.0;
      high = w.1;
      long = same_of u (bank_len n) (or_l (differ u (bank_len n)) (differ f (bank_f_len n)) b.0);
      long_f = same_of f (bank_f_len n) (or_r (differ u (bank_len n)) (differ f (bank_f_len n)) b.0);
    }
