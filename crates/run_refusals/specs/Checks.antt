-- The refusals of a run as the code asks for them: by the number of hops, the dB, and the lengths of the other slices.
-- `refusal-by` in proofs/Refuses.antt shows that it is `run_refusal`.
use Rattle.std.specs.Prelude.{Bool, false, ◌&&◌, ◌||◌, List, ℕ, zero, suc, ◌+◌, ◌*◌, ◌%◌, eqb, length, get_or, take, drop, Float}
use Rattle.laws.specs.Tests.{differ, first}
use Rattle.model.specs.Layout.{decimation_hops}
use Rattle.model.specs.Refusals.{garbled}
use Rattle.model.specs.GateCalls.{or_else, pair_refusal}

abbrev pub not_long_by : ℕ → ℕ → ℕ → ℕ → ℕ → ℕ → Bool
not_long_by n hops db power rise fall =
    let long = hops * n in
    differ db long || differ power long || differ rise long || differ fall long

-- of so many hops, the first at phase p
abbrev pub garbled_db : ℕ → ℕ → ℕ → List Float → Bool
garbled_db n p zero db = false
garbled_db n p (suc k) db = (eqb p 0 && garbled n (take n db)) || garbled_db n ((p + 1) % decimation_hops) k (drop n db)

unfoldable pub run_refusal_by : List ℕ → List Float → List ℕ → List Float → ℕ → List Float → ℕ → ℕ → ℕ → ℕ
run_refusal_by bu bf gu gf hops db power rise fall =
    let n = get_or gu 0 0 in
    or_else (pair_refusal bu bf gu gf) (first (not_long_by n hops (length db) power rise fall) 5 (first (garbled_db n (get_or bu 1 0) hops db) 6 0))
