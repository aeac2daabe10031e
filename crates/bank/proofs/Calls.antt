-- A refused hop changes nothing. Assumes nothing.
use mathlib.Core.Path.{◌≡◌}
use mathlib.Core.List.{List}
use Prim.Native.Nat.{ℕ}
use lib.Ieee.{Float}
use Rattle.refusals.specs.Numbers.{number_of}
use Rattle.refusals.specs.declared.Refusal.{Refusal}
use Rattle.model.specs.Bank.{Hop}
use Rattle.model.specs.Calls.{bank_update_call}
use Rattle.model.specs.Refusals.{update_refusal}
use Rattle.bank_stages.proofs.Stages.{refused}
use Rattle.refusals.proofs.Answers.{refuses}

pub turned_down : (u : List ℕ) (f : List Float) (h : Hop) (e : Refusal) → number_of e ≡ update_refusal u f h.db h.power
    → (number_of e, u, f) ≡ bank_update_call u f h
turned_down u f h e q = refused u f h (number_of e) q (refuses e)
