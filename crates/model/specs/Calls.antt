-- What each call of the bank answers and leaves: the answer, the u16 store, the f64 store. A refusal changes nothing.
use Rattle.std.specs.Prelude.{cond, List, ℕ, zero, suc, length, Float}
use Rattle.laws.specs.Tests.{within}
use Rattle.model.specs.Bank.{FloorBank, Hop, fresh_bank, bank_step}
use Rattle.model.specs.Stores.{bank_u16s, bank_floats, bank_of, bank_len, bank_f_len}
use Rattle.model.specs.Refusals.{make_refusal, update_refusal}

-- answered r with what the bank becomes where r is 0
abbrev pub leaves : ℕ → FloorBank → List ℕ → List Float → ℕ × List ℕ × List Float
leaves zero b u f = (0, bank_u16s b, bank_floats b)
leaves (suc r) b u f = (suc r, u, f)

-- a fresh bank for n channels
unfoldable pub bank_new_call : List ℕ → List Float → ℕ → ℕ × List ℕ × List Float
bank_new_call u f n = leaves (make_refusal (length u) (length f) n) (fresh_bank n) u f

-- one bank update, held or not
unfoldable pub bank_update_call : List ℕ → List Float → Hop → ℕ × List ℕ × List Float
bank_update_call u f h = leaves (update_refusal u f h.db h.power) (bank_step (bank_of u f) h) u f

-- how long the stores must be for n: 0 where making refuses n
abbrev pub bank_len_for : ℕ → ℕ
bank_len_for n = cond (within 1 512 n) (bank_len n) 0

abbrev pub bank_f_len_for : ℕ → ℕ
bank_f_len_for n = cond (within 1 512 n) (bank_f_len n) 0
