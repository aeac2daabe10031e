-- The rules of a sound gate and the refusals of its readings, as the code meets them: on the u16 store and on plain numbers.
use Rattle.std.specs.Prelude.{Bool, cond, not, ◌&&◌, ◌||◌, List, ℕ, eqb, ltb, get_or, Float}
use Rattle.laws.specs.Tests.{differ, first}
use Rattle.model.specs.GateStores.{m_at, cursor_at, filled_at, sound_triple, new_length}
use Rattle.model.specs.GateCalls.{gate_refusal, pair_refusal, or_else}

abbrev pub unused_triple : ℕ → ℕ → ℕ → Bool
unused_triple m c f = eqb m 0 && eqb c 0 && eqb f 0

-- triple j: sound and of a new length where it is in use, else zero
unfoldable pub sound_length : List ℕ → ℕ → Bool
sound_length u j =
    cond (ltb j (get_or u 5 0)) (sound_triple (m_at u j) (cursor_at u j) (filled_at u j) && new_length (m_at u) j)
    (unused_triple (m_at u j) (cursor_at u j) (filled_at u j))

-- 5: a slice isn't n long
abbrev pub two_long : ℕ → ℕ → ℕ → ℕ
two_long n rise drop = first (differ rise n || differ drop n) 5 0

abbrev pub four_long : ℕ → ℕ → ℕ → ℕ → ℕ → ℕ
four_long n db power rise drop = first (differ db n || differ power n || differ rise n || differ drop n) 5 0

-- 7: there is no channel k
abbrev pub channel_refusal : ℕ → ℕ → ℕ
channel_refusal n k = first (not (ltb k n)) 7 0

-- the refusals of the two readings: the stores, then 7
abbrev pub smoothed_refusal : List ℕ → List Float → ℕ → ℕ
smoothed_refusal u f k = or_else (gate_refusal u f) (channel_refusal (get_or u 0 0) k)

abbrev pub early_refusal : List ℕ → List Float → List ℕ → List Float → ℕ → ℕ
early_refusal bu bf gu gf k = or_else (pair_refusal bu bf gu gf) (channel_refusal (get_or gu 0 0) k)
