-- R-6 of document 02, stated: "It must equal the maximum over those hops for every list of such updates from a fresh bank and store of equal n, and
-- a store so reached is always sound". The words in quotes are document 02's. Stores, calls and lists of calls are demand 3's, so gate updates, holds,
-- writes to the map and refused calls may stand among the updates. The proofs are `worst_is`, `worst-sound` and `unnoticed` in proofs/WorstOfLate.antt.
use Rattle.std.specs.Prelude.{◌≡◌, Bool, true, false, ◌&&◌, List, [], ◌∷◌, ◌++◌, map, ℕ, ◌<◌, eqb, Float, Ok}
use Rattle.model.specs.Bank.{FloorBank}
use Rattle.model.specs.Readings.{effective_at}
use Rattle.model.specs.Worst.{highest, latest}
use Rattle.model.specs.WorstCalls.{beside_refusal, worst_reading}
use Rattle.model.specs.Demand3.{Asked, AskedWith, with, Call, bank, gate, hold, write, Stores, answer, left, left_by, answers, bank_in, Making, Lent, new_bank, new_worst, made}

-- ---- the banks that a list leaves, with nothing carried: no ring stands here

abbrev pub carries : AskedWith → Bool
carries (bank c h) = c
carries (gate c h rise drop) = false
carries (hold c rise drop) = false
carries (write i v) = false

-- the same call, carrying no such store
abbrev pub asked_plain : Asked → Asked
asked_plain (bank c h) = bank false h
asked_plain (gate c h rise drop) = gate c h rise drop
asked_plain (hold c rise drop) = hold c rise drop
asked_plain (write i v) = write i v

abbrev pub plain : Call → Call
plain c = record { role = c.role; asked = asked_plain c.asked }

-- "accepted slow hops .. of the bank updates that carry it"
unfoldable pub counts : Stores → Call → Bool
counts s c = carries (with c.asked) && eqb (answer s (plain c)) 0 && eqb (bank_in s).phase 0

-- the bank after a call, if it counts
abbrev pub slow_bank : Bool → FloorBank → List FloorBank
slow_bank true b = b ∷ []
slow_bank false b = []

-- the banks as they are after the calls that count, in the order of the list
unfoldable pub slow_banks : Stores → List Call → List FloorBank
slow_banks s [] = []
slow_banks s (c ∷ cs) = slow_bank (counts s c) (bank_in (left s (plain c))) ++ slow_banks (left s (plain c)) cs

-- the effective floors of channel k in some banks
abbrev pub floors_in : ℕ → List FloorBank → List Float
floors_in k bs = map (λ b. effective_at b k) bs

-- ---- the claims

-- "from a fresh bank and store of equal n": neither is refused. The gate beside them need not even be made
pub record Fresh (m : Making) (p : Lent) : Type 0 where
  pub bank : (new_bank m p).0 ≡ 0
  pub worst : (new_worst m p).0 ≡ 0

-- "the highest effective floor over the last W accepted slow hops .. or over those so far when fewer; before the first, the reading is "none yet""
abbrev pub WorstIs : Type 0
WorstIs =
    (m : Making) (p : Lent) → Fresh m p → (cs : List Call) (k : ℕ) → k < m.n
    → let s = left_by (made m p) cs in
    worst_reading s.bu s.bf s.wu s.wf k ≡ Ok (highest (floors_in k (latest p.W (slow_banks (made m p) cs))))

-- "a store so reached is always sound", and its bank, and they are of equal n: no call on them is refused with 2, 8 or 9
abbrev pub WorstSound : Type 0
WorstSound =
    (m : Making) (p : Lent) → Fresh m p → (cs : List Call)
    → let s = left_by (made m p) cs in
    beside_refusal s.bu s.bf s.wu s.wf ≡ 0

-- two sets that are the same but for this store
pub record SameBut (s t : Stores) : Type 0 where
  pub bu : s.bu ≡ t.bu
  pub bf : s.bf ≡ t.bf
  pub gu : s.gu ≡ t.gu
  pub gf : s.gf ≡ t.gf
  pub map : s.map ≡ t.map

-- bank, gate and map are what they would be if no such store were carried, and the same calls are refused, with the same refusals
abbrev pub Unnoticed : Type 0
Unnoticed =
    (m : Making) (p : Lent) → Fresh m p → (cs : List Call)
    → SameBut (left_by (made m p) cs) (left_by (made m p) (map plain cs)) × (answers (made m p) cs ≡ answers (made m p) (map plain cs))
