-- Lists of calls on a bank's stores: whatever the calls, refused or not, stores that held a sound bank hold one afterwards. So every store that
-- a fresh bank comes to is sound, and no call on it is refused with 2 or 9. The proofs are `reached` and `reached-sound` in proofs/Reach.antt.
use Rattle.std.specs.Prelude.{◌≡◌, List, [], ◌∷◌, ℕ, ◌≤◌, Float}
use Rattle.model.specs.Bank.{FloorBank, Hop, fresh_bank}
use Rattle.model.specs.Stores.{bank_u16s, bank_floats}
use Rattle.model.specs.Refusals.{bank_refusal}
use Rattle.model.specs.Calls.{bank_update_call}
use Rattle.model.specs.GoodBank.{Ready}

-- ---- lists of calls

-- a bank's two lent stores
pub record Stores : Type 0 where
  pub u : List ℕ
  pub f : List Float

-- a call that may change them: an update, held or not, with hop slices of any lengths
pub data BankCall : Type 0 where
  update : Hop → BankCall

-- the stores of what a call answers and leaves
abbrev pub stores_in : ℕ × List ℕ × List Float → Stores
stores_in a = record { u = a.1; f = a.2 }

-- the stores that a call leaves
unfoldable pub left : Stores → BankCall → Stores
left s (update h) = stores_in (bank_update_call s.u s.f h)

-- a list of calls, each lent the stores as the call before left them
abbrev pub left_by : Stores → List BankCall → Stores
left_by s [] = s
left_by s (c ∷ cs) = left_by (left s c) cs

-- the stores that hold b
abbrev pub stores_of : FloorBank → Stores
stores_of b = record { u = bank_u16s b; f = bank_floats b }

abbrev pub SoundStores : Stores → Type 0
SoundStores s = Ready s.u s.f

-- the stores of a fresh bank after any list of calls are sound ..
abbrev pub Reached : Type 0
Reached = (n : ℕ) → 1 ≤ n → n ≤ 512 → (cs : List BankCall) → SoundStores (left_by (stores_of (fresh_bank n)) cs)

-- .. and not refused
abbrev pub ReachedSound : Type 0
ReachedSound =
    (n : ℕ) → 1 ≤ n → n ≤ 512 → (cs : List BankCall)
    → bank_refusal (left_by (stores_of (fresh_bank n)) cs).u (left_by (stores_of (fresh_bank n)) cs).f ≡ 0
