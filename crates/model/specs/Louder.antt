-- R-10 of document 02, stated: "Trainers turn up the noise source and expect the floor to follow. Show it". The words in quotes are document 02's;
-- stores, calls, lists of calls and fresh banks are demand 3's. The proofs are `louder-higher` and `louder-among` in proofs/Louder.antt, `can-rise`
-- and `can-fall` in proofs/LouderCases.antt.
use Rattle.std.specs.Prelude.{◌≡◌, true, List, [], ◌∷◌, ℕ, ◌<◌, length, get_or}
use Rattle.std.specs.Float.Ieee.{lt, le}
use Rattle.model.specs.Numbers.{f0}
use Rattle.model.specs.Bank.{FloorBank, Hop}
use Rattle.model.specs.Readings.{raw_at, effective_at}
use Rattle.model.specs.Demand3.{Call, Stores, Lent, left_by, bank_hops, bank_updates, bank_in, Making, new_bank, made}

-- ---- two lists

-- each dB of hop i at least that of hop h, of n channels; `le` holds of no NaN (`le-numbers` in Rounding of laws)
abbrev pub HopAtLeast : ℕ → Hop → Hop → Type 0
HopAtLeast n h i = (c : ℕ) → c < n → le (get_or h.db c f0) (get_or i.db c f0) ≡ true

-- hop by hop
abbrev pub AtLeast : ℕ → List Hop → List Hop → Type 0
AtLeast n [] is = Unit {0}
AtLeast n (h ∷ hs) [] = Unit {0}
AtLeast n (h ∷ hs) (i ∷ is) = HopAtLeast n h i × AtLeast n hs is

-- "lists of bank updates .. every update accepted": as many accepted bank updates as calls. Held or not, and with any powers
abbrev pub AllAccepted : Stores → List Call → Type 0
AllAccepted s cs = bank_updates s cs ≡ length cs

-- "If two lists of bank updates from fresh banks": made with k in p and with l in q. The gates beside them need not even be made
pub record Louder (k l : Making) (p q : Lent) (cs ds : List Call) : Type 0 where
  -- "from fresh banks of equal n": neither is refused
  pub first_fresh : (new_bank k p).0 ≡ 0
  pub second_fresh : (new_bank l q).0 ≡ 0
  pub equal_n : k.n ≡ l.n
  -- "have equal length"
  pub equal_length : length cs ≡ length ds
  -- "every update accepted"
  pub first_accepted : AllAccepted (made k p) cs
  pub second_accepted : AllAccepted (made l q) ds
  -- "no NaN dB, and each dB of the second is at least that of the first"
  pub at_least : AtLeast k.n (bank_hops (made k p) cs) (bank_hops (made l q) ds)

-- ---- the claim

-- the bank that these calls leave
abbrev pub after : Making → Lent → List Call → FloorBank
after k p cs = bank_in (left_by (made k p) cs)

-- "every raw floor after the second list is at least that after the first"
abbrev pub Higher : ℕ → FloorBank → FloorBank → Type 0
Higher n b d = (c : ℕ) → c < n → le (raw_at b c) (raw_at d c) ≡ true

abbrev pub LouderHigher : Type 0
LouderHigher = (k l : Making) (p q : Lent) (cs ds : List Call) → Louder k l p q cs ds → Higher k.n (after k p cs) (after l q ds)

-- The same where gate updates, holds and refused calls stand among the updates, in either list: accepted bank updates alone count
abbrev pub LouderAmong : Type 0
LouderAmong =
    (k l : Making) (p q : Lent) → (new_bank k p).0 ≡ 0 → (new_bank l q).0 ≡ 0 → k.n ≡ l.n
    → (cs ds : List Call) → bank_updates (made k p) cs ≡ bank_updates (made l q) ds
    → AtLeast k.n (bank_hops (made k p) cs) (bank_hops (made l q) ds) → Higher k.n (after k p cs) (after l q ds)

-- ---- that it is not idle, and why it stops at raw floors

-- there are two such lists after which P is so of a channel in the two banks
abbrev pub Somewhere : (ℕ → FloorBank → FloorBank → Type 0) → Type 0
Somewhere P =
    (k : Making) × (l : Making) × (p : Lent) × (q : Lent) × (cs : List Call) × (ds : List Call) × (c : ℕ)
    × Louder k l p q cs ds × (c < k.n) × P c (after k p cs) (after l q ds)

-- a raw floor that is higher after the second
abbrev pub Rises : ℕ → FloorBank → FloorBank → Type 0
Rises c b d = lt (raw_at b c) (raw_at d c) ≡ true

abbrev pub CanRise : Type 0
CanRise = Somewhere Rises

-- "Usable and effective floors are left out": both can be lower after the second
abbrev pub Falls : ℕ → FloorBank → FloorBank → Type 0
Falls c b d = (lt (get_or d.usable c f0) (get_or b.usable c f0) ≡ true) × (lt (effective_at d c) (effective_at b c) ≡ true)

abbrev pub CanFall : Type 0
CanFall = Somewhere Falls
