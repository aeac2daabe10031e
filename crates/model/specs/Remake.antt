-- Document 02, R-14: "remake a gate with new levels: n and lengths stay, the rest is fresh, and the checks are the gate store, then 4". A set whose
-- leader remade its gate in mid-season keeps demand 3, counted since its gate was last fresh. The proofs are `remade` in proofs/Remake.antt and
-- `season`, `stay-true-remade` and `stay-sound-remade` in proofs/Season.antt.
use Rattle.std.specs.Prelude.{◌≡◌, true, not, ◌&&◌, ◌||◌, List, [], ◌∷◌, ◌++◌, map, ℕ, zero, suc, ◌*◌, ◌%◌, length, get_or, ℤ, Float}
use Rattle.laws.specs.Lists.{tab}
use Rattle.laws.specs.Tests.{first}
use Rattle.model.specs.Layout.{decimation_hops}
use Rattle.model.specs.Bank.{Hop}
use Rattle.model.specs.Gate.{among, fresh_gate}
use Rattle.model.specs.GateStores.{m_at}
use Rattle.model.specs.GateCalls.{GateHop, good_level, absent, gate_refusal, or_else, settings_of, gate_leaves, gate_new_call}
use Rattle.roles.specs.Rights.{gate_remake, as_role}
use Rattle.model.specs.Demand3.{Call, Stores, step, arguments, with, bank_hop, gate_hop, Making, Lent, made, Made, Same}
use Rattle.model.specs.Sets.{gate_in, Sound}
use Rattle.model.specs.Remembered.{PairsTrue}

-- ---- the call

-- the lengths of a gate, distinct and in the order of the store
abbrev pub lengths_in : List ℕ → List ℕ
lengths_in u = tab (get_or u 5 0) (m_at u)

-- the gate store, then 4
unfoldable pub remake_refusal : List ℕ → List Float → ℤ → ℤ → ℤ → ℕ
remake_refusal u f on off early =
    or_else (gate_refusal u f) (first (not (good_level on && good_level off && (absent early || good_level early))) 4 0)

-- the answer and the gate's two stores. A refusal changes nothing
unfoldable pub gate_remake_call : List ℕ → List Float → ℤ → ℤ → ℤ → ℕ × List ℕ × List Float
gate_remake_call u f on off early =
    gate_leaves (remake_refusal u f on off early) (fresh_gate (settings_of (get_or u 0 0) on off early (lengths_in u))) u f

-- it leaves what making a gate with those settings leaves, in the same stores
abbrev pub Remade : Type 0
Remade =
    (u : List ℕ) (f : List Float) (on off early : ℤ) → gate_refusal u f ≡ 0
    → gate_remake_call u f on off early ≡ gate_new_call u f (get_or u 0 0) on off early (lengths_in u)

-- ---- lists with remakes in them

-- one of demand 3's calls, or a remake by someone, in a role, with these levels
pub data Turn : Type 0 where
  call : Call → Turn
  remake : ℕ → ℤ → ℤ → ℤ → Turn

-- on, off and early
pub record Levels : Type 0 where
  pub on : ℤ
  pub off : ℤ
  pub early : ℤ

-- what a turn answers, and the stores that it leaves
unfoldable pub turn : Stores → Turn → ℕ × Stores
turn s (call c) = step s c
turn s (remake role on off early) =
    let a = gate_remake_call s.gu s.gf on off early in
    as_role gate_remake role (λ r. (r, s))
    (a.0, record { bu = s.bu; bf = s.bf; gu = a.1; gf = a.2; wu = s.wu; wf = s.wf; map = s.map })

abbrev pub turned : Stores → List Turn → Stores
turned s [] = s
turned s (t ∷ ts) = turned (turn s t).1 ts

-- the hop of an accepted bank update
abbrev pub turn_hop : ℕ → Turn → List Hop
turn_hop r (call c) = bank_hop r (with c.asked)
turn_hop r (remake role on off early) = []

abbrev pub hops_heard : Stores → List Turn → List Hop
hops_heard s [] = []
hops_heard s (t ∷ ts) = turn_hop (turn s t).0 t ++ hops_heard (turn s t).1 ts

-- the hops of the gate updates accepted since the gate was last fresh: hs before the list, and none after an accepted remake
abbrev pub since_fresh : List GateHop → ℕ → Turn → List GateHop
since_fresh hs r (call c) = hs ++ gate_hop r (with c.asked)
since_fresh hs zero (remake role on off early) = []
since_fresh hs (suc r) (remake role on off early) = hs

abbrev pub hops_since_fresh : List GateHop → Stores → List Turn → List GateHop
hops_since_fresh hs s [] = hs
hops_since_fresh hs s (t ∷ ts) = hops_since_fresh (since_fresh hs (turn s t).0 t) (turn s t).1 ts

-- the levels in force: l before the list, and those of the last accepted remake
abbrev pub in_force : Levels → ℕ → Turn → Levels
in_force l r (call c) = l
in_force l zero (remake role on off early) = record { on = on; off = off; early = early }
in_force l (suc r) (remake role on off early) = l

abbrev pub levels_in_force : Levels → Stores → List Turn → Levels
levels_in_force l s [] = l
levels_in_force l s (t ∷ ts) = levels_in_force (in_force l (turn s t).0 t) (turn s t).1 ts

-- ---- R-3, and sound stores

-- "every operation keeps the pair true, starting from a fresh gate": a remake is one of them
abbrev pub StayTrueRemade : Type 0
StayTrueRemade = (k : Making) (p : Lent) → Made k p → (ts : List Turn) → PairsTrue (gate_in (turned (made k p) ts))

-- whatever the calls and remakes, refused or not, a set that was fresh is sound
abbrev pub StaySoundRemade : Type 0
StaySoundRemade = (k : Making) (p : Lent) → Made k p → (ts : List Turn) → Sound (turned (made k p) ts)

-- ---- demand 3

abbrev pub levels_of : Making → Levels
levels_of k = record { on = k.on; off = k.off; early = k.early }

-- the settings of k, with other levels
abbrev pub with_levels : Making → Levels → Making
with_levels k l = record { n = k.n; gate_n = k.gate_n; on = l.on; off = l.off; early = l.early; lengths = k.lengths }

-- the settings of k and of l are equal but for the levels
pub record SameBands (k l : Making) : Type 0 where
  pub n : k.n ≡ l.n
  pub gate_n : k.gate_n ≡ l.gate_n
  pub lengths : k.lengths ≡ l.lengths

-- Demand 3 for a set whose leader remade the gate in mid-season
abbrev pub Season : Type 0
Season =
    (k l : Making) (p q : Lent) → Made k p → Made l q → SameBands k l
    -- any two lists of demand 3's calls, with remakes in them
    → (xs ys : List Turn)
    -- "whose numbers of accepted bank updates are equal modulo 15"
    → length (hops_heard (made k p) xs) % decimation_hops ≡ length (hops_heard (made l q) ys) % decimation_hops
    -- and of gate updates accepted since the gate was last fresh, modulo twice every window length
    → ((m : ℕ) → among m k.lengths ≡ true
    → length (hops_since_fresh [] (made k p) xs) % (2 * m) ≡ length (hops_since_fresh [] (made l q) ys) % (2 * m))
    -- and the levels in force are equal at the end of both
    → levels_in_force (levels_of k) (made k p) xs ≡ levels_in_force (levels_of l) (made l q) ys
    -- whatever further list of demand 3's calls follows both
    → (fs gs : List Call) → map arguments fs ≡ map arguments gs
    → Same (with_levels k (levels_in_force (levels_of k) (made k p) xs)) (length (hops_heard (made k p) xs)) (turned (made k p) xs) (turned (made l q) ys) fs gs
