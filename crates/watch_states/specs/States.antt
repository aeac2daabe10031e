-- Which channels are alive, and for how long.
use Rattle.std.specs.Prelude.{ℕ, ◌+◌, ◌%◌, ◌^◌, Bool, true, false, cond, not, ◌||◌, List, length, ◌==◌, bit_or, slice_index, Option, Some, None}
use Rattle.laws.specs.Lists.{tab, one}
use Rattle.watch_states.specs.declared.Change.{Change}
use Rattle.watch_states.specs.declared.Change.TheVariants as C

-- an idle channel with a rise mark becomes alive; an alive one with a drop mark and no rise mark becomes idle
abbrev pub state_after : Bool → Bool → Bool → Bool
state_after false rise drop = rise
state_after true rise drop = rise || not drop

-- a mark or a state in a list of bytes: 1 is set
abbrev pub is_set : List ℕ → ℕ → Bool
is_set l k = slice_index l k == 1

-- the states after the marks of a hop
unfoldable pub states_after : List ℕ → List ℕ → List ℕ → List ℕ
states_after alive rise drop =
    tab (length alive) (λ k. one (state_after (is_set alive k) (is_set rise k) (is_set drop k)))

-- 1: comes alive; 2: becomes idle; 0: neither
abbrev pub change_of : Bool → Bool → ℕ
change_of false will = one will
change_of true true = 0
change_of true false = 2

-- a change by its bit, and 0 where there is none
abbrev pub noted_of : Option Change → ℕ
noted_of None = 0
noted_of (Some C.Rise) = 1
noted_of (Some C.Drop) = 2

-- what the marks of a hop change of channel k
abbrev pub change_at : List ℕ → List ℕ → List ℕ → ℕ → ℕ
change_at alive rise drop k =
    change_of (is_set alive k) (state_after (is_set alive k) (is_set rise k) (is_set drop k))

-- one more where a mark is set
unfoldable pub counts_after : List ℕ → List ℕ → List ℕ
counts_after counts marks = tab (length counts) (λ k. (slice_index counts k + one (is_set marks k)) % 2 ^ 64)

-- one more where a channel comes alive
unfoldable pub rises_after : List ℕ → List ℕ → List ℕ → List ℕ → List ℕ
rises_after counts alive rise drop =
    tab (length counts) (λ k. (slice_index counts k + one ((change_at alive rise drop k) == 1)) % 2 ^ 64)

-- what was noted, bit by bit, with what the marks of a hop change
unfoldable pub events_after : List ℕ → List ℕ → List ℕ → List ℕ → List ℕ
events_after events alive rise drop = tab (length events) (λ k. bit_or (slice_index events k) (change_at alive rise drop k))

-- the end of a hop: the states, the hops alive, and the events, which a slow hop has told
unfoldable pub hop_closed : Bool → List ℕ → List ℕ → List ℕ → List ℕ → List ℕ → List ℕ × List ℕ × List ℕ
hop_closed slow alive hops events rise drop =
    let a = states_after alive rise drop in
    (a, counts_after hops a, cond slow (tab (length events) (λ _. 0)) events)

-- a hop that was taken: rises and events by the states before it, then its end. The states, the hops alive, the events, the rises
unfoldable pub hop_taken : Bool → List ℕ → List ℕ → List ℕ → List ℕ → List ℕ → List ℕ → List ℕ × List ℕ × List ℕ × List ℕ
hop_taken slow alive hops events rises rise drop =
    let c = hop_closed slow alive hops (events_after events alive rise drop) rise drop in
    (c.0, c.1, c.2, rises_after rises alive rise drop)
