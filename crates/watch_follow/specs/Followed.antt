-- What follows on a hop: the next place, the states, the hops alive, the events, the rises.
use Rattle.std.specs.Prelude.{List, ℕ, ◌%◌, eqb, Option, Some, None, Result, Ok, Err}
use Rattle.watch_recording.specs.declared.Place.{Place}
use Rattle.watch_recording.specs.Recording.{place_after}
use Rattle.watch_recording.specs.declared.Stop.{Stop}
use Rattle.watch_states.specs.States.{hop_taken}

abbrev pub Follows : Type 0
Follows = Place × List ℕ × List ℕ × List ℕ × List ℕ

-- after a hop of so many bytes that was taken
unfoldable pub after_hop : Place → ℕ → List ℕ → List ℕ → List ℕ → List ℕ → List ℕ → List ℕ → Follows
after_hop p size alive hops events rises rise drop =
    let t = hop_taken (eqb (p.hop % 15) 0) alive hops events rises rise drop in
    (place_after p size, t.0, t.1, t.2, t.3)

-- the same where a hop need not have been taken: the next place, or none
abbrev pub Followed : Type 0
Followed = Option Place × List ℕ × List ℕ × List ℕ × List ℕ

abbrev pub going_on : Follows → Followed
going_on f = (Some f.0, f.1, f.2, f.3, f.4)

-- what is not taken changes nothing, and no more hops are read
unfoldable pub followed : {E : Type 0} → Result ℕ (Stop E) → Place → List ℕ → List ℕ → List ℕ → List ℕ → List ℕ → List ℕ → Followed
followed (Ok size) p alive hops events rises rise drop = going_on (after_hop p size alive hops events rises rise drop)
followed (Err stop) p alive hops events rises rise drop = (None, alive, hops, events, rises)
