-- What follows on a hop, by what was asked on the way. Assumes nothing.
use Rattle.std.proofs.Common.{◌≡◌, ap₂, ◌∙◌, Bool, List, ℕ, ◌%◌}
use lib.Dec.{eqb}
use Rattle.watch_recording.specs.declared.Place.{Place}
use Rattle.watch_recording.specs.Recording.{place_after}
use Rattle.watch_states.specs.States.{rises_after, events_after, hop_closed, hop_taken}
use Rattle.watch_follow.specs.Followed.{after_hop}

module _ (p : Place) (size : ℕ) (alive hops events rises rise drop : List ℕ) where
  pub took : (r : Place) (slow : Bool) (a h e told counts : List ℕ) → counts ≡ rises_after rises alive rise drop → told ≡ events_after events alive rise drop
      → slow ≡ eqb (p.hop % 15) 0 → (a, h, e) ≡ hop_closed slow alive hops told rise drop → r ≡ place_after p size
      → (r, a, h, e, counts) ≡ after_hop p size alive hops events rises rise drop
  unfolding after_hop hop_taken
  took r slow a h e told counts rs es sl cl at =
      let closed = cl ∙ ap₂ (λ (b : Bool) (l : List ℕ). hop_closed b alive hops l rise drop) sl es in
      λ i. (at i, (closed i).0, (closed i).1, (closed i).2, rs i)
