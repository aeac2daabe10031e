-- `watch_states::close_hop` meets its contract: the states, then what is counted by them, then the events. Assumes nothing.
use Rattle.std.proofs.Common.{◌≡◌, ℕ, Bool, true, false, cond, List, length, refl, ap, ◌∙◌}
use Rattle.laws.specs.Lists.{tab}
use Rattle.watch_states.specs.States.{states_after, counts_after, hop_closed}
use Rattle.watch_states.proofs.close_hop.Goals as goal

module _ (slow : Bool) (alive hops events rise drop a h e : List ℕ) (x : a ≡ states_after alive rise drop) (y : h ≡ counts_after hops a) where
  closed : e ≡ cond slow (tab (length events) (λ _. 0)) events → (a, h, e) ≡ hop_closed slow alive hops events rise drop
  unfolding hop_closed
  closed z =
      (λ i. (a, y i, z i))
      ∙ ap (λ (s : List ℕ). (s, counts_after hops s, cond slow (tab (length events) (λ _. 0)) events)) x

  told : slow ≡ true → e ≡ tab (length events) (λ _. 0) → (a, h, e) ≡ hop_closed slow alive hops events rise drop
  told s z = closed (z ∙ rw s refl)

  kept : slow ≡ false → e ≡ events → (a, h, e) ≡ hop_closed slow alive hops events rise drop
  kept s z = closed (z ∙ rw s refl)

pub returns-then-is_slow : goal.returns-then-is_slow
returns-then-is_slow c =
    told _ _ _ _ _ _ _ _ _ c.step_states.ensures c.count_set.ensures c.if-is_slow.true c.clear.ensures

pub returns-else-is_slow : goal.returns-else-is_slow
returns-else-is_slow c = kept _ _ _ _ _ _ _ _ _ c.step_states.ensures c.count_set.ensures c.if-is_slow.false refl
