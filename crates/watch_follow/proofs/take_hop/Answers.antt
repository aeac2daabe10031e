-- `watch_follow::take_hop` meets its contract: rises and events by the states before the hop. Assumes nothing.
use Rattle.watch_follow.proofs.Follows.{took}
use Rattle.watch_follow.proofs.take_hop.Goals as goal

pub returns : goal.returns
returns c =
    took _ _ _ _ _ _ _ _ _ _ _ _ _ _ _ c.count_rises.ensures c.add_events.ensures c.is_slow.ensures c.close_hop.ensures c.next_place.ensures
