-- `watch_log::take_step` meets its contract: by the reader's answer. Assumes nothing.
use Rattle.watch_log.proofs.take_step.Goals as goal

pub returns : goal.returns
returns c = (c.take_hop-answer.result, c.take_hop-answer.ensures, c.step_by.ensures)
