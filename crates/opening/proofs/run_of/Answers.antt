-- `opening::run_of` meets its contract: the head, with no item and no record.
use Rattle.run.specs.Opening.{opened_run}
use Rattle.opening.proofs.run_of.Goals as goal

pub returns : goal.returns
unfolding opened_run
returns c = rw c.head_of-head.ensures
