-- `pager::last_number` meets its contract: its stores are those of the number and the line feed.
use Rattle.pager.proofs.Stored.{last_stored}
use Rattle.pager.proofs.last_number.Goals as goal

pub returns : goal.returns
returns c = last_stored _ _ _ c.requires c.column.ensures
