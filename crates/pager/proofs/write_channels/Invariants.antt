-- `pager::write_channels` meets its contract: the lines of the channels before the next one.
use Rattle.pager.specs.InnerLines.{Put, lines_in}
use Rattle.pager.proofs.write_channels.Given as goal

abbrev pub invariant-loop-k : goal.invariant-loop-k
invariant-loop-k l = Put (lines_in l.items l.cars l.k) l.initial.out l.out l.at
