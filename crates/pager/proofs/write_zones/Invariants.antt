-- `pager::write_zones` meets its contract: the lines of the zones before the next one.
use Rattle.pager.specs.InnerLines.{Put, zone_lines}
use Rattle.pager.proofs.write_zones.Given as goal

abbrev pub invariant-loop-i : goal.invariant-loop-i
invariant-loop-i l = Put (zone_lines l.recording l.i) l.initial.out l.out l.at
