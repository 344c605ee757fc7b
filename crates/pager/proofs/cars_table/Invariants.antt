-- `pager::cars_table` meets its contract, by the cars of the items before the next one.
use Rattle.std.proofs.Common.{◌≡◌}
use Rattle.words.specs.Bytes.{words_from}
use Rattle.pager.specs.InnerLines.{table_of}
use Rattle.pager.proofs.cars_table.Given as goal

abbrev pub invariant-loop-i : goal.invariant-loop-i
invariant-loop-i l = l.cars ≡ table_of (words_from l.recording l.at l.i)
