-- `pager::item_numbers` meets its contract, by the numbers of the items before the next one.
use Rattle.std.proofs.Common.{◌≡◌}
use Rattle.words.specs.Bytes.{words_from}
use Rattle.pager.specs.InnerLines.{item_numbers}
use Rattle.pager.proofs.item_numbers.Given as goal

abbrev pub invariant-loop-i : goal.invariant-loop-i
invariant-loop-i l = l.items ≡ item_numbers (words_from l.recording l.at l.i)
