-- The records before the next one are counted.
use Rattle.std.proofs.Common.{length}
use Rattle.items.proofs.Counting.{Seen}
use Rattle.items.proofs.counted.Given as goal

abbrev pub invariant-loop-word : goal.invariant-loop-word
invariant-loop-word l = Seen l.seen l.shown l.words l.ordinals (length l.yielded)
