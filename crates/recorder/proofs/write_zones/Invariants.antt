-- `recorder::write_zones` meets its contract: the words of the zones before the next one.
use Rattle.words.specs.InnerWrote.{Wrote}
use Rattle.run.specs.Opening.{stock_at}
use Rattle.run.specs.State.{zone_at}
use Rattle.recording.specs.Layout.{join_below}
use Rattle.recorder.specs.InnerWords.{checkpoint_words}
use Rattle.recorder.proofs.write_zones.Given as goal

abbrev pub invariant-loop-i : goal.invariant-loop-i
invariant-loop-i l =
    Wrote (join_below l.i (λ j. checkpoint_words (zone_at l.head j).checkpoint (stock_at l.head.opening j))) l.initial.out l.out l.at
