-- The items among the records from the next one on are written.
use Rattle.items.specs.InnerItems.{begin_at}
use Rattle.items.proofs.Walking.{Walked, Ahead, final}
use Rattle.items.proofs.write.Given as goal

abbrev pub invariant-loop-i : goal.invariant-loop-i
invariant-loop-i l =
    Ahead l.begins l.out l.ends l.missing l.i
    × Walked (begin_at l.count l.seen) l.shown l.words l.ordinals
    (final l.count l.seen l.shown l.words l.ordinals l.initial.out) l.out l.ends l.missing l.i
