-- The places that are left, before what is written, are the whole column.
use Rattle.std.proofs.Common.{◌≡◌, ◌++◌, true, drop, nat_eq}
use Rattle.text.specs.InnerColumn.{places_text}
use Rattle.text.proofs.column.Given as goal

abbrev pub invariant-loop-at : goal.invariant-loop-at
invariant-loop-at l = places_text l.at (nat_eq l.at l.width) l.left ++ drop l.at l.out ≡ places_text l.width true l.n
