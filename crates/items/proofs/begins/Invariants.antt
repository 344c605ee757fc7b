-- Up to the next channel each start is right, and the one there is small enough for the next sum.
use Rattle.std.proofs.Common.{◌≡◌, ◌≤◌, ◌*◌, get_or, length}
use Rattle.items.specs.InnerItems.{Begins}
use Rattle.items.proofs.begins.Given as goal

abbrev pub invariant-loop-k : goal.invariant-loop-k
invariant-loop-k l = (length l.begins ≡ 65) × (get_or l.begins l.k 0 ≤ 65535 * l.k) × Begins l.k l.begins l.count l.seen
