-- The zones before the next one: they are sound, and the stocks are theirs.
use Rattle.std.proofs.Common.{◌≡◌, ◌*◌, ◌≤◌, true}
use Rattle.rules.specs.Below.{all_below, sum_below}
use Rattle.run.specs.State.{count_of, zone_at, local_sound}
use Rattle.scan.proofs.zones_of.Given as goal

abbrev pub invariant-loop-z : goal.invariant-loop-z
invariant-loop-z l =
    (all_below l.z-index (λ k. local_sound (count_of l.head) l.head.records (zone_at l.head k)) ≡ true)
    × (l.cars ≡ sum_below l.z-index (λ k. (zone_at l.head k).stock))
    × (l.cars ≤ 65535 * l.z-index)
