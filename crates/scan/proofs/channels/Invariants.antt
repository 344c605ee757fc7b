-- The channels from the zones before the next one: they are sound, and the cars are theirs.
use Rattle.std.proofs.Common.{◌≡◌, ◌*◌, ◌≤◌, true}
use Rattle.rules.specs.Below.{all_below, sum_below}
use Rattle.channel.specs.Channels.{lent_as}
use Rattle.scan.specs.InnerAt.{sound_at, cars_at}
use Rattle.scan.proofs.channels.Given as goal

abbrev pub invariant-loop-from : goal.invariant-loop-from
invariant-loop-from l =
    (all_below (l.from * 8) (sound_at l.terms (lent_as l.channels)) ≡ true)
    × (l.cars ≡ sum_below (l.from * 8) (cars_at l.terms (lent_as l.channels)))
    × (l.cars ≤ 32640 * l.from)
