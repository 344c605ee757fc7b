-- The indices to the zones before the next one: they are sound, and the cars are theirs.
use Rattle.std.proofs.Common.{◌≡◌, ◌*◌, ◌≤◌, true}
use Rattle.rules.specs.Below.{all_below, sum_below}
use Rattle.channel.specs.Channels.{lent_as, channel_index}
use Rattle.scan.specs.InnerAt.{sound_at, cars_at}
use Rattle.scan.proofs.channels_from.Given as goal

abbrev pub invariant-loop-to : goal.invariant-loop-to
invariant-loop-to l =
    (all_below l.to (λ j. sound_at l.terms (lent_as l.channels) (channel_index l.from j)) ≡ true)
    × (l.cars ≡ sum_below l.to (λ j. cars_at l.terms (lent_as l.channels) (channel_index l.from j)))
    × (l.cars ≤ 4080 * l.to)
