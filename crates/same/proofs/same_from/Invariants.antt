-- The channels to the zones before the next one are the same.
use Rattle.std.proofs.Common.{◌≡◌, true}
use Rattle.rules.specs.Below.{all_below}
use Rattle.channel.specs.Channels.{lent_as, channel_index}
use Rattle.same.specs.InnerAt.{same_at}
use Rattle.same.proofs.same_from.Given as goal

abbrev pub invariant-loop-to : goal.invariant-loop-to
invariant-loop-to l = all_below l.to (λ j. same_at l.count (lent_as l.a) (lent_as l.b) (channel_index l.from j)) ≡ true
