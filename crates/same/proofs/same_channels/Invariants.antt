-- The channels from the zones before the next one are the same.
use Rattle.std.proofs.Common.{◌≡◌, ◌*◌, true}
use Rattle.rules.specs.Below.{all_below}
use Rattle.channel.specs.Channels.{lent_as}
use Rattle.same.specs.InnerAt.{same_at}
use Rattle.same.proofs.same_channels.Given as goal

abbrev pub invariant-loop-from : goal.invariant-loop-from
invariant-loop-from l = all_below (l.from * 8) (same_at l.count (lent_as l.a) (lent_as l.b)) ≡ true
