-- The zones not yet looked at are a set of zones, and their highest full one is that of all.
use Rattle.std.proofs.Common.{◌≡◌, ℕ, ◌<◌, List}
use Rattle.channel.specs.Channels.{channels_as, highest_full}
use Rattle.channel.proofs.highest_full.Given as goal

abbrev pub invariant-loop-unseen : goal.invariant-loop-unseen
invariant-loop-unseen l =
    (l.unseen < 256)
    × ((items : List ℕ) → highest_full (channels_as items l.lens) l.from l.unseen ≡ highest_full (channels_as items l.lens) l.from l.initial.unseen)

abbrev pub decreases-loop-unseen : goal.decreases-loop-unseen
decreases-loop-unseen l = l.unseen
