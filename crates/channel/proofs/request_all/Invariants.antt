-- As many turns are left as zones, and what sending to those gives is what sending to all gives.
use Rattle.std.proofs.Common.{◌≡◌, ◌+◌, ◌<◌, length}
use Rattle.rules.specs.Sets.{members}
use Rattle.channel.specs.Channels.{channels_as, sent_each}
use Rattle.channel.proofs.request_all.Given as goal

abbrev pub invariant-loop : goal.invariant-loop
invariant-loop l =
    (l.rest < 256) × (l.counter + length (members l.rest) ≡ l.end)
    × (sent_each (members l.rest) (channels_as l.items l.lens) l.from l.word
    ≡ sent_each (members l.initial.rest) (channels_as l.initial.items l.initial.lens) l.from l.word)
