-- The words before the next one: whether their sets name only zones of the site, and their cars.
use Rattle.std.proofs.Common.{◌≡◌, ◌*◌, ◌≤◌, ◌&&◌, length, take, map, leb}
use Rattle.channel.specs.Channels.{len_of, lent_as}
use Rattle.channel.specs.Words.{item_of}
use Rattle.run.specs.State.{sets_within, cars_of}
use Rattle.scan.proofs.channel.Given as goal

abbrev pub invariant-loop-word : goal.invariant-loop-word
invariant-loop-word l =
    (length l.words ≤ 16)
    × (l.sound ≡ (leb (len_of (lent_as l.channels) l.k) 16 && sets_within l.terms.count (map item_of (take l.word-index l.words))))
    × (l.cars ≡ cars_of (map item_of (take l.word-index l.words)))
    × (l.cars ≤ 255 * l.word-index)
