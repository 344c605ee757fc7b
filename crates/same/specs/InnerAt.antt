-- Whether one index for a channel holds the same in both; nothing is asked of a channel that the site does not have. The same of all
-- indices for channels from one zone.
use Rattle.std.specs.Prelude.{Bool, ◌||◌, not, ℕ}
use Rattle.rules.specs.Below.{all_below}
use Rattle.rules.specs.Limits.{most_zones}
use Rattle.channel.specs.Channels.{is_channel, channel_index}
use Rattle.channel.specs.declared.Channels.{Channels}
use Rattle.journal.specs.Writing.{same_channel}

abbrev pub same_at : ℕ → Channels → Channels → ℕ → Bool
same_at count a b k = not (is_channel count k) || same_channel a b k

unfoldable pub same_from : ℕ → Channels → Channels → ℕ → Bool
same_from count a b from = all_below most_zones (λ j. same_at count a b (channel_index from j))
