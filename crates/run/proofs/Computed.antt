-- What an opening and calls on its run are computed by, named once: a computed example that says `unfolding calls_computed` unfolds all of it.
use mathlib.Core.List.{List}
use Rattle.rules.specs.Edition.{is_edition, is_traffic, has_gates}
use Rattle.rules.specs.Questions.{is_count, is_on}
use Rattle.rules.specs.Sets.{has, members}
use Rattle.local.specs.Requesting.{requested_by, started_by}
use Rattle.channel.specs.Words.{item_of, message_word}
use Rattle.channel.specs.Channels.{pushed, moved_down, popped, all_free, requested_all, is_channel}
use Rattle.run.specs.Calls.{is_pair, answer}
use Rattle.run.specs.Lists.{after}
use Rattle.run.specs.Opening.{open_call, opened_run}
use Rattle.run.specs.State.{local_sound, locals_sound, channel_sound, channels_sound, stocks, cars_on_channels, parts_sound, has_started}
use Rattle.run.specs.declared.Opening.{Opening}
use Rattle.run.specs.declared.Run.{Run}
use Rattle.run.specs.declared.SiteCall.{SiteCall}

unfoldable pub calls_computed : Opening → List SiteCall → Run
unfolding is_edition is_traffic has_gates is_count is_on has members requested_by started_by item_of message_word pushed moved_down popped all_free
    requested_all is_channel local_sound locals_sound channel_sound channels_sound stocks cars_on_channels parts_sound has_started
    opened_run is_pair open_call answer
calls_computed o cs = after cs (open_call o).run
