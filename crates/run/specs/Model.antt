-- A run as a site of the rules: zones and channels that the run's site does not have are those of an opening with stock 0.
use Rattle.std.specs.Prelude.{cond, ◌&&◌, [], ltb}
use Rattle.rules.specs.Limits.{most_zones}
use Rattle.rules.specs.Site.{Site}
use Rattle.rules.specs.Zone.{opened}
use Rattle.channel.specs.Channels.{is_channel, channel_index, items_on}
use Rattle.run.specs.State.{edition_of, count_of, zone_at}
use Rattle.run.specs.declared.Run.{Run}

abbrev pub site_of : Run → Site
site_of r = record {
  edition = edition_of r.head;
  zone = λ k. cond (ltb k (count_of r.head)) (zone_at r.head k) (opened k 0);
  channel = λ i j. cond (ltb j most_zones && is_channel (count_of r.head) (channel_index i j)) (items_on r.channels (channel_index i j)) [];
}
