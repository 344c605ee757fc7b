-- `LentChannels::on` meets its contract.
use Rattle.channel.specs.Channels.{lent_as}
use Rattle.channel.proofs.Indices.{words-lent}
use Rattle.channel.proofs.LentChannels.on.Goals as goal

pub returns : goal.returns
returns c = words-lent (lent_as c.args.self) c.args.k _ c.looked_at.ensures
