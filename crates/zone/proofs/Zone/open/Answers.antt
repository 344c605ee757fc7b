-- `zone::Zone::open` meets its contract: a zone of a site has number 1 to 8.
use Rattle.zone.proofs.Laws.{on-site}
use Rattle.zone.proofs.Zone.open.Goals as goal

pub opened-requires : goal.opened-requires
opened-requires c = on-site c.args.count c.args.number (cc) (cc)
