-- `zone::Zone::start` meets its contract: the number of a sound zone is 1 to 8.
use Rattle.std.proofs.Common.{arith}
use Rattle.zone.proofs.Laws.{own-number}
use Rattle.zone.proofs.Zone.start.Goals as goal

pub overflow_sub-self : goal.overflow_sub-self
overflow_sub-self c = (own-number c.args.self (cc)).0

pub start-requires : goal.start-requires
start-requires c = omega (arith, own-number c.args.self (cc))
