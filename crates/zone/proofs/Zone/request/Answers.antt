-- `zone::Zone::request` meets its contract: a sound zone's count is at most 8, and its number is 1 to 8.
use Rattle.std.proofs.Common.{arith}
use Rattle.zone.proofs.Laws.{own-count, own-number}
use Rattle.zone.proofs.Zone.request.Goals as goal

pub is_within-requires : goal.is_within-requires
is_within-requires c = omega (arith, own-count c.args.self (cc))

pub overflow_sub-self : goal.overflow_sub-self
overflow_sub-self c = (own-number c.args.self (cc)).0

pub request-requires : goal.request-requires
request-requires c = omega (arith, own-number c.args.self (cc))
