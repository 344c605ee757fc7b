-- `zone::Zone::receive` meets its contract: the number of another zone of a sound zone's site is 1 to 8.
use Rattle.std.proofs.Common.{arith}
use Rattle.zone.proofs.Laws.{other-number}
use Rattle.zone.proofs.Zone.receive.Goals as goal

pub overflow_sub-from : goal.overflow_sub-from
overflow_sub-from c = (other-number c.args.self _ (cc) (cc)).0

pub receive-next-requires : goal.receive-next-requires
receive-next-requires c =
    let n = other-number c.args.self c.args.from (cc) (cc) in
    rw c.local.ensures (omega arith, omega arith, omega arith)
