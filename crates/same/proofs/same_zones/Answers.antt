-- `same::same_zones` meets its contract.
use Rattle.std.proofs.Common.{◌∙◌, arith}
use Rattle.journal.specs.Writing.{same_zones}
use Rattle.same.proofs.Zones.{zones-eq}
use Rattle.same.proofs.same_zones.Goals as goal

pub returns : goal.returns
unfolding same_zones
returns c =
    c.eq.ensures ∙ zones-eq c.args.count c.locals-xs.result c.locals-ys.result (omega arith) (omega arith)
    ∙ rw (c.locals-xs.ensures, c.locals-ys.ensures)
