-- `items::begins` meets its contract: a channel more adds the number of its items.
use Rattle.std.proofs.Common.{◌<◌, ◌+◌, length, get_or, refl, ◌∙◌, arith}
use lib.ListN.{replicate, length-set}
use lib.Seq.{get_or-set_same}
use Rattle.items.proofs.ChannelBegins.{begins-none, begins-more}
use Rattle.items.proofs.begins.Goals as goal

pub loop-k-init : goal.loop-k-init
loop-k-init c = (refl, omega arith, begins-none _ _ (replicate 65 0) refl)

pub loop-k-preserved : goal.loop-k-preserved
loop-k-preserved c =
    let b = c.loop-k in
    let h = c.number_at.ensures in
    let v = get_or b.begins b.k 0 + c.number_at.result in
    let l : b.k + 1 < length b.begins = omega (arith, b.invariant.0) in (
      length-set b.begins (b.k + 1) v ∙ b.invariant.0,
      omega (arith, get_or-set_same b.begins (b.k + 1) v 0 l, h.1, b.invariant.1),
      begins-more _ _ b.begins b.k c.number_at.result l h.0 b.invariant.2,
    )
