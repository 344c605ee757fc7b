-- Each turn's bytes stand behind those of the turns before.
use Rattle.std.proofs.Common.{rules, arith}
use Rattle.console.proofs.Laws.{consumes_behind}
use Rattle.console.proofs.read_all.Goals as goal

pub loop-at-preserved : goal.loop-at-preserved
loop-at-preserved g c =
    (search rules, consumes_behind _ _ _ _ _ _ _ _ (omega arith) c.in_ok-n.ensures.bound.0 c.loop-at.invariant.1 c.in_ok-n.ensures.bytes.0)
