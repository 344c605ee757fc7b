-- Nothing is stored, or all bytes are, and the line feed at the end.
use Rattle.std.proofs.Common.{◌≡◌, [], drop, arith}
use Rattle.std.proofs.lemmas.List.{drop_all}
use Rattle.text.proofs.Laws.{shown-printed, shown-not-printed}
use Rattle.text.proofs.shown.Goals as goal

pub returns-then-out-n : goal.returns-then-out-n
returns-then-out-n c = shown-not-printed _ _ (omega arith)

pub returns : goal.returns
returns c =
    let bytes = c.args.bytes.now in
    let none : drop c.loop-i.i bytes ≡ [] = drop_all c.loop-i.i bytes (omega arith) in
    shown-printed bytes c.args.out.now c.loop-i.out _ (omega arith) (omega arith) (rw none at c.loop-i.invariant)
