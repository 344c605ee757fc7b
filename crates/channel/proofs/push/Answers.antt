-- `push` meets its contract: a full channel stays, and otherwise both writes are those of `pushed`.
use Rattle.std.proofs.Common.{arith, get_or}
use borrow.Author.Tests.{lt-ltb, le-ltb}
use Rattle.channel.specs.Channels.{pushed}
use Rattle.channel.proofs.push.Goals as goal

pub returns-then-n-ge-MOST_ITEMS : goal.returns-then-n-ge-MOST_ITEMS
unfolding pushed
returns-then-n-ge-MOST_ITEMS c =
    let a = c.args in
    rw (le-ltb (get_or a.lens.now a.k 0) 16 (omega arith))

pub returns : goal.returns
unfolding pushed
returns c =
    let a = c.args in
    rw (lt-ltb (get_or a.lens.now a.k 0) 16 (omega arith))
