-- `steps::take` meets its contract: a message or a request, by the word.
use Rattle.std.proofs.Common.{◌≡◌, ◌<◌, ◌-◌, ◌%◌, arith}
use borrow.Author.Tests.{lt-ltb, le-ltb}
use Rattle.channel.specs.Words.{item_of}
use Rattle.steps.proofs.take.Goals as goal

pub receive-local-requires : goal.receive-local-requires
unfolding item_of
receive-local-requires c =
    let p = c.requires in
    let r = rw (lt-ltb _ _ c.if-word-lt-REQUEST_WEIGHT.true) at p.3 in
    (p.0, r, p.2)

pub returns-then-word-lt-REQUEST_WEIGHT : goal.returns-then-word-lt-REQUEST_WEIGHT
unfolding item_of
returns-then-word-lt-REQUEST_WEIGHT c = rw (lt-ltb _ _ c.if-word-lt-REQUEST_WEIGHT.true, c.receive-local.ensures)

pub returns : goal.returns
unfolding item_of
returns c =
    let w = c.args.word in
    let h : w - 512 < 256 = rw (le-ltb _ _ c.if-word-lt-REQUEST_WEIGHT.false) at c.requires.4 in
    let e : w % 256 ≡ w - 512 = omega arith in
    rw (le-ltb _ _ c.if-word-lt-REQUEST_WEIGHT.false, c.request.ensures, e)
