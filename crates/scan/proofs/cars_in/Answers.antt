-- `scan::cars_in` meets its contract.
use Rattle.std.proofs.Common.{refl, arith}
use borrow.Author.Tests.{lt-ltb, le-ltb}
use Rattle.channel.specs.Words.{item_of}
use Rattle.scan.proofs.cars_in.Goals as goal

pub returns-then-word-lt-REQUEST_WEIGHT : goal.returns-then-word-lt-REQUEST_WEIGHT
unfolding item_of
returns-then-word-lt-REQUEST_WEIGHT c = rw (lt-ltb _ _ c.if-word-lt-REQUEST_WEIGHT.true) (refl, omega arith)

pub returns-else-word-lt-REQUEST_WEIGHT : goal.returns-else-word-lt-REQUEST_WEIGHT
unfolding item_of
returns-else-word-lt-REQUEST_WEIGHT c = rw (le-ltb _ _ c.if-word-lt-REQUEST_WEIGHT.false) (refl, omega arith)
