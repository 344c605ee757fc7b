-- `pager::write_line` meets its contract, by its test.
use Rattle.std.proofs.Common.{arith}
use borrow.Author.Tests.{eq-eqb, ne_eqb}
use Rattle.pager.specs.InnerLines.{line_at}
use Rattle.pager.proofs.Stored.{none-put}
use Rattle.pager.proofs.write_line.Goals as goal

-- `pager::write_line` meets its contract, by its test.
pub returns-then-items-eq0 : goal.returns-then-items-eq0
unfolding line_at
returns-then-items-eq0 c = rw (eq-eqb _ _ c.if-items-eq0.true) (none-put _)

pub write_channel-requires : goal.write_channel-requires
write_channel-requires c =
    (omega (arith, c.requires.0), omega arith, rw (ne_eqb _ _ c.if-items-eq0.false) at c.requires.1)

pub returns : goal.returns
unfolding line_at
returns c = rw (ne_eqb _ _ c.if-items-eq0.false) c.write_channel.ensures
