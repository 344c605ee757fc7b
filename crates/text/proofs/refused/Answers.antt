-- The stores are those of the word, the digits and the line feed.
use Rattle.std.proofs.Common.{arith}
use Rattle.text.proofs.Columns.{digits-stored}
use Rattle.text.proofs.Laws.{refused-printed}
use Rattle.text.proofs.refused.Goals as goal

pub returns : goal.returns
returns c =
    let size = c.size-last in
    refused-printed c.args.n _ c.word.new.out _ size.result size.ensures.0 (omega arith) c.word.ensures
    (digits-stored 8 c.args.n size.result c.word.new.out c.column.new.out size.ensures.0 (omega arith) c.column.ensures)
