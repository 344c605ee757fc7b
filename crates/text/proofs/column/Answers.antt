-- No place is left: what is written is the whole column.
use Rattle.std.proofs.Common.{arith}
use Rattle.std.proofs.lemmas.Grind.{common_steps}
use Rattle.text.proofs.Columns.{places-column}
use Rattle.text.proofs.column.Goals as goal

pub returns : goal.returns
returns c = grind (arith, common_steps, places-column)
