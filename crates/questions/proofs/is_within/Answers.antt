-- `questions::is_within` meets its contract.
use Rattle.questions.proofs.Laws.{shift-test}
use Rattle.questions.proofs.is_within.Goals as goal

pub returns : goal.returns
returns c = shift-test c.args.set c.args.count
