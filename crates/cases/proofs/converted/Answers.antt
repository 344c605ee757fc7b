-- `cases::converted`: what a conversion writes lies within the lent bytes.
use Rattle.std.proofs.Common.{◌≤◌, length, sym}
use Rattle.std.specs.Prelude.{Ok}
use lib.Seq.{length-take-le}
use Rattle.journal.specs.Answers.{journal_answer}
use Rattle.conversion.proofs.Answers.{answer-within}
use Rattle.cases.proofs.converted.Goals.{In-Ok}
use Rattle.cases.proofs.converted.Goals as goal

within : (c : In-Ok) → c.in-Ok.n ≤ length c.convert.new.out
within c = answer-within _ _ _ _ _ (journal_answer (Ok c.in-Ok.n)) c.in-Ok.ensures.0 c.in-Ok.ensures.1

pub slice_bounds-bytes-end : goal.slice_bounds-bytes-end
slice_bounds-bytes-end c = within c

pub slice_bounds-shown-end : goal.slice_bounds-shown-end
slice_bounds-shown-end c = sym (length-take-le _ _ (within (goal.at.slice_bounds-shown-end c).In-Ok))
