-- `report::page_text` meets its contract: the refusal of the journal or of its recording, or the page.
use Rattle.std.proofs.Common.{refl}
use Rattle.std.specs.Prelude.{Ok, Err}
use Rattle.questions.proofs.RefusalLaws.{number-nonzero}
use Rattle.journal.specs.Answers.{journal_answer}
use Rattle.report.proofs.Wall.{refused-printed, page-printed}
use Rattle.report.proofs.page_text.Goals as goal

pub returns-in-Ok : goal.returns-in-Ok
returns-in-Ok c =
    page-printed _ _ (journal_answer (Ok c.in-Ok.written)) c.in-Ok.ensures.0 _ c.in-Ok.ensures.1 refl

pub returns-in-Err : goal.returns-in-Err
returns-in-Err c =
    refused-printed _ _ (journal_answer (Err c.in-Err.why)) c.in-Err.ensures.0 _ _ _ c.in-Err.ensures.1 (number-nonzero _) c.refused.ensures
