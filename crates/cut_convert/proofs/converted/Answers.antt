-- `cut_convert::converted` meets its contract: the journal that is written, or the number of its refusal.
use Rattle.std.proofs.Common.{sym, ap, ◌∙◌}
use Rattle.std.specs.Prelude.{Ok}
use Rattle.questions.proofs.RefusalLaws.{number-nonzero}
use Rattle.journal.specs.Answers.{JournalWritten, journal_answer}
use Rattle.conversion.proofs.Answers.{answer-within}
use Rattle.cut_convert.proofs.converted.Goals as goal

pub returns-in-Ok : goal.returns-in-Ok
returns-in-Ok c =
    let e = c.in-Ok.ensures in record {
      within = answer-within _ _ _ _ _ (journal_answer (Ok c.in-Ok.written)) e.0 e.1;
      made = (sym (ap (λ (w : JournalWritten). w.refusal) e.0), ap (λ (w : JournalWritten). w.written) e.0, e.1);
    }

pub returns-in-Err-clause-made : goal.returns-in-Err-clause-made
returns-in-Err-clause-made c =
    let e = c.in-Err.ensures in
    let n = ap (λ (w : JournalWritten). w.refusal) e.0 in
    (λ z. number-nonzero _ (n ∙ z), rw (← n, ← e.1, ← c.number.ensures) c.refused.ensures)
