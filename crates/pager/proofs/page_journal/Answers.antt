-- `pager::page_journal` meets its contract: the refusal of reading or recording, or the page of what the recording's bytes show.
use Rattle.std.proofs.Common.{refl, ◌≤◌, ℕ, length, arith}
use lib.ListN.{replicate, length-replicate}
use Rattle.std.proofs.lemmas.Result.{err_from_is_err_and}
use Rattle.std.specs.Prelude.{Ok}
use Rattle.questions.proofs.RefusalLaws.{number-nonzero}
use Rattle.journal.specs.Answers.{written_answer}
use Rattle.recording.specs.Answers.{journal_recorded_answer}
use Rattle.pager.proofs.Called.{journal-refused, journal-holds, journal-page}
use Rattle.pager.proofs.page_journal.Goals as goal

-- The bytes of the call's own are enough for a recording.
own : 2034 ≤ length (replicate {A = ℕ} 2034 0)
own = omega (arith, length-replicate {A = ℕ} 2034 0)

pub returns-in_err-done : goal.returns-in_err-done
returns-in_err-done c =
    let a = c.args in
    let p = err_from_is_err_and c.from_residual.result c.from_residual.ensures.1 in
    rw (p.1, p.2) (journal-refused a.journal.now (replicate 2034 0) a.out.now _ c.in_err-done.ensures.0 own (number-nonzero _))

pub write_page-requires : goal.write_page-requires
write_page-requires c =
    let a = c.args in
    journal-holds a.journal.now (replicate 2034 0) a.out.now (journal_recorded_answer (Ok c.in_ok-done.done)) c.in_ok-done.ensures.0 _ c.in_ok-done.ensures.1 refl

pub returns-in_err-written : goal.returns-in_err-written
returns-in_err-written c =
    let a = c.args in
    let p = err_from_is_err_and c.from_residual-in_err-written.result c.from_residual-in_err-written.ensures.1 in
    rw (p.1, p.2)
    (journal-page a.journal.now (replicate 2034 0) a.out.now (journal_recorded_answer (Ok c.in_ok-done.done)) c.in_ok-done.ensures.0 _ c.in_ok-done.ensures.1 refl _ _
    c.in_err-written.ensures.0 c.in_err-written.ensures.1)

pub returns : goal.returns
returns c =
    let a = c.args in
    journal-page a.journal.now (replicate 2034 0) a.out.now (journal_recorded_answer (Ok c.in_ok-done.done)) c.in_ok-done.ensures.0 _ c.in_ok-done.ensures.1 refl (written_answer (Ok c.in_ok-written.written)) _
    c.in_ok-written.ensures.0 c.in_ok-written.ensures.1
