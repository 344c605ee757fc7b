-- `pager::page` meets its contract: the recording's refusal, or the page of what its bytes show.
use Rattle.std.proofs.Common.{refl, ◌≤◌, ℕ, length, ◌∙◌, ap, arith}
use lib.ListN.{replicate, length-replicate}
use Rattle.std.proofs.lemmas.Result.{err_from_is_err_and}
use Rattle.std.specs.Prelude.{Ok}
use Rattle.questions.proofs.RefusalLaws.{number-nonzero}
use Rattle.run.proofs.Good.{run-whole}
use Rattle.recording.specs.Answers.{recorded_answer}
use Rattle.journal.specs.Writing.{Output}
use Rattle.pager.proofs.Called.{run-refused, run_holds, run-page}
use Rattle.pager.proofs.page.Goals as goal

-- The bytes of the call's own are enough for a recording.
own : 2034 ≤ length (replicate {A = ℕ} 2034 0)
own = omega (arith, length-replicate {A = ℕ} 2034 0)

pub returns-in_err-done : goal.returns-in_err-done
returns-in_err-done c =
    let p = err_from_is_err_and c.from_residual.result c.from_residual.ensures.1 in
    rw (p.1, p.2)
    (run-refused c.args.run (run-whole c.args.run _ c.well_formed.0) (replicate 2034 0) c.args.out.now _ c.in_err-done.ensures.0 own _ (number-nonzero _) refl)

pub write_page-requires : goal.write_page-requires
write_page-requires c =
    run_holds c.args.run (run-whole c.args.run _ c.well_formed.0) (replicate 2034 0) c.args.out.now (recorded_answer (Ok c.in_ok-done.done)) c.in_ok-done.ensures.0 _ c.in_ok-done.ensures.1 refl

pub returns : goal.returns
returns c =
    let q = run-page c.args.run (run-whole c.args.run _ c.well_formed.0) (replicate 2034 0) c.args.out.now (recorded_answer (Ok c.in_ok-done.done)) c.in_ok-done.ensures.0 _ c.in_ok-done.ensures.1 refl in
    (c.write_page.ensures.0 ∙ ap (λ (o : Output). o.answer) q, c.write_page.ensures.1 ∙ ap (λ (o : Output). o.bytes) q)
