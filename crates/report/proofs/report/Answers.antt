-- `report::report` meets its contract: the refusal of the journal or of its recording, or the recording.
use Rattle.std.proofs.Common.{ℕ, ◌≤◌, ap, length, refl, sym, arith}
use Rattle.std.specs.Prelude.{Ok, Err}
use lib.ListN.{replicate, length-replicate}
use lib.Seq.{length-take-le}
use Rattle.questions.proofs.RefusalLaws.{number-nonzero}
use Rattle.recording.specs.Answers.{JournalRecorded, journal_recorded_answer}
use Rattle.report.proofs.Laws.{refused-printed, recording-shown, written-fits}
use Rattle.report.proofs.report.Goals.{In-Ok}
use Rattle.report.proofs.report.Goals as goal

-- What is written lies within the lent bytes.
within : (c : In-Ok) → c.in-Ok.recording.written ≤ length c.record_journal.new.out
within c =
    omega (
      arith,
      ap (λ (x : JournalRecorded). x.written) c.in-Ok.ensures.0,
      written-fits c.args.journal.now (replicate 2034 0),
      length-replicate {A = ℕ} 2034 0,
    )

pub slice_bounds-bytes-end : goal.slice_bounds-bytes-end
slice_bounds-bytes-end c = within c

pub slice_bounds-shown-end : goal.slice_bounds-shown-end
slice_bounds-shown-end c = sym (length-take-le _ _ (within (goal.at.slice_bounds-shown-end c).In-Ok))

pub returns-in-Ok : goal.returns-in-Ok
returns-in-Ok c =
    recording-shown _ _ _ _ (journal_recorded_answer (Ok c.in-Ok.recording)) c.in-Ok.ensures.0 _ c.in-Ok.ensures.1 refl
    c.shown.ensures

pub returns-in-Err : goal.returns-in-Err
returns-in-Err c =
    refused-printed _ _ _ _ (journal_recorded_answer (Err c.in-Err.e)) c.in-Err.ensures.0 (number-nonzero _) c.refused.ensures
