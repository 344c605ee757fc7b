-- `recorder::record_journal` meets its contract: the reading, then what is left of the recording.
use Rattle.std.proofs.Common.{◌≢◌, refl, sym, ◌∙◌, ap}
use Rattle.std.proofs.lemmas.Result.{err_from_is_err_and}
use Rattle.std.specs.Prelude.{Ok}
use Rattle.questions.proofs.RefusalLaws.{number-nonzero}
use Rattle.journal.specs.Answers.{refusal_of, reading_answer}
use Rattle.recording.specs.Answers.{recorded_answer}
use Rattle.recorder.proofs.Recorded.{read-from, journal-recorded, journal-refused}
use Rattle.recorder.proofs.record_journal.Goals as goal

pub returns-in_err-read : goal.returns-in_err-read
returns-in_err-read c =
    let p = err_from_is_err_and c.from_residual.result c.from_residual.ensures.1 in
    let t = reading_answer c.read_in-read.result in
    let z : t.refusal ≢ 0 = λ z. number-nonzero c.in_err-read.field-0.0.refusal (sym (ap refusal_of c.in_err-read.was) ∙ z) in
    let q = journal-refused _ c.args.out.now t c.read_in-read.ensures.0 z in
    rw (p.1, p.2) (rw c.in_err-read.was at q)

pub slice_bounds-record_replayed-end : goal.slice_bounds-record_replayed-end
slice_bounds-record_replayed-end c =
    let z = ap refusal_of c.in_ok-read.was in
    sym (read-from _ (reading_answer c.read_in-read.result) c.read_in-read.ensures.0 z _ _ refl (c.read_in-read.ensures.1 z)).1

pub record_replayed-requires : goal.record_replayed-requires
record_replayed-requires c =
    let z = ap refusal_of c.in_ok-read.was in
    (read-from _ (reading_answer c.read_in-read.result) c.read_in-read.ensures.0 z _ _ refl (c.read_in-read.ensures.1 z)).0

pub returns-in_err-recording : goal.returns-in_err-recording
returns-in_err-recording c =
    let p = err_from_is_err_and c.from_residual-in_err-recording.result c.from_residual-in_err-recording.ensures.1 in
    rw (p.1, p.2)
    (journal-recorded _ (reading_answer c.read_in-read.result) c.read_in-read.ensures.0 (ap refusal_of c.in_ok-read.was) _ _ _ c.in_err-recording.ensures.0 c.in_err-recording.ensures.1)

pub returns : goal.returns
returns c =
    journal-recorded _ (reading_answer c.read_in-read.result) c.read_in-read.ensures.0 (ap refusal_of c.in_ok-read.was) _ (recorded_answer (Ok c.in_ok-recording.recording)) _
    c.in_ok-recording.ensures.0 c.in_ok-recording.ensures.1
