-- The recording of a journal: reading's refusal with its position, else what recording its run answers.
use Rattle.std.specs.Prelude.{cond, List, ℕ, eqb}
use Rattle.journal.specs.Reading.{read_call}
use Rattle.recording.specs.Call.{RecordOutput, record_call}
use Rattle.recording.specs.Answers.{JournalRecorded}

-- What is answered, and the lent bytes after it.
pub record JournalOutput : Type 0 where
  pub answer : JournalRecorded
  pub bytes : List ℕ

-- Only reading names a position.
abbrev pub output_of : RecordOutput → JournalOutput
output_of o = record {
  answer = record { refusal = o.answer.refusal; position = 0; written = o.answer.written; total = o.answer.total };
  bytes = o.bytes;
}

abbrev pub unread_output : List ℕ → ℕ → ℕ → JournalOutput
unread_output lent n position = record { answer = record { refusal = n; position = position; written = 0; total = 0 }; bytes = lent }

unfoldable pub record_journal : List ℕ → List ℕ → JournalOutput
record_journal bytes lent =
    let t = read_call bytes in
    cond (eqb t.refusal 0) (output_of (record_call t.run lent)) (unread_output lent t.refusal t.position)
