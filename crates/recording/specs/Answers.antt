-- What the recording calls answer, by the numbers and values of docs/RULES.md, section 7: "Success is 0", and a refusal "is the number".
use Rattle.std.specs.Prelude.{ℕ, Ok, Err, Result}
use Rattle.questions.specs.Refusal.{number_of}
use Rattle.questions.specs.declared.Refusal.{Refusal}
use Rattle.journal.specs.declared.JournalRefusal.{JournalRefusal}
use Rattle.recording.specs.declared.Recording.{Recording}

-- The number of bytes written, and the recorded total: the recorded stocks and the recorded cars on channels.
pub record Recorded : Type 0 where
  pub refusal : ℕ
  pub written : ℕ
  pub total : ℕ

-- The same of a journal, and the position of the record that was refused with 18 or 19.
pub record JournalRecorded : Type 0 where
  pub refusal : ℕ
  pub position : ℕ
  pub written : ℕ
  pub total : ℕ

-- A refused recording has written nothing, and its total is 0.
abbrev pub recorded_answer : Result Recording Refusal → Recorded
recorded_answer (Ok r) = record { refusal = 0; written = r.written; total = r.total }
recorded_answer (Err e) = record { refusal = number_of e; written = 0; total = 0 }

abbrev pub journal_recorded_answer : Result Recording JournalRefusal → JournalRecorded
journal_recorded_answer (Ok r) = record { refusal = 0; position = 0; written = r.written; total = r.total }
journal_recorded_answer (Err e) = record { refusal = number_of e.refusal; position = e.position; written = 0; total = 0 }
