-- "A program that reads a journal from standard input and prints its recording": the text for a journal.
use Rattle.std.specs.Prelude.{cond, List, ℕ, eqb, take, replicate}
use Rattle.recording.specs.Journal.{JournalOutput, record_journal}
use Rattle.recording.specs.Layout.{most_recording_bytes}
use Rattle.text.specs.Text.{bytes_text, refused_text}

-- The text of an answer: the bytes written, or the refusal.
abbrev pub output_text : JournalOutput → List ℕ
output_text o = cond (eqb o.answer.refusal 0) (bytes_text (take o.answer.written o.bytes)) (refused_text o.answer.refusal)

-- 2,034 bytes are enough for any recording.
unfoldable pub report_text : List ℕ → List ℕ
report_text journal = output_text (record_journal journal (replicate most_recording_bytes 0))
