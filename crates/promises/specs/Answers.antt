-- What the site engine, the recording call, the page call, the journal's reader and writer and the conversion answer, each a fact of values alone.
-- The modules Site, Recording and Journal say that the functions keep these facts; demand 3 rests on them and on nothing else of the functions.
use Rattle.std.specs.Prelude.{◌≡◌, List, ℕ}
use Rattle.run.specs.Calls.{answer}
use Rattle.run.specs.Opening.{opening_as, open_call}
use Rattle.run.specs.Answer.{Answer}
use Rattle.run.specs.declared.Run.{Run}
use Rattle.run.specs.declared.SiteCall.{SiteCall}
use Rattle.run.specs.declared.Terms.{Terms}
use Rattle.recording.specs.Call.{record_call}
use Rattle.recording.specs.Answers.{Recorded}
use Rattle.journal.specs.Reading.{read_call}
use Rattle.journal.specs.Writing.{write_call}
use Rattle.journal.specs.Answers.{JournalWritten, Reading, Written}
use Rattle.page.specs.Call.{page_call}
use Rattle.conversion.specs.Call.{convert_call}
use Rattle.conversion.specs.declared.Conversion.{Conversion}

-- The opening with these terms and stocks answers a.
abbrev pub OpenAnswers : Terms → List ℕ → Answer → Type 0
OpenAnswers terms stocks a = a ≡ open_call (opening_as terms stocks)

-- The call c, whichever it is, answers a on this run.
abbrev pub Answers : SiteCall → Run → Answer → Type 0
Answers c run a = a ≡ answer c run

-- The recording call on this run, lent these bytes, answers w and leaves `bytes` in their stead.
abbrev pub RecordAnswers : Run → (lent : List ℕ) → Recorded → (bytes : List ℕ) → Type 0
RecordAnswers run lent w bytes = (w ≡ (record_call run lent).answer) × (bytes ≡ (record_call run lent).bytes)

-- The page call on this run, lent these bytes, answers w and leaves `bytes` in their stead.
abbrev pub PageAnswers : Run → (lent : List ℕ) → Written → (bytes : List ℕ) → Type 0
PageAnswers run lent w bytes = (w ≡ (page_call run lent).answer) × (bytes ≡ (page_call run lent).bytes)

-- Reading this journal answers t.
abbrev pub ReadAnswers : (journal : List ℕ) → Reading → Type 0
ReadAnswers journal t = t ≡ read_call journal

-- Writing the journal of this run to these bytes answers w and leaves `bytes` in their stead.
abbrev pub WriteAnswers : Run → (lent : List ℕ) → Written → (bytes : List ℕ) → Type 0
WriteAnswers run lent w bytes = (w ≡ (write_call run lent).answer) × (bytes ≡ (write_call run lent).bytes)

-- The conversion of this journal to these bytes answers w and leaves `bytes` in their stead.
abbrev pub ConvertAnswers : Conversion → (journal lent : List ℕ) → JournalWritten → (bytes : List ℕ) → Type 0
ConvertAnswers c journal lent w bytes = (w ≡ (convert_call c journal lent).answer) × (bytes ≡ (convert_call c journal lent).bytes)
