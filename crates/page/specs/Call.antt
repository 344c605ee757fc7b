-- The page call.
use Rattle.std.specs.Prelude.{List, ℕ}
use Rattle.rules.specs.Questions.{Question, ask}
use Rattle.run.specs.State.{count_of}
use Rattle.run.specs.declared.Run.{Run}
use Rattle.journal.specs.Writing.{Output, refused_output, written_output}
use Rattle.recording.specs.Call.{recording_questions, snapshot_of}
use Rattle.page.specs.Layout.{page_text}

-- The page of a run's recording.
abbrev pub page_of : Run → List ℕ
page_of r = page_text (count_of r.head) (snapshot_of r)

-- "Questions are those of the recording, 14 for the page's bytes."
abbrev pub page_questions : Run → (lent : List ℕ) → List Question
page_questions r lent = recording_questions r (page_of r) lent

-- "Like both writers, each call that fills lent bytes .. keeps the later ones and gives the number written."
unfoldable pub page_call : Run → (lent : List ℕ) → Output
page_call r lent = ask (page_questions r lent) (refused_output lent) (written_output lent (page_of r))
