-- "A page for the wall", printed: the text for a journal.
use Rattle.std.specs.Prelude.{cond, List, ℕ, eqb, take}
use Rattle.page.specs.Journal.{page_journal}
use Rattle.journal.specs.Writing.{PositionedOutput}
use Rattle.text.specs.Text.{refused_text}

-- The text of an answer: the page, or the refusal as the recording program prints it.
abbrev pub wall_output : PositionedOutput → List ℕ
wall_output o = cond (eqb o.answer.refusal 0) (take o.answer.written o.bytes) (refused_text o.answer.refusal)

-- The text where these bytes are lent to the page. From 1,105 bytes on it does not depend on them (`wall-enough`).
unfoldable pub wall_text : (journal lent : List ℕ) → List ℕ
wall_text journal lent = wall_output (page_journal journal lent)
