-- The page of a journal: reading's refusal with its position, else what the page call on its run answers.
use Rattle.std.specs.Prelude.{List, ℕ}
use Rattle.journal.specs.Reading.{read_call}
use Rattle.journal.specs.Writing.{PositionedOutput, after_reading}
use Rattle.page.specs.Call.{page_call}

unfoldable pub page_journal : (journal lent : List ℕ) → PositionedOutput
page_journal journal lent =
    let t = read_call journal in
    after_reading t lent (page_call t.run lent)
