-- What the recording call and the page call promise, the texts of a recording and of a page, and which conversion an argument names.
use Rattle.journal.specs.Answers.{written_answer, journal_answer}
use Rattle.recording.specs.Answers.{recorded_answer, journal_recorded_answer}
use mathlib.Core.Path.{◌≡◌}
use Rattle.recording.specs.Journal.{record_journal}
use Rattle.page.specs.Journal.{page_journal}
use Rattle.report.specs.Choice.{chosen_by}
use Rattle.report.specs.Report.{report_text}
use Rattle.report.specs.Wall.{wall_text}
use Rattle.text.specs.Text.{Prints}
use Rattle.recorder.specs.contracts as recorder-contracts
use Rattle.recorder.proofs as recorder
use Rattle.pager.specs.contracts as pager-contracts
use Rattle.pager.proofs as pager
use Rattle.report.specs.contracts as report-contracts
use Rattle.report.proofs as report-part
use Rattle.promises.specs.Answers.{RecordAnswers, PageAnswers}
use Rattle.promises.specs.Promise.{Keeps}

pub «record» : Keeps recorder-contracts.«record».ended recorder.«record».Symbol.name recorder.«record».Symbol.code
    (λ _ run out r. RecordAnswers run out.entry.now (recorded_answer r) out.exit.now)
«record» _ = recorder.«record».Met.met

pub record-journal : Keeps recorder-contracts.record_journal.ended recorder.record_journal.Symbol.name recorder.record_journal.Symbol.code
    (λ _ bytes out r. (journal_recorded_answer r ≡ (record_journal bytes.now out.entry.now).answer) × (out.exit.now ≡ (record_journal bytes.now out.entry.now).bytes))
record-journal _ = recorder.record_journal.Met.met

pub report : Keeps report-contracts.report.ended report-part.report.Symbol.name report-part.report.Symbol.code
    (λ _ journal out r. Prints (report_text journal.now) out.entry.now out.exit.now r)
report _ = report-part.report.Met.met

pub page : Keeps pager-contracts.page.ended pager.page.Symbol.name pager.page.Symbol.code
    (λ _ run out r. PageAnswers run out.entry.now (written_answer r) out.exit.now)
page _ = pager.page.Met.met

pub page-journal : Keeps pager-contracts.page_journal.ended pager.page_journal.Symbol.name pager.page_journal.Symbol.code
    (λ _ journal out r. (journal_answer r ≡ (page_journal journal.now out.entry.now).answer) × (out.exit.now ≡ (page_journal journal.now out.entry.now).bytes))
page-journal _ = pager.page_journal.Met.met

pub page-text : Keeps report-contracts.page_text.ended report-part.page_text.Symbol.name report-part.page_text.Symbol.code
    (λ _ journal out r. Prints (wall_text journal.now out.entry.now) out.entry.now out.exit.now r)
page-text _ = report-part.page_text.Met.met

pub chosen : Keeps report-contracts.chosen.ended report-part.chosen.Symbol.name report-part.chosen.Symbol.code
    (λ _ argument r. r ≡ chosen_by argument.now)
chosen _ = report-part.chosen.Met.met
