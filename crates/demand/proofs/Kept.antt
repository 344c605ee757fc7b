-- The functions of the site, of the recording, of the page and of the journal keep the facts that `demand-three`, `page-demand` and
-- `conversion-demand` take of their answers, whatever is passed to them: the modules Site, Recording and Journal of crates/promises are the proof.
use Rattle.run.specs.Answer.{opening_answer, call_answer}
use Rattle.journal.specs.Answers.{reading_answer, written_answer, journal_answer}
use Rattle.recording.specs.Answers.{recorded_answer}
use Rattle.run.specs.declared.SiteCall.TheVariants.{Send, Receive, Start, Gate}
use Rattle.rules.specs.declared.Direction.TheVariants.{In, Out}
use Rattle.site.specs.contracts as site-contracts
use Rattle.site.proofs as site
use Rattle.recorder.specs.contracts as recorder-contracts
use Rattle.recorder.proofs as recorder
use Rattle.pager.specs.contracts as pager-contracts
use Rattle.pager.proofs as pager
use Rattle.reader.specs.contracts as reader-contracts
use Rattle.reader.proofs as reader
use Rattle.writer.specs.contracts as writer-contracts
use Rattle.writer.proofs as writer
use Rattle.converter.specs.contracts as converter-contracts
use Rattle.converter.proofs as converter
use Rattle.promises.specs.Answers.{OpenAnswers, Answers, RecordAnswers, PageAnswers, ReadAnswers, WriteAnswers, ConvertAnswers}
use Rattle.promises.specs.Promise.{Keeps}
use Rattle.promises.proofs.Site as site-module
use Rattle.promises.proofs.Recording as recording-module
use Rattle.promises.proofs.Journal as journal-module

pub open_kept : Keeps site-contracts.«open».ended site.«open».Symbol.name site.«open».Symbol.code
    (λ _ terms stocks r. OpenAnswers terms stocks.now (opening_answer r))
open_kept = site-module.«open»

pub send-kept : Keeps site-contracts.send.ended site.send.Symbol.name site.send.Symbol.code
    (λ _ run from to cars r. Answers (Send from to cars) run (call_answer run r))
send-kept = site-module.send

pub receive-kept : Keeps site-contracts.receive.ended site.receive.Symbol.name site.receive.Symbol.code
    (λ _ run from to r. Answers (Receive from to) run (call_answer run r))
receive-kept = site-module.receive

pub start-kept : Keeps site-contracts.start.ended site.start.Symbol.name site.start.Symbol.code
    (λ _ run zone r. Answers (Start zone) run (call_answer run r))
start-kept = site-module.start

pub enter-kept : Keeps site-contracts.enter.ended site.enter.Symbol.name site.enter.Symbol.code
    (λ _ run zone cars r. Answers (Gate In zone cars) run (call_answer run r))
enter-kept = site-module.enter

pub leave-kept : Keeps site-contracts.leave.ended site.leave.Symbol.name site.leave.Symbol.code
    (λ _ run zone cars r. Answers (Gate Out zone cars) run (call_answer run r))
leave-kept = site-module.leave

pub record-kept : Keeps recorder-contracts.«record».ended recorder.«record».Symbol.name recorder.«record».Symbol.code
    (λ _ run out r. RecordAnswers run out.entry.now (recorded_answer r) out.exit.now)
record-kept = recording-module.«record»

pub page-kept : Keeps pager-contracts.page.ended pager.page.Symbol.name pager.page.Symbol.code
    (λ _ run out r. PageAnswers run out.entry.now (written_answer r) out.exit.now)
page-kept = recording-module.page

pub read_kept : Keeps reader-contracts.read.ended reader.read.Symbol.name reader.read.Symbol.code
    (λ _ bytes r. ReadAnswers bytes.now (reading_answer r))
read_kept = journal-module.read

pub write_kept : Keeps writer-contracts.write.ended writer.write.Symbol.name writer.write.Symbol.code
    (λ _ run out r. WriteAnswers run out.entry.now (written_answer r) out.exit.now)
write_kept = journal-module.write

pub convert-kept : Keeps converter-contracts.convert.ended converter.convert.Symbol.name converter.convert.Symbol.code
    (λ _ conversion journal out r. ConvertAnswers conversion journal.now out.entry.now (journal_answer r) out.exit.now)
convert-kept = journal-module.convert
