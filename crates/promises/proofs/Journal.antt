-- What reading, writing and converting a journal promise.
use Rattle.journal.specs.Answers.{reading_answer, written_answer, journal_answer}
use Rattle.converter.specs.contracts as converter-contracts
use Rattle.converter.proofs as converter
use Rattle.reader.specs.contracts as reader-contracts
use Rattle.reader.proofs as reader
use Rattle.writer.specs.contracts as writer-contracts
use Rattle.writer.proofs as writer
use Rattle.promises.specs.Answers.{ReadAnswers, WriteAnswers, ConvertAnswers}
use Rattle.promises.specs.Promise.{Keeps}

pub read : Keeps reader-contracts.read.ended reader.read.Symbol.name reader.read.Symbol.code
    (λ _ bytes r. ReadAnswers bytes.now (reading_answer r))
read _ = reader.read.Met.met

pub write : Keeps writer-contracts.write.ended writer.write.Symbol.name writer.write.Symbol.code
    (λ _ run out r. WriteAnswers run out.entry.now (written_answer r) out.exit.now)
write _ = writer.write.Met.met

pub convert : Keeps converter-contracts.convert.ended converter.convert.Symbol.name converter.convert.Symbol.code
    (λ _ conversion journal out r. ConvertAnswers conversion journal.now out.entry.now (journal_answer r) out.exit.now)
convert _ = converter.convert.Met.met
