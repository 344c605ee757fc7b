-- "Converts a journal", as a program: the journal, or its refusal, which stands aside.
use Rattle.std.specs.Prelude.{◌≡◌, ◌≢◌, ℕ, List}
use Rattle.journal.specs.Writing.{PositionedOutput}
use Rattle.text.specs.Text.{refused_text, Prints}
use Rattle.programs.specs.declared.Output.{Output}
use Rattle.programs.specs.declared.Output.TheVariants.{Answer, Aside}

-- What is answered and left of the lent bytes, by what the conversion gives and leaves of them.
abbrev pub Made : PositionedOutput → List ℕ → Output → Type 0
Made o after (Answer n) = (o.answer.refusal ≡ 0) × (n ≡ o.answer.written) × (after ≡ o.bytes)
Made o after (Aside n) = (o.answer.refusal ≢ 0) × Prints (refused_text o.answer.refusal) o.bytes after n
