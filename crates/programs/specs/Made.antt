-- What a program makes of a journal lies within the lent bytes.
use Rattle.std.specs.Prelude.{ℕ}
use Rattle.programs.specs.declared.Output.{Output}
use Rattle.programs.specs.declared.Output.TheVariants.{Answer, Aside}

-- The number of the lent bytes that were written.
abbrev pub bytes_of : Output → ℕ
bytes_of (Answer n) = n
bytes_of (Aside n) = n
