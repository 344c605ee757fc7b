-- The conversion's program: which conversion its argument names.
use Rattle.std.specs.Prelude.{cond, List, ℕ, None, Some, Option}
use Rattle.text.specs.Codes.{codes}
use Rattle.words.specs.Bytes.{same_words}
use Rattle.conversion.specs.declared.Conversion.{Conversion}
use Rattle.conversion.specs.declared.Conversion.TheVariants.{Upgrade, Downgrade}

unfoldable pub chosen_by : List ℕ → Option Conversion
chosen_by argument =
    cond (same_words argument (codes "upgrade")) (Some Upgrade) (cond (same_words argument (codes "downgrade")) (Some Downgrade) None)
