-- The character codes of a quoted text, and of several, one after another.
use Rattle.std.specs.Prelude.{List, ℕ}
use mathlib.Core.List as lists
use Prim.Native.Char.{code}
use Prim.Native.String.{String, [], ◌∷◌}

abbrev pub codes : String → List ℕ
codes [] = lists.[]
codes (c ∷ s) = lists.◌∷◌ (code c) (codes s)

abbrev pub codes_of : List String → List ℕ
codes_of lists.[] = lists.[]
codes_of (lists.◌∷◌ s ss) = lists.◌++◌ (codes s) (codes_of ss)
