-- A column written from its right end on: what the code does.
use Rattle.std.specs.Prelude.{Bool, false, cond, not, ◌||◌, List, [], ◌∷◌, ◌++◌, ℕ, zero, suc, ◌/◌, ◌%◌, eqb}
use Rattle.text.specs.Text.{space, digit_code}

-- The character at a place, by what is left of the number there: its digit, or a space where none is left. The last place has a digit always.
unfoldable pub place_code : Bool → ℕ → ℕ
place_code last left = cond (last || not (eqb left 0)) (digit_code (left % 10)) space

-- The first places of a column; does the last of them end it?
abbrev pub places_text : ℕ → Bool → ℕ → List ℕ
places_text zero last left = []
places_text (suc k) last left = places_text k false (left / 10) ++ (place_code last left ∷ [])
