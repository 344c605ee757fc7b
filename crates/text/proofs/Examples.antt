-- The texts of case A's recording and of a refused one, and short texts, by computing.
use mathlib.Core.Path.{◌≡◌, refl}
use mathlib.Core.List.{[], ◌∷◌}
use Rattle.text.specs.Codes.{codes}
use Rattle.text.specs.Text.{digit_code, bytes_text, column_text, refused_text}

case-a : bytes_text (
    0x28 ∷ 0x01 ∷ 0x80 ∷ 0x02 ∷ 0x00 ∷ 0x04 ∷ 0x80 ∷ 0x01 ∷ 0x00 ∷ 0x18 ∷ 0x00 ∷ 0x00 ∷ 0x00 ∷ 0x1E ∷ 0x02 ∷ 0x02 ∷ []
    )
    ≡ codes "28 01 80 02 00 04 80 01 00 18 00 00 00 1E 02 02\n"
unfolding digit_code
case-a = refl

-- No bytes, every digit, and refusals of one, two and three digits.
short-texts : (bytes_text [] ≡ codes "\n")
    × (bytes_text (0x01 ∷ 0x23 ∷ 0x45 ∷ 0x67 ∷ 0x89 ∷ 0xAB ∷ 0xCD ∷ 0xEF ∷ []) ≡ codes "01 23 45 67 89 AB CD EF\n")
    × (refused_text 4 ≡ codes "refused 4\n") × (refused_text 13 ≡ codes "refused 13\n") × (refused_text 255 ≡ codes "refused 255\n")
unfolding digit_code
short-texts = (refl, refl, refl, refl, refl)

-- Columns: of one digit, of as many as there are places, of 0, of more than there are places, and without a place.
columns : (column_text 4 2 ≡ codes "   2") × (column_text 6 65790 ≡ codes " 65790") × (column_text 4 1000 ≡ codes "1000") × (column_text 4 0 ≡ codes "   0")
    × (column_text 6 320280 ≡ codes "320280") × (column_text 4 10203 ≡ codes "0203") × (column_text 0 7 ≡ [])
unfolding digit_code column_text
columns = (refl, refl, refl, refl, refl, refl, refl)
