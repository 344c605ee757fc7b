-- What the programs print, as lists of character codes: numbers in columns; "the bytes as two upper-case digits with single spaces and a line
-- feed"; and of a refusal "`refused`, a space, the number and a line feed".
use Rattle.std.specs.Prelude.{◌≡◌, cond, List, [], ◌∷◌, ◌++◌, ℕ, zero, suc, ◌+◌, ◌-◌, ◌*◌, ◌/◌, ◌%◌, leb, ltb, eqb, length, drop, replicate}
use Prim.Native.Char.{code}
use Rattle.text.specs.Codes.{codes}

abbrev pub space : ℕ
space = code " "

abbrev pub line_feed : ℕ
line_feed = code "\n"

-- The digits 0 to 9, then A to F.
unfoldable pub digit_code : ℕ → ℕ
digit_code d = cond (ltb d 10) (code "0" + d) (code "A" + (d - 10))

-- A byte: the high digit, then the low one.
abbrev pub byte_text : ℕ → List ℕ
byte_text b = digit_code (b / 16) ∷ digit_code (b % 16) ∷ []

-- Bytes: no space stands at the end, and no bytes give the line feed alone.
abbrev pub bytes_text : List ℕ → List ℕ
bytes_text [] = line_feed ∷ []
bytes_text (b ∷ []) = byte_text b ++ (line_feed ∷ [])
bytes_text (b ∷ c ∷ bs) = byte_text b ++ (space ∷ bytes_text (c ∷ bs))

-- The digits of a number in decimal, with no 0 in front, where it has at most so many; else its last ones, so many.
abbrev pub decimal_text : (most n : ℕ) → List ℕ
decimal_text zero n = []
decimal_text (suc k) n = cond (ltb n 10) [] (decimal_text k (n / 10)) ++ (digit_code (n % 10) ∷ [])

-- A number right-aligned in a column of so many characters, with spaces in front.
unfoldable pub column_text : (width n : ℕ) → List ℕ
column_text width n = replicate (width - length (decimal_text width n)) space ++ decimal_text width n

-- The first number that has more digits than a column has places.
abbrev pub column_end : ℕ → ℕ
column_end zero = 1
column_end (suc width) = 10 * column_end width

-- The number that the digits of a column, behind spaces, stand for.
abbrev pub read_from : ℕ → List ℕ → ℕ
read_from n [] = n
read_from n (c ∷ cs) = read_from (cond (eqb c space) n (10 * n + (c - code "0"))) cs

abbrev pub read_column : List ℕ → ℕ
read_column = read_from 0

-- `refused` and a space.
abbrev pub refused_word : List ℕ
refused_word = codes "refused "

-- A refusal's number has at most three digits.
abbrev pub refused_text : ℕ → List ℕ
refused_text n = refused_word ++ (decimal_text 3 n ++ (line_feed ∷ []))

-- The characters of a text that are written to lent bytes: all of them, or none where the lent bytes are too few.
abbrev pub fitting : List ℕ → List ℕ → List ℕ
fitting text lent = cond (leb (length text) (length lent)) text []

-- What a writer of a text answers and leaves of the lent bytes: the number of characters written, and these at the front; later bytes keep
-- what they had.
pub record Prints (text lent after : List ℕ) (r : ℕ) : Type 0 where
  pub number : r ≡ length (fitting text lent)
  pub bytes : after ≡ fitting text lent ++ drop r lent
