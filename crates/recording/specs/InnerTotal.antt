-- The recorded total by the bytes of a recording: what the code adds up, shown in proofs/ to be the total of the rules.
use Rattle.std.specs.Prelude.{List, [], ◌∷◌, ℕ, ◌+◌, ◌*◌, ◌%◌}
use Rattle.rules.specs.Below.{sum_below}
use Rattle.run.specs.Layout.{second_weight}
use Rattle.words.specs.Bytes.{words_from}
use Rattle.recording.specs.Shown.{stock_word}

-- The cars of the words of some items.
abbrev pub word_cars : List ℕ → ℕ
word_cars [] = 0
word_cars (w ∷ ws) = w % second_weight + word_cars ws

-- The stocks and the cars that the bytes of a recording of so many zones and items show.
unfoldable pub total_in : (count number : ℕ) → List ℕ → ℕ
total_in count number bytes = sum_below count (stock_word bytes) + word_cars (words_from bytes (2 + 4 * count) number)
