-- A page by the bytes of a recording: what the code counts and writes, shown in proofs/ to be the page of what they show.
use Rattle.std.specs.Prelude.{◌≡◌, cond, List, [], ◌∷◌, ◌++◌, ℕ, ◌+◌, ◌*◌, ◌/◌, ◌%◌, ◌<◌, ◌≤◌, leb, eqb, length, drop, get_or}
use Rattle.rules.specs.Below.{sum, sum_below, list_below}
use Rattle.rules.specs.Limits.{most_zones}
use Rattle.rules.specs.Questions.{question, ask}
use Rattle.rules.proofs.Lists.{All}
use Rattle.channel.specs.Channels.{most_channels, channel_index}
use Rattle.run.specs.Layout.{second_weight}
use Rattle.words.specs.Bytes.{word_at}
use Rattle.words.specs.Header.{zones_in, number_in}
use Rattle.journal.specs.Writing.{Output, refused_output, written_output}
use Rattle.recording.specs.Layout.{join_below, permanent_weight, events_values}
use Rattle.recording.specs.Shown.{zone_word, stock_word, items_in, cars_shown, shown_in}
use Rattle.page.specs.Layout.{zone_text, channel_text, page_with}

-- A text is put at the front of what was lent: n bytes, and later bytes keep what they had.
pub record Put (text before after : List ℕ) (n : ℕ) : Type 0 where
  pub number : n ≡ length text
  pub bytes : after ≡ text ++ drop n before

-- The lines of the first zones.
unfoldable pub zone_lines : List ℕ → ℕ → List ℕ
zone_lines bytes n =
    join_below n (λ i. zone_text i (leb permanent_weight (zone_word bytes i)) (zone_word bytes i % events_values) (stock_word bytes i))

-- The items on each channel, of the words of some items; and their cars: "these sums stand first in an 8 by 8 table of cars, sender by receiver".
unfoldable pub item_numbers : List ℕ → List ℕ
item_numbers ws = list_below most_channels (λ k. length (cars_shown k ws))

unfoldable pub table_of : List ℕ → List (List ℕ)
table_of ws = list_below most_zones (λ i. list_below most_zones (λ j. sum (cars_shown (channel_index i j) ws)))

-- The line of the channel at index k with so many items and cars; none without items.
unfoldable pub line_at : (k items cars : ℕ) → List ℕ
line_at k items cars = cond (eqb items 0) [] (channel_text (k / most_zones) (k % most_zones) items cars)

-- Those of the first channels, of the items and the cars of each, and how many they are.
abbrev pub line_in : List ℕ → List (List ℕ) → ℕ → List ℕ
line_in items cars k = line_at k (get_or items k 0) (get_or (get_or cars (k / most_zones) []) (k % most_zones) 0)

unfoldable pub lines_in : List ℕ → List (List ℕ) → ℕ → List ℕ
lines_in items cars n = join_below n (line_in items cars)

unfoldable pub lines_number : List ℕ → ℕ → ℕ
lines_number items n = sum_below n (λ k. cond (eqb (get_or items k 0) 0) 0 1)

-- The bytes have the items that their header tells of, and these are on channels: what a recording has.
pub record Holds (bytes : List ℕ) : Type 0 where
  pub room : 2 + 4 * zones_in (word_at bytes 0) + 2 * number_in (word_at bytes 0) ≤ length bytes
  pub channels : All (λ w. w / second_weight < most_channels) (items_in bytes)

-- The page of what the bytes show, with this total.
unfoldable pub page_in : (bytes : List ℕ) → (total : ℕ) → List ℕ
page_in bytes total = page_with (zones_in (word_at bytes 0)) (shown_in bytes) total

-- Question 14, and what a writer of this text answers.
unfoldable pub sized_page : (lent text : List ℕ) → Output
sized_page lent text = ask (question 14 (leb (length text) (length lent)) ∷ []) (refused_output lent) (written_output lent text)
