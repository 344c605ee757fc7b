-- The page's layout: "Each line of the page has 16 characters and a line feed."
use Rattle.std.specs.Prelude.{Bool, cond, List, [], ◌∷◌, ◌++◌, ℕ, ◌+◌, ◌-◌, ◌*◌, ◌/◌, ◌%◌, length, replicate}
use Prim.Native.Char.{code}
use Rattle.rules.specs.Below.{sum, sum_below}
use Rattle.rules.specs.Cut.{Snapshot}
use Rattle.rules.specs.Limits.{most_zones}
use Rattle.rules.specs.Park.{total}
use Rattle.channel.specs.Channels.{most_channels}
use Rattle.text.specs.Text.{space, line_feed, digit_code, column_text}
use Rattle.recording.specs.Layout.{join_below}

-- The bytes of a line, and what is enough for any page: a line for each zone, one for each channel between two of them, and one for the total.
abbrev pub line_bytes : ℕ
line_bytes = 17

abbrev pub most_page_bytes : ℕ
most_page_bytes = line_bytes * (most_zones + most_zones * (most_zones - 1) + 1)

-- A line of five characters and two numbers: one "right-aligned in 4, a space", one "right-aligned in 6".
abbrev pub line_text : List ℕ → ℕ → ℕ → List ℕ
line_text front four six = front ++ (column_text 4 four ++ (space ∷ column_text 6 six ++ (line_feed ∷ [])))

-- `F` for a firm zone, whose checkpoint is permanent.
abbrev pub firm_code : Bool → ℕ
firm_code recorded = cond recorded (code "F") (code "-")

-- "A zone line has `Z`, the number, a space, `F` or `-`, a space, events right-aligned in 4, a space, stock right-aligned in 6": by what is
-- shown of the zone at index i, and of that zone of a snapshot.
unfoldable pub zone_text : (i : ℕ) → Bool → (events stock : ℕ) → List ℕ
zone_text i recorded events stock =
    line_text (code "Z" ∷ digit_code (i + 1) ∷ space ∷ firm_code recorded ∷ space ∷ []) events stock

abbrev pub zone_line : Snapshot → ℕ → List ℕ
zone_line s i = zone_text i (s.recorded i) (s.events i) (s.park.stock i)

-- "A line with recorded items has `L`, sender, receiver, two spaces, items in 4, a space, cars in 6": of the channel from index i to index j.
unfoldable pub channel_text : (i j items cars : ℕ) → List ℕ
channel_text i j items cars =
    line_text (code "L" ∷ digit_code (i + 1) ∷ digit_code (j + 1) ∷ space ∷ space ∷ []) items cars

-- "Empty lines are left out": channels without items, not those whose items have no cars.
abbrev pub channel_line : (i j : ℕ) → List ℕ → List ℕ
channel_line i j [] = []
channel_line i j (c ∷ cs) = channel_text i j (length (c ∷ cs)) (sum (c ∷ cs))

-- The items, by their cars, on the channel at index k: from the zone at index k / 8 to that at k % 8.
abbrev pub channel_of : Snapshot → ℕ → List ℕ
channel_of s k = s.park.channel (k / most_zones) (k % most_zones)

-- The number of lines: of a channel, of the channels before an index, of all.
abbrev pub lines_of : List ℕ → ℕ
lines_of [] = 0
lines_of (c ∷ cs) = 1

unfoldable pub lines_before : Snapshot → ℕ → ℕ
lines_before s n = sum_below n (λ k. lines_of (channel_of s k))

unfoldable pub channel_lines : Snapshot → ℕ
channel_lines s = lines_before s most_channels

-- "The last line has `T`, nine spaces and the total in 6."
unfoldable pub total_text : ℕ → List ℕ
total_text n = code "T" ∷ replicate 9 space ++ (column_text 6 n ++ (line_feed ∷ []))

-- "lines by sender then receiver": a site has no items where it has no channel.
unfoldable pub channels_text : Snapshot → List ℕ
channels_text s = join_below most_channels (λ k. channel_line (k / most_zones) (k % most_zones) (channel_of s k))

-- "Order: zones, lines .., total."
unfoldable pub page_with : (count : ℕ) → Snapshot → (total : ℕ) → List ℕ
page_with count s n = join_below count (zone_line s) ++ (channels_text s ++ total_text n)

-- The page of a recording of a site of so many zones, with the recorded total.
abbrev pub page_text : (count : ℕ) → Snapshot → List ℕ
page_text count s = page_with count s (total count s.park)
