-- The channels ("lines") of a site: 64 of 16 places each in one list of 1,024 words, and their 64 lengths. The channel from the zone at
-- index i to the zone at index j is at index i * 8 + j.
use Rattle.std.specs.Prelude.{Option, Some, None, Bool, true, cond, ◌||◌, ◌&&◌, not, List, [], ◌∷◌, map, ◌≡◌, ℕ, zero, suc, ◌+◌, ◌-◌, ◌*◌, ◌/◌, ◌%◌, ◌<◌, ◌≤◌, ltb, eqb, length, get_or, set, take, drop}
use Rattle.rules.specs.Below.{all_below}
use Rattle.rules.specs.Limits.{places, most_zones}
use Rattle.rules.specs.Sets.{has, members}
use Rattle.rules.specs.Site.{Item}
use Rattle.channel.specs.Words.{item_of, request_word}
use Rattle.channel.specs.declared.Channels.{Channels}
use Rattle.channel.specs.declared.LentChannels.{LentChannels}

-- An index for each ordered pair of zones, and the words of all.
abbrev pub most_channels : ℕ
most_channels = most_zones * most_zones

abbrev pub most_words : ℕ
most_words = most_channels * places

abbrev pub channels_as : List ℕ → List ℕ → Channels
channels_as items lens = record { items = items; lens = lens }

-- The channels whose arrays are lent.
abbrev pub lent_as : LentChannels → Channels
lent_as l = channels_as l.items.now l.lens.now

-- The lists have the lengths of the arrays.
abbrev pub Whole : Channels → Type 0
Whole l = (length l.items ≡ most_words) × (length l.lens ≡ most_channels)

abbrev pub channel_index : ℕ → ℕ → ℕ
channel_index i j = i * most_zones + j

-- Is there a channel at index k on a site of so many zones: "a first-in first-out line for each ordered pair of different zones"?
unfoldable pub is_channel : ℕ → ℕ → Bool
is_channel count k = ltb (k / most_zones) count && ltb (k % most_zones) count && not (eqb (k / most_zones) (k % most_zones))

-- The number of items on channel k.
abbrev pub len_of : Channels → ℕ → ℕ
len_of l k = get_or l.lens k 0

-- The 16 places of channel k.
abbrev pub row : List ℕ → ℕ → List ℕ
row items k = take places (drop (k * places) items)

-- The words on channel k, first in first, and the items that they stand for.
abbrev pub words_on : Channels → ℕ → List ℕ
words_on l k = take (len_of l k) (row l.items k)

abbrev pub items_on : Channels → ℕ → List Item
items_on l k = map item_of (words_on l k)

-- The places behind a channel's last item hold 0, so that equal contents are equal values.
abbrev pub Clean : Channels → Type 0
Clean l = (k p : ℕ) → k < most_channels → p < places → len_of l k ≤ p → get_or l.items (k * places + p) 0 ≡ 0

-- Does no channel from the zone at an index hold an item? Asked of the lengths.
unfoldable pub all_empty : List ℕ → ℕ → Bool
all_empty lens from = all_below most_zones (λ j. eqb (get_or lens (channel_index from j) 0) 0)

-- Question 8: "Has the line a free place?"
abbrev pub is_free : Channels → ℕ → Bool
is_free l k = ltb (len_of l k) places

-- One item more at the end of channel k; a full channel stays as it is.
unfoldable pub pushed : Channels → ℕ → ℕ → Channels
pushed l k word =
    cond (is_free l k) (channels_as (set l.items (k * places + len_of l k) word) (set l.lens k (len_of l k + 1))) l

-- The first word of channel k.
abbrev pub first_of : Channels → ℕ → ℕ
first_of l k = get_or l.items (k * places) 0

-- n places from j on take what stands behind them.
unfoldable pub moved_down : List ℕ → ℕ → ℕ → List ℕ
moved_down xs j zero = xs
moved_down xs j (suc n) = moved_down (set xs j (get_or xs (suc j) 0)) (suc j) n

-- Channel k without its first item: the others move down and a 0 fills up, so that the places behind the last item hold 0.
unfoldable pub popped : Channels → ℕ → Channels
popped l k =
    channels_as (set (moved_down l.items (k * places) (places - 1)) (k * places + (places - 1)) 0) (set l.lens k (len_of l k - 1))

-- Question 10: "Has each line that must take a request a free place?" The zone at index from sends to each zone of a set.
abbrev pub free_below : ℕ → Channels → ℕ → ℕ → Bool
free_below zero l from to = true
free_below (suc n) l from to = free_below n l from to && (not (has to n) || is_free l (channel_index from n))

unfoldable pub all_free : Channels → ℕ → ℕ → Bool
all_free l from to = free_below most_zones l from to

-- The number of the highest zone of a set, of those below index n, whose channel is full; 0 where all have a free place.
abbrev pub full_below : ℕ → Channels → ℕ → ℕ → ℕ
full_below zero l from to = 0
full_below (suc n) l from to = cond (not (has to n) || is_free l (channel_index from n)) (full_below n l from to) (n + 1)

-- "Looking for a free place on the lines that must take a request": from the highest zone to the lowest.
unfoldable pub highest_full : Channels → ℕ → ℕ → ℕ
highest_full l from to = full_below most_zones l from to

-- What is answered of a zone by its number: none of 0, which names none.
abbrev pub numbered : ℕ → Option ℕ
numbered n = cond (eqb n 0) None (Some n)

-- A word on the channel to each of some zones.
abbrev pub sent_each : List ℕ → Channels → ℕ → ℕ → Channels
sent_each [] l from word = l
sent_each (k ∷ ks) l from word = sent_each ks (pushed l (channel_index from k) word) from word

-- A request with a set on the channel to each zone of another set.
unfoldable pub requested_all : Channels → ℕ → ℕ → ℕ → Channels
requested_all l from to set = sent_each (members to) l from (request_word set)
