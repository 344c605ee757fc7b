-- The recording's layout: "a header word, edition (3), zones minus one (3), number of items on lines (10); for each zone a word with firm
-- (1 bit), zero (5), events (10), then a word of stock; then each item as a kind 0 record, by sender, then receiver, then order sent."
use Rattle.std.specs.Prelude.{cond, List, [], ◌∷◌, ◌++◌, map, ℕ, zero, suc, ◌+◌, ◌*◌, ◌/◌, ◌%◌, length}
use Rattle.rules.specs.Cut.{Snapshot}
use Rattle.rules.specs.Limits.{most_zones, most_records}
use Rattle.run.specs.Layout.{send_record}
use Rattle.words.specs.Bytes.{words_bytes}
use Rattle.journal.specs.Format.{header_of}
use Rattle.channel.specs.Channels.{most_channels, is_channel}
use Rattle.run.specs.declared.Terms.{Terms}

-- Lists one after another, for the numbers below n.
abbrev pub join_below : {A : Type 0} → ℕ → (ℕ → List A) → List A
join_below zero f = []
join_below (suc n) f = join_below n f ++ f n

-- The bytes of the longest recording: a header word, two words for each zone, and a word for each item. There are no more items than records.
abbrev pub most_recording_bytes : ℕ
most_recording_bytes = 2 + 4 * most_zones + 2 * most_records

-- What the firm bit, of a permanent checkpoint, weighs in a zone's first word; and the number of values of the events' field, below it.
abbrev pub permanent_weight : ℕ
permanent_weight = 32768

abbrev pub events_values : ℕ
events_values = 1024

-- The two words of the zone at index i.
abbrev pub zone_words : Snapshot → ℕ → List ℕ
zone_words s i = (cond (s.recorded i) permanent_weight 0 + s.events i) ∷ s.park.stock i ∷ []

-- The words of the items on the channel at index k; none where the site has no channel there.
abbrev pub channel_words : Snapshot → ℕ → List ℕ
channel_words s k = map (send_record (k / most_zones) (k % most_zones)) (s.park.channel (k / most_zones) (k % most_zones))

unfoldable pub item_words : ℕ → Snapshot → List ℕ
item_words count s = join_below most_channels (λ k. cond (is_channel count k) (channel_words s k) [])

-- The words and the bytes of a recording of a site with these terms.
abbrev pub recording_words : Terms → Snapshot → List ℕ
recording_words t s =
    header_of t (length (item_words t.count s)) ∷ join_below t.count (zone_words s) ++ item_words t.count s

unfoldable pub recording_bytes : Terms → Snapshot → List ℕ
recording_bytes t s = words_bytes (recording_words t s)
